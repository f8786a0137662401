-- answers-exactly: each call answers by its checks in order, told from the log; turn and receive do so before they search or read.
-- From the exactness of each rule about one session.
use Rattle.std.specs.Prelude.{Option, Some, None}
use mathlib.Core.Path.{◌≡◌, refl, sym, ap, ◌∙◌}
use mathlib.Core.Bool.{Bool, true, false, not, false≢true}
use mathlib.Core.List.{List, [], ◌∷◌}
use Prim.Native.Nat.{ℕ}
use native.Mathlib.Omega.{arith}
use lib.ListN.{length}
use lib.Dec.{eqb, ltb, leb}
use borrow.Author.Tests.{leb-false}
use Rattle.laws.specs.Result.{Result, ok}
use Rattle.laws.proofs.Tests.{not_false}
use Rattle.wire.specs.Message.{is_client, is_server}
use Rattle.state.specs.declared.Stage.{Stage}
use Rattle.state.specs.declared.Stage.TheVariants as stage
use Rattle.state.specs.declared.Setup.{Setup}
use Rattle.protocol.specs.Slot.{queue_size, turn_room}
use Rattle.protocol.specs.Queue.{slot}
use Rattle.protocol.specs.Plan.{Plan, stop, check, take, settle, and_then}
use Rattle.protocol.specs.Receipt.{Taken}
use Rattle.protocol.specs.Ask.{open_ask, put_ask, finish_ask, grant_ask, abort_ask, close_ask}
use Rattle.protocol.specs.Connection.{at, role_of, exchanged, far_start, well_formed}
use Rattle.protocol.specs.Judge.{Report, done, Effect, Decision, refuse, accept, setting_session}
use Rattle.protocol.specs.Call.{is_fresh, is_outstanding, next_ready, serving, unstarted, reading, receive_gate, turn_rule, receive_rule, start_rule, open_rule, put_rule, finish_rule, grant_rule, abort_rule, close_rule, ping_rule, shutdown_rule, lost_rule}
use Rattle.protocol.specs.Observed.{greeted}
use Rattle.protocol.proofs.Plans.{passes, Exactly, exact_takes, exact_stops, takes_all}
use Rattle.protocol.proofs.Views.{greeting_of, greeted_is, pinging_of}
use Rattle.protocol.proofs.Asking.{open_exact, put_exact, finish_exact, grant_exact, abort_exact, close_exact}
use Rattle.history.specs.Log.{Call, start, open_session, put, finish, turn, grant, abort, close, shutdown, lost, receive, State, Entry, out, made, Proper}
use Rattle.history.specs.Log as log
use Rattle.history.proofs.Decisions.{decide, out_by, out_is}
use Rattle.laws.specs.Runs.{fold}
use Rattle.history.specs.Meaning.{Line, meaning}
use Rattle.history.specs.Account.{line_after, Account, account_after, blank_account, observed}
use Rattle.history.specs.Meant.{ungreeted}
use Rattle.history.specs.Answers.{refusing, taken_if, if_up, if_room, if_number, is_pinging, is_unstarted, answer_told}
use Rattle.history.specs.Claims.{AnswersExactly}
use Rattle.history.proofs.Good.{Ok, setup_of, line_of, account_of}
use Rattle.history.proofs.Steps.{formed_up}
use Rattle.history.proofs.Simulation.{observed_is, run_made, made_ok, own_ok, same_setup, ok_formed}
use Rattle.history.proofs.Entries.{of_entries}
use Rattle.history.proofs.Bounded.{run_long}

-- ---- what a rule answers

-- a check that does not hold is passed; what follows it may use that
guarded : (b : Bool) (n : ℕ) (p q : Result Report) → (b ≡ false → p ≡ q) → refusing b n p ≡ refusing b n q
guarded true n p q f = refl
guarded false n p q f = f refl

settle_then : {A B : Type 0} (f : A → B) (p : Plan A) (bad : ℕ → Decision) (good : B → Decision) → settle bad good (and_then f p) ≡ settle bad (λ a. good (f a)) p
unfolding settle
settle_then f (stop n) bad good = refl
settle_then f (check true n p) bad good = refl
settle_then f (check false n p) bad good = settle_then f p bad good
settle_then f (take a) bad good = refl

module _ (s : State) (k : Call) where
  abbrev answers : Plan Effect → Result Report
  answers p = (out_by s k (settle refuse accept p)).answer

  checks : (b : Bool) (n : ℕ) (p : Plan Effect) → answers (check b n p) ≡ refusing b n (answers p)
  unfolding settle
  checks true n p = refl
  checks false n p = refl

  -- one check, and a rest that is known if it is passed
  then_checks : (b : Bool) (n : ℕ) (p : Plan Effect) (q : Result Report) → (b ≡ false → answers p ≡ q) → answers (check b n p) ≡ refusing b n q
  then_checks b n p q f = checks b n p ∙ guarded b n (answers p) q f

  -- the first check of every rule
  formed_first : (p : Plan Effect) → well_formed s.connection ≡ true → answers (check (not (well_formed s.connection)) 14 p) ≡ answers p
  formed_first p e = ap (λ (d : Decision). (out_by s k d).answer) (passes refuse accept 14 p (ap not e))

  up_first : (p : Plan Effect) (q : Result Report) → (exchanged s.connection.stage ≡ true → answers p ≡ q)
      → answers (check (not (exchanged s.connection.stage)) 1 p) ≡ refusing (not (greeted (greeting_of s.connection.stage))) 1 q
  up_first p q f =
      then_checks (not (exchanged s.connection.stage)) 1 p q (λ e. f (not_false (exchanged s.connection.stage) e))
      ∙ sym (ap (λ (b : Bool). refusing (not b) 1 q) (greeted_is s.connection.stage))

  asks : (n : ℕ) (t : Bool) (w : ℕ) (p : Plan Taken) → Exactly t w p → answers (and_then (setting_session s.connection n s.connection.last done) p) ≡ taken_if t w
  asks n t w p h = ap (λ (d : Decision). (out_by s k d).answer) (settle_then f p refuse accept) ∙ go t refl
    where
      f : Taken → Effect
      f = setting_session s.connection n s.connection.last done

      go : (b : Bool) → t ≡ b → (out_by s k (settle refuse (λ a. accept (setting_session s.connection n s.connection.last done a)) p)).answer ≡ taken_if t w
      go true e =
          let z = exact_takes refuse (λ a. accept (f a)) (λ a. Unit {0}) t w p h (takes_all (λ a. tt) p) e in
          ap (λ (d : Decision). (out_by s k d).answer) z.1 ∙ sym (ap (λ (b : Bool). taken_if b w) e)
      go false e = ap (λ (d : Decision). (out_by s k d).answer) (exact_stops refuse (λ a. accept (f a)) t w p h e) ∙ sym (ap (λ (b : Bool). taken_if b w) e)

fresh_is : (st : Stage) → not (is_fresh st) ≡ not (ungreeted (greeting_of st))
fresh_is (stage.Fresh r) = refl
fresh_is stage.Started = refl
fresh_is (stage.Up r far) = refl

outstanding_is : (p : Option ℕ) → is_outstanding p ≡ is_pinging (pinging_of p)
outstanding_is None = refl
outstanding_is (Some k) = refl

-- ---- what turn and receive refuse before they search or read

-- checks that are made a second time change no answer
again_4 : (a b c d : Bool) (n m p q : ℕ) (x : Result Report)
    → refusing a n (refusing b m (refusing c p (refusing d q x))) ≡ refusing a n (refusing b m (refusing c p (refusing d q (refusing a n (refusing b m (refusing c p (refusing d q x)))))))
again_4 true b c d n m p q x = refl
again_4 false true c d n m p q x = refl
again_4 false false true d n m p q x = refl
again_4 false false false true n m p q x = refl
again_4 false false false false n m p q x = refl

again_3 : (a b c : Bool) (n m p : ℕ) (x : Result Report)
    → refusing a n (refusing b m (refusing c p x)) ≡ refusing a n (refusing b m (refusing c p (refusing a n (refusing b m (refusing c p x)))))
again_3 true b c n m p x = refl
again_3 false true c n m p x = refl
again_3 false false true n m p x = refl
again_3 false false false n m p x = refl

unstarted_is : (st : Stage) → unstarted st ≡ is_unstarted (role_of st) (greeting_of st)
unstarted_is (stage.Fresh r) = refl
unstarted_is stage.Started = refl
unstarted_is (stage.Up r far) = refl

module _ (s : State) (formed : well_formed s.connection ≡ true) where
  turn_gate : (room : List ℕ) → (out_by s (turn room) (decide s.connection s.queue (turn room))).answer
      ≡ answer_told (setup_of s.connection) (length s.queue) (account_of s 0) (turn room) (out_by s (turn room) (decide s.connection s.queue (turn room))).answer
  unfolding turn_rule
  turn_gate room = to_rest
      ∙ again_4 s.connection.over (not (greeted (greeting_of s.connection.stage))) (ltb (length room) turn_room) (not (eqb (length s.queue) queue_size)) 2 1 8 8 rest
      ∙ ap (answer_told (setup_of s.connection) (length s.queue) (account_of s 0) (turn room)) (sym to_rest)
    where
      rest : Result Report
      rest = answers s (turn room) (serving s.connection (next_ready s.connection))

      to_rest : answers s (turn room) (turn_rule s.connection (length s.queue) (length room))
          ≡ answer_told (setup_of s.connection) (length s.queue) (account_of s 0) (turn room) rest
      to_rest =
          formed_first s (turn room) _ formed
          ∙ then_checks s (turn room) s.connection.over 2 _ _ (λ _. up_first s (turn room) _ _ (λ _. then_checks s (turn room) (ltb (length room) turn_room) 8 _ _
          (λ _. checks s (turn room) (not (eqb (length s.queue) queue_size)) 8 _)))

  -- a receive's rule, by its checks
  module _ (input room : List ℕ) where
    hears : Plan Unit → Result Report
    hears p = (out_by s (receive input room) (settle refuse (λ go. reading s.connection input s.connection.stage) p)).answer

    heard_checks : (b : Bool) (n : ℕ) (p : Plan Unit) → hears (check b n p) ≡ refusing b n (hears p)
    unfolding settle hears
    heard_checks true n p = refl
    heard_checks false n p = refl

    receive_gate_lem : (out_by s (receive input room) (decide s.connection s.queue (receive input room))).answer
        ≡ answer_told (setup_of s.connection) (length s.queue) (account_of s 0) (receive input room) (out_by s (receive input room) (decide s.connection s.queue (receive input room))).answer
    unfolding receive_rule hears
    receive_gate_lem =
        to_rest ∙ again_3 s.connection.over (is_unstarted (role_of s.connection.stage) (greeting_of s.connection.stage)) (ltb (length room) 12) 2 1 8 (hears (take tt))
        ∙ ap (answer_told (setup_of s.connection) (length s.queue) (account_of s 0) (receive input room)) (sym to_rest)
      where
        to_rest : hears (receive_gate s.connection (length room))
            ≡ answer_told (setup_of s.connection) (length s.queue) (account_of s 0) (receive input room) (hears (take tt))
        to_rest =
            ap (λ (d : Decision). (out_by s (receive input room) d).answer)
            (passes refuse (λ go. reading s.connection input s.connection.stage) 14 (check s.connection.over 2 (check (unstarted s.connection.stage) 1 (check (ltb (length room) 12) 8 (take tt)))) (ap not formed))
            ∙ heard_checks s.connection.over 2 (check (unstarted s.connection.stage) 1 (check (ltb (length room) 12) 8 (take tt)))
            ∙ ap (refusing s.connection.over 2)
            (heard_checks (unstarted s.connection.stage) 1 (check (ltb (length room) 12) 8 (take tt))
            ∙ ap (λ (b : Bool). refusing b 1 (hears (check (ltb (length room) 12) 8 (take tt)))) (unstarted_is s.connection.stage)
            ∙ ap (refusing (is_unstarted (role_of s.connection.stage) (greeting_of s.connection.stage)) 1) (heard_checks (ltb (length room) 12) 8 (take tt)))

-- ---- each call, of a state of a run

module _ (s : State) (o : Ok (setup_of s.connection) s) (formed : well_formed s.connection ≡ true) where
  -- the number that a call names is one of the table, or the account does not matter
  answered : (k : Call) → (out_by s k (decide s.connection s.queue k)).answer
      ≡ answer_told (setup_of s.connection) (length s.queue) (account_of s (meaning k).number) k (out_by s k (decide s.connection s.queue k)).answer
  unfolding start_rule open_rule put_rule finish_rule grant_rule abort_rule close_rule ping_rule shutdown_rule lost_rule settle
  answered (start room) =
      formed_first s (start room) _ formed
      ∙ then_checks s (start room) s.connection.over 2 _ _ (λ _. then_checks s (start room) (ltb (length room) 8) 8 _ _ (λ _. then_checks s (start room) (is_server (role_of s.connection.stage)) 4 _ _
      (λ _. checks s (start room) (not (is_fresh s.connection.stage)) 5 _ ∙ ap (λ (b : Bool). refusing b 5 (ok done)) (fresh_is s.connection.stage))))
  answered (open_session n) =
      formed_first s (open_session n) _ formed
      ∙ then_checks s (open_session n) s.connection.over 2 _ _ (λ _. up_first s (open_session n) _ _ (λ up. then_checks s (open_session n) (leb 128 n) 3 _ _
      (λ _. asks s (open_session n) n _ _ (open_ask (role_of s.connection.stage) (at s.connection n)) (open_exact (far_start s.connection) (at s.connection n) (slot n s.queue) (role_of s.connection.stage)))))
  answered (put n bytes) =
      formed_first s (put n bytes) _ formed
      ∙ then_checks s (put n bytes) s.connection.over 2 _ _ (λ _. up_first s (put n bytes) _ _ (λ up. then_checks s (put n bytes) (not (eqb (length s.queue) queue_size)) 8 _ _
      (λ _. then_checks s (put n bytes) (leb 128 n) 3 _ _
      (λ num. let hn = leb-false 128 n num in
      asks s (put n bytes) n _ _ (put_ask (at s.connection n) (length bytes))
      (put_exact (far_start s.connection) (at s.connection n) (slot n s.queue) (length bytes) (o.fits n hn) (formed_up s o up n hn).waiting)))))
  answered (finish n) =
      formed_first s (finish n) _ formed
      ∙ then_checks s (finish n) s.connection.over 2 _ _ (λ _. up_first s (finish n) _ _ (λ up. then_checks s (finish n) (leb 128 n) 3 _ _
      (λ _. asks s (finish n) n _ _ (finish_ask (at s.connection n)) (finish_exact (far_start s.connection) (at s.connection n) (slot n s.queue)))))
  answered (turn room) = turn_gate s formed room
  answered (grant n amount room) =
      formed_first s (grant n amount room) _ formed
      ∙ then_checks s (grant n amount room) s.connection.over 2 _ _ (λ _. up_first s (grant n amount room) _ _ (λ up. then_checks s (grant n amount room) (ltb (length room) 4) 8 _ _
      (λ _. then_checks s (grant n amount room) (leb 128 n) 3 _ _
      (λ _. asks s (grant n amount room) n _ _ (grant_ask (at s.connection n) amount) (grant_exact (far_start s.connection) (at s.connection n) (slot n s.queue) amount)))))
  answered (abort n partial room) =
      formed_first s (abort n partial room) _ formed
      ∙ then_checks s (abort n partial room) s.connection.over 2 _ _ (λ _. up_first s (abort n partial room) _ _ (λ up. then_checks s (abort n partial room) (ltb (length room) 4) 8 _ _
      (λ _. then_checks s (abort n partial room) (leb 128 n) 3 _ _
      (λ _. asks s (abort n partial room) n _ _ (abort_ask (role_of s.connection.stage) (at s.connection n) partial)
      (abort_exact (far_start s.connection) (at s.connection n) (slot n s.queue) (role_of s.connection.stage) partial)))))
  answered (close n room) =
      formed_first s (close n room) _ formed
      ∙ then_checks s (close n room) s.connection.over 2 _ _ (λ _. up_first s (close n room) _ _ (λ up. then_checks s (close n room) (ltb (length room) 4) 8 _ _
      (λ _. then_checks s (close n room) (leb 128 n) 3 _ _
      (λ num. asks s (close n room) n _ _ (close_ask (role_of s.connection.stage) (at s.connection n))
      (close_exact (far_start s.connection) (at s.connection n) (slot n s.queue) (role_of s.connection.stage) (formed_up s o up n (leb-false 128 n num)).place)))))
  answered (log.ping cookie room) =
      formed_first s (log.ping cookie room) _ formed
      ∙ then_checks s (log.ping cookie room) s.connection.over 2 _ _ (λ _. up_first s (log.ping cookie room) _ _ (λ up. then_checks s (log.ping cookie room) (ltb (length room) 4) 8 _ _
      (λ _. checks s (log.ping cookie room) (is_outstanding s.connection.ping) 13 _ ∙ ap (λ (b : Bool). refusing b 13 (ok done)) (outstanding_is s.connection.ping))))
  answered (shutdown room) =
      formed_first s (shutdown room) _ formed
      ∙ then_checks s (shutdown room) s.connection.over 2 _ _ (λ _. up_first s (shutdown room) _ _ (λ up. then_checks s (shutdown room) (ltb (length room) 4) 8 _ _
      (λ _. checks s (shutdown room) (is_client (role_of s.connection.stage)) 4 _)))
  answered lost = formed_first s lost _ formed ∙ checks s lost s.connection.over 2 _
  answered (receive input room) = receive_gate_lem s formed input room

-- ---- a number above 127 is refused whatever is told of it

line_of_any : (s : Setup) (n m : ℕ) (es : List Entry) (a b : Account) → a.line ≡ b.line → (fold (account_after s n) a es).line ≡ (fold (account_after s m) b es).line
unfolding fold account_after
line_of_any s n m [] a b e = e
line_of_any s n m (x ∷ es) a b e = line_of_any s n m es (account_after s n a x) (account_after s m b x) (ap (λ (l : Line). line_after l x) e)

module _ (s : Setup) (q : ℕ) (a b : Account) (e : a.line ≡ b.line) where
  -- past the checks before it, 3 comes first
  beyond : (n : ℕ) → leb 128 n ≡ true → (x y : Result Report) → if_number n x ≡ if_number n y
  beyond n h x y = ap (λ (c : Bool). refusing c 3 x) h ∙ sym (ap (λ (c : Bool). refusing c 3 y) h)

  up_same : {x y : Result Report} → x ≡ y → if_up a.line x ≡ if_up b.line y
  up_same p = rw (e, p)

  unknown : (k : Call) (rest : Result Report) → leb 128 (meaning k).number ≡ true → answer_told s q a k rest ≡ answer_told s q b k rest
  unknown (start room) rest h = absurd (false≢true h)
  unknown (open_session n) rest h = up_same (beyond n h _ _)
  unknown (put n bytes) rest h = up_same (ap (refusing (not (eqb q queue_size)) 8) (beyond n h _ _))
  unknown (finish n) rest h = up_same (beyond n h _ _)
  unknown (turn room) rest h = absurd (false≢true h)
  unknown (grant n amount room) rest h = up_same (ap (if_room 4 room) (beyond n h _ _))
  unknown (abort n partial room) rest h = up_same (ap (if_room 4 room) (beyond n h _ _))
  unknown (close n room) rest h = up_same (ap (if_room 4 room) (beyond n h _ _))
  unknown (log.ping cookie room) rest h = absurd (false≢true h)
  unknown (shutdown room) rest h = absurd (false≢true h)
  unknown lost rest h = absurd (false≢true h)
  unknown (receive input room) rest h = absurd (false≢true h)

-- ---- for a log

module _ (setup : Setup) (hh : Proper setup) (queue : List ℕ) where
  line_is : (n : ℕ) (ks : List Call) → (observed setup n (log.log setup queue ks)).line ≡ line_of (log.run setup queue ks).connection
  unfolding observed
  line_is n ks =
      line_of_any setup n 0 (log.log setup queue ks) (blank_account setup) (blank_account setup) refl
      ∙ ap (λ (a : Account). a.line) (observed_is setup hh queue ks 0 (omega arith))

  told_calls : (ks : List Call) (k : Call) (rest : Result Report) → answer_told setup (length queue) (account_of (log.run setup queue ks) (meaning k).number) k rest
      ≡ answer_told setup (length queue) (observed setup (meaning k).number (log.log setup queue ks)) k rest
  told_calls ks k rest = go (leb 128 (meaning k).number) refl
    where
      go : (b : Bool) → leb 128 (meaning k).number ≡ b → answer_told setup (length queue) (account_of (log.run setup queue ks) (meaning k).number) k rest
          ≡ answer_told setup (length queue) (observed setup (meaning k).number (log.log setup queue ks)) k rest
      go true e = unknown setup (length queue) (account_of (log.run setup queue ks) (meaning k).number) (observed setup (meaning k).number (log.log setup queue ks)) (sym (line_is (meaning k).number ks)) k rest e
      go false e = ap (λ (a : Account). answer_told setup (length queue) a k rest) (sym (observed_is setup hh queue ks (meaning k).number (leb-false 128 (meaning k).number e)))

  answered_calls : (ks : List Call) (k : Call) → (out (log.run setup queue ks) k).answer
      ≡ answer_told setup (length queue) (observed setup (meaning k).number (log.log setup queue ks)) k (out (log.run setup queue ks) k).answer
  answered_calls ks k =
      let s = log.run setup queue ks in
      let o = run_made setup hh queue ks in
      let x = (out_by s k (decide s.connection s.queue k)).answer in
      rw out_is
      (answered s (own_ok setup s o) (ok_formed setup s o) k
      ∙ ap (λ (z : Setup). answer_told z (length s.queue) (account_of s (meaning k).number) k x) (same_setup setup s o)
      ∙ ap (λ (n : ℕ). answer_told setup n (account_of s (meaning k).number) k x) (run_long setup (made setup queue) ks (made_ok setup hh queue))
      ∙ told_calls ks k x)

  -- for every role, header number, queue and list of calls
  pub answers_exactly : (calls : List Call) → AnswersExactly setup (length queue) (log.log setup queue calls)
  unfolding out
  answers_exactly calls a c e z =
      of_entries setup queue (λ g x. x.answer ≡ answer_told setup (length queue) (observed setup (meaning x.call).number g) x.call x.answer) answered_calls calls a c e z

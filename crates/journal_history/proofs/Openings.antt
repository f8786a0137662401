-- An opening in a run: a turn that serves the number, whose open was unsent before and is not any more.
use mathlib.Core.Path.{◌≡◌, refl, sym, ap, subst, ◌∙◌}
use mathlib.Core.Logic.{◌↔◌}
use mathlib.Core.Bool.{Bool, true, false, not, ◌&&◌}
use mathlib.Core.List.{List, [], ◌∷◌, ◌++◌}
use Prim.Native.Nat.{ℕ, ◌-◌}
use lib.Dec.{eqb, ltb, leb}
use lib.ListN.{length, take}
use borrow.Author.Tests.{eqb-true, eq-eqb}
use Rattle.laws.specs.Result.{Result, ok, refused, violation}
use Rattle.laws.specs.Runs.{run, log_of, fold}
use Rattle.laws.proofs.Runs.{log_append, run_append}
use Rattle.laws.proofs.Tests.{and_first, and_second, and_both, true_false}
use Rattle.wire.specs.declared.Message.TheVariants as msg
use Rattle.wire.specs.Message as wire
use Rattle.wire.specs.Message.{is_client, is_server}
use Rattle.ration.specs.declared.Ration.{Ration}
use Rattle.state.specs.declared.Setup.{Setup}
use Rattle.protocol.specs.Message.{numbered}
use Rattle.protocol.specs.Judge.{Report, done, served, header_received, message}
use Rattle.protocol.specs.Observed.{Sending, silent, sending, sends_after, due_length, due_by, greeted}
use Rattle.protocol.specs.Slot.{queue_size}
use Rattle.protocol.specs.Asked.{is_unsent, may_ask_open, open_number, may_put, put_number, may_finish, may_ask_grant, grant_number, may_ask_abort, abort_number, may_ask_close, close_number}
use Rattle.history.specs.Log.{Call, start, open_session, put, finish, turn, grant, abort, close, ping, shutdown, lost, receive, State, Entry, next, out, made, Proper}
use Rattle.history.specs.Log as log
use Rattle.history.specs.Meaning.{meaning}
use Rattle.history.specs.Account.{Account, observed, events_by_answer, told_by}
use Rattle.history.specs.Written.{all_written}
use Rattle.history.specs.Answers.{refusing, taken_if, is_pinging, answer_told}
use Rattle.history.specs.Meant.{ungreeted}
use Rattle.history.specs.Claims.{data_written, waiting_bytes, Serves, Turns}
use Rattle.history.proofs.Answering.{answers_exactly}
use Rattle.history.proofs.Reading.{receive_reads}
use Rattle.history.proofs.Bounded.{bounded_waiting}
use Rattle.journal_history.specs.Due.{has_open, is_opening}
use Rattle.journal_history.specs.Sessions.{any_begins, begins_session}
use Rattle.journal_history.specs.Claims.{Opening}
use Rattle.journal_history.proofs.Telling.{data_leaves_lem}

-- ---- only a turn serves a number

abbrev is_served : Result Report → Bool
is_served (ok done) = false
is_served (ok (served i)) = true
is_served (ok (header_received far)) = false
is_served (ok (message m late)) = false
is_served (refused n) = false
is_served (violation f) = false

-- checks that refuse, in their order
abbrev refuse_all : List (Bool × ℕ) → Result Report → Result Report
refuse_all [] rest = rest
refuse_all (c ∷ cs) rest = refusing c.0 c.1 (refuse_all cs rest)

unserved : (cs : List (Bool × ℕ)) (rest : Result Report) → is_served rest ≡ false → is_served (refuse_all cs rest) ≡ false
unserved [] rest h = h
unserved (c ∷ cs) rest h = go c.0 (unserved cs rest h)
  where
    go : (b : Bool) → is_served (refuse_all cs rest) ≡ false → is_served (refusing b c.1 (refuse_all cs rest)) ≡ false
    go true q = refl
    go false q = q

unserved_if : (b : Bool) (n : ℕ) → is_served (taken_if b n) ≡ false
unserved_if true n = refl
unserved_if false n = refl

abbrev may_serve : Call → Bool
may_serve (start room) = false
may_serve (open_session n) = false
may_serve (put n bytes) = false
may_serve (finish n) = false
may_serve (turn room) = true
may_serve (grant n amount room) = false
may_serve (abort n partial room) = false
may_serve (close n room) = false
may_serve (ping cookie room) = false
may_serve (shutdown room) = false
may_serve lost = false
may_serve (receive input room) = true

module _ (s : Setup) (q : ℕ) (a : Account) where
  -- the connection is over, or the headers are not exchanged
  abbrev up : List (Bool × ℕ)
  up = (a.line.over, 2) ∷ (not (greeted a.line.greeting), 1) ∷ []

  abbrev small : ℕ → List ℕ → Bool × ℕ
  small asked room = (ltb (length room) asked, 8)

  abbrev high : ℕ → Bool × ℕ
  high n = (leb 128 n, 3)

  told_unserved : (k : Call) (rest : Result Report) → may_serve k ≡ false → is_served (answer_told s q a k rest) ≡ false
  told_unserved (start room) rest h =
      unserved ((a.line.over, 2) ∷ small 8 room ∷ (is_server s.role, 4) ∷ (not (ungreeted a.line.greeting), 5) ∷ []) (ok done) refl
  told_unserved (open_session n) rest h =
      unserved (up ++ high n ∷ []) (taken_if (may_ask_open s.role a.seen) (open_number s.role)) (unserved_if (may_ask_open s.role a.seen) (open_number s.role))
  told_unserved (put n bytes) rest h =
      unserved (up ++ (not (eqb q queue_size), 8) ∷ high n ∷ []) (taken_if (may_put a.seen.sends (length bytes)) (put_number a.seen.sends))
      (unserved_if (may_put a.seen.sends (length bytes)) (put_number a.seen.sends))
  told_unserved (finish n) rest h = unserved (up ++ high n ∷ []) (taken_if (may_finish s.role a.seen) 5) (unserved_if (may_finish s.role a.seen) 5)
  told_unserved (turn room) rest h = absurd (true_false refl h)
  told_unserved (grant n amount room) rest h =
      unserved (up ++ small 4 room ∷ high n ∷ []) (taken_if (may_ask_grant a.seen amount) (grant_number a.seen amount))
      (unserved_if (may_ask_grant a.seen amount) (grant_number a.seen amount))
  told_unserved (abort n partial room) rest h =
      unserved (up ++ small 4 room ∷ high n ∷ []) (taken_if (may_ask_abort s.role a.seen partial) (abort_number s.role partial))
      (unserved_if (may_ask_abort s.role a.seen partial) (abort_number s.role partial))
  told_unserved (close n room) rest h =
      unserved (up ++ small 4 room ∷ high n ∷ []) (taken_if (may_ask_close s.role a.seen) (close_number s.role))
      (unserved_if (may_ask_close s.role a.seen) (close_number s.role))
  told_unserved (ping cookie room) rest h = unserved (up ++ small 4 room ∷ (is_pinging a.line.pinging, 13) ∷ []) (ok done) refl
  told_unserved (shutdown room) rest h = unserved (up ++ small 4 room ∷ (is_client s.role, 4) ∷ []) (ok done) refl
  told_unserved lost rest h = unserved ((a.line.over, 2) ∷ []) (ok done) refl
  told_unserved (receive input room) rest h = absurd (true_false refl h)

-- ---- the open flag of a Data message

pub open_flag : (begin c eof ack : Bool) (i n : ℕ) (rest : List ℕ) → has_open (wire.header (msg.Data begin c eof ack i n) ++ rest) ≡ begin
open_flag true true true true i n rest = refl
open_flag true true true false i n rest = refl
open_flag true true false true i n rest = refl
open_flag true true false false i n rest = refl
open_flag true false true true i n rest = refl
open_flag true false true false i n rest = refl
open_flag true false false true i n rest = refl
open_flag true false false false i n rest = refl
open_flag false true true true i n rest = refl
open_flag false true true false i n rest = refl
open_flag false true false true i n rest = refl
open_flag false true false false i n rest = refl
open_flag false false true true i n rest = refl
open_flag false false true false i n rest = refl
open_flag false false false true i n rest = refl
open_flag false false false false i n rest = refl

opening_served : (m : ℕ) (a : Result Report) (bytes : List ℕ) → is_opening m a bytes ≡ true → (a ≡ ok (served m)) × (has_open bytes ≡ true)
opening_served m (ok done) bytes h = absurd (true_false h refl)
opening_served m (ok (served i)) bytes h =
    (ap (λ (j : ℕ). ok (served j)) (eqb-true i m (and_first (eqb i m) (has_open bytes) h)), and_second (eqb i m) (has_open bytes) h)
opening_served m (ok (header_received far)) bytes h = absurd (true_false h refl)
opening_served m (ok (message x late)) bytes h = absurd (true_false h refl)
opening_served m (refused n) bytes h = absurd (true_false h refl)
opening_served m (violation f) bytes h = absurd (true_false h refl)

-- ---- a call after a run

module _ (setup : Setup) (hh : Proper setup) (queue : List ℕ) (ks : List Call) (k : Call) where
  abbrev st : State
  st = log.run setup queue ks

  abbrev en : Entry
  en = out st k

  pub log_snoc : log.log setup queue (ks ++ k ∷ []) ≡ log.log setup queue ks ++ (en ∷ [])
  unfolding log_of
  log_snoc = log_append next out (made setup queue) ks (k ∷ [])

  pub run_snoc : log.run setup queue (ks ++ k ∷ []) ≡ next st k
  unfolding run
  run_snoc = run_append next out (made setup queue) ks (k ∷ [])

  call_is : en.call ≡ k
  unfolding out
  call_is = refl

  -- what may answer that a number is served
  pub data Serving (i : ℕ) : Type 0 where
    serving : (room : List ℕ) → k ≡ turn room → Serving i

  pub served_turn : (i : ℕ) → en.answer ≡ ok (served i) → Serving i
  served_turn i h = go k refl
    where
      quiet : may_serve k ≡ false → Serving i
      quiet q =
          absurd (true_false (ap is_served h)
          (ap is_served (answers_exactly setup hh queue (ks ++ k ∷ []) (log.log setup queue ks) [] en log_snoc)
          ∙ told_unserved setup (length queue) (observed setup (meaning en.call).number (log.log setup queue ks)) en.call en.answer (ap may_serve call_is ∙ q)))

      go : (c : Call) → k ≡ c → Serving i
      go (start room) q = quiet (ap may_serve q)
      go (open_session n) q = quiet (ap may_serve q)
      go (put n bytes) q = quiet (ap may_serve q)
      go (finish n) q = quiet (ap may_serve q)
      go (turn room) q = serving room q
      go (grant n amount room) q = quiet (ap may_serve q)
      go (abort n partial room) q = quiet (ap may_serve q)
      go (close n room) q = quiet (ap may_serve q)
      go (ping cookie room) q = quiet (ap may_serve q)
      go (shutdown room) q = quiet (ap may_serve q)
      go lost q = quiet (ap may_serve q)
      go (receive input room) q =
          absurd ((receive_reads setup hh queue (ks ++ k ∷ [])).taken (log.log setup queue ks) [] en input room (served i) log_snoc (call_is ∙ q) h)

  module _ (m : ℕ) where
    abbrev before : Sending
    before = (observed setup m (log.log setup queue ks)).seen.sends

    -- a turn serves the number
    pub record Served : Type 0 where
      pub wrote_one : data_written setup en ≡ m ∷ []
      pub serves : Serves setup (log.log setup queue ks) en m

    pub served_so : en.answer ≡ ok (served m) → Served
    served_so h = go (served_turn m h)
      where
        go : Serving m → Served
        go (serving room q) =
            let t : Turns setup (length queue) (log.log setup queue ks) en (length room) =
            (bounded_waiting setup hh queue (ks ++ k ∷ [])).turns (log.log setup queue ks) [] en room log_snoc (call_is ∙ q) in
            let r = t.served_one (served m) h in
            let z : r.0 ≡ m = cc in
            record {
              wrote_one = r.2 ∙ ap (λ (i : ℕ). i ∷ []) z;
              serves = subst (λ (i : ℕ). Serves setup (log.log setup queue ks) en i) z r.3;
            }

    due_open : (v : Sending) (bytes rest : List ℕ) → bytes ≡ wire.header (numbered m (due_by v)) ++ rest → has_open bytes ≡ is_unsent v
    due_open silent bytes rest q = ap has_open q ∙ open_flag false false false false m 0 rest
    due_open (sending u w r f) bytes rest q = ap has_open q ∙ open_flag u false (f && eqb (length w - due_length (length w) r) 0) false m (due_length (length w) r) rest

    pub was_unsent : is_opening m en.answer en.wrote ≡ true → is_unsent before ≡ true
    was_unsent h =
        let o = opening_served m en.answer en.wrote h in
        sym (due_open before en.wrote (take (wire.body_length (numbered m (due_by before))) (waiting_bytes before)) (served_so o.0).serves.message) ∙ o.1

    pub is_sent : (far : Ration) → is_opening m en.answer en.wrote ≡ true
        → is_unsent (fold (sends_after far) before (events_by_answer setup.role m en.call en.wrote en.answer)) ≡ false
    is_sent far h =
        let o = opening_served m en.answer en.wrote h in
        subst (λ (a : Result Report). is_unsent (fold (sends_after far) before (events_by_answer setup.role m en.call en.wrote a)) ≡ false) (sym o.0)
        (data_leaves_lem far m before (all_written setup.role en.wrote) (served_so o.0).wrote_one)

    -- an opening renews nothing
    pub opening_tells : is_opening m en.answer en.wrote ≡ true → begins_session m en ≡ false
    opening_tells h = ap (λ (a : Result Report). any_begins (told_by m en.call a)) (opening_served m en.answer en.wrote h).0

    pub opening_exactly : (is_opening m en.answer en.wrote ≡ true) ↔ Opening m en
    opening_exactly = (there, back)
      where
        there : is_opening m en.answer en.wrote ≡ true → Opening m en
        there h = go before (was_unsent h) (served_so (opening_served m en.answer en.wrote h).0).serves.message
          where
            go : (v : Sending) → is_unsent v ≡ true → en.wrote ≡ wire.header (numbered m (due_by v)) ++ take (wire.body_length (numbered m (due_by v))) (waiting_bytes v)
                → Opening m en
            go silent u q = absurd (true_false u refl)
            go (sending false w r f) u q = absurd (true_false u refl)
            go (sending true w r f) u q =
                record {
                  close = false;
                  eof = f && eqb (length w - due_length (length w) r) 0;
                  ack = false;
                  size = due_length (length w) r;
                  body = take (wire.body_length (numbered m (due_by (sending true w r f)))) w;
                  serves = (opening_served m en.answer en.wrote h).0;
                  message = q;
                }

        back : Opening m en → is_opening m en.answer en.wrote ≡ true
        back o =
            ap (λ (a : Result Report). is_opening m a en.wrote) o.serves
            ∙ and_both (eq-eqb m m refl) (ap has_open o.message ∙ open_flag true o.close o.eof o.ack m o.size o.body)

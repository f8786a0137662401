-- Each local call, where it is taken, keeps what is observed: from the call's lemma about one session.
use mathlib.Core.Path.{◌≡◌, refl, subst}
use mathlib.Core.Bool.{Bool, true, false, false≢true}
use mathlib.Core.List.{List, [], ◌∷◌}
use Prim.Native.Nat.{ℕ, ◌<◌}
use native.Mathlib.Omega.{arith}
use lib.ListN.{length}
use borrow.Author.Tests.{leb-false}
use Rattle.laws.proofs.Tests.{not_false}
use Rattle.ration.specs.Ration.{in_range}
use Rattle.ration.proofs.Laws.{start_in_range}
use Rattle.protocol.specs.Queue.{slot}
use Rattle.protocol.specs.Plan.{Plan, and_then}
use Rattle.protocol.specs.Message.{SessionMessage, increment_of, close_of}
use Rattle.protocol.specs.Receipt.{Taken}
use Rattle.protocol.specs.Ask.{open_ask, finish_ask, grant_ask, abort_ask, close_ask}
use Rattle.protocol.specs.Connection.{at, role_of, exchanged, far_number, far_start, own_start}
use Rattle.protocol.specs.Judge.{done, setting_session}
use Rattle.protocol.specs.Call.{open_rule, finish_rule, grant_rule, abort_rule, close_rule}
use Rattle.protocol.specs.Observed.{Event, opens, finishes, aborts}
use Rattle.laws.specs.Runs.{fold}
use Rattle.protocol.specs.Asked.{is_unsent, may_ask_open, open_number}
use Rattle.protocol.specs.Fate.{fate_of, fate_after}
use Rattle.protocol.proofs.Plans.{Takes, takes_then, takes_map, takes_both, takes_all, exact_true}
use Rattle.protocol.proofs.Views.{Formed}
use Rattle.protocol.proofs.Sound.{Sound}
use Rattle.protocol.proofs.Asking.{open_exact}
use Rattle.protocol.proofs.Fates.{Fated, Unfated, open_fate, finish_fate, grant_fate, abort_fate, close_fate}
use Rattle.protocol.proofs.Sends.{Sends, open_sends, finish_sends, grant_sends, abort_sends, close_sends}
use Rattle.protocol.proofs.Asks.{open_sound, finish_sound, grant_sound, abort_sound, close_sound}
use Rattle.history.specs.Log.{Call, open_session, finish, grant, abort, close, State}
use Rattle.history.specs.Meaning.{meaning}
use Rattle.history.proofs.Good.{Ok, Good, ForSession, setup_of, holds}
use Rattle.history.proofs.Sessions.{session_good}
use Rattle.history.proofs.Written.{only_own, only_other}

-- the outcome is what the events told make of it
abbrev pub Fates : State → ℕ → List Event → Taken → Type 0
Fates s n h t = fate_of t.session.outcome ≡ fold (fate_after (is_unsent (holds s n).sends)) (fate_of (at s.connection n).outcome) h

pub one_fate : (s : State) (n : ℕ) (e : Event) (p : Plan Taken) → Takes (Fated (is_unsent (holds s n).sends) (at s.connection n) e) p → Takes (Fates s n (e ∷ [])) p
unfolding fold
one_fate s n e p h = h

pub no_fate_told : (s : State) (n : ℕ) (p : Plan Taken) → Takes (Unfated (at s.connection n)) p → Takes (Fates s n []) p
unfolding fold
no_fate_told s n p h = h

module _ (s : State) (o : Ok (setup_of s.connection) s) where
  pub formed_up : exchanged s.connection.stage ≡ true → (n : ℕ) → n < 128 → Formed (role_of s.connection.stage) true (at s.connection n)
  formed_up up n h = subst (λ (b : Bool). Formed (role_of s.connection.stage) b (at s.connection n)) up (o.formed n h)

  pub own_range : in_range (own_start s.connection) ≡ true
  own_range = start_in_range s.connection.own (let h = o.proper in omega arith)

  pub far_range : in_range (far_start s.connection) ≡ true
  far_range = start_in_range (far_number s.connection.stage) (let h = o.far in omega arith)

  -- a call about one session that leaves the queue alone and writes no Data; `Told` is what is known where it is taken
  quiet_good : (k : Call) (n : ℕ) (h : List Event) (ms : List SessionMessage) (Told : Type 0) (p : Plan Taken)
      → ((t : Taken) → Sound (role_of s.connection.stage) (own_start s.connection) (far_start s.connection) (at s.connection n) (slot n s.queue) h [] (slot n s.queue) false t
      → Sends ms t → Fates s n h t → Told → ForSession (setup_of s.connection) s k n s.connection.last done h false t)
      → Takes (Sound (role_of s.connection.stage) (own_start s.connection) (far_start s.connection) (at s.connection n) (slot n s.queue) h [] (slot n s.queue) false) p
      → Takes (Sends ms) p → Takes (Fates s n h) p → Takes (λ t. Told) p → Takes (Good (setup_of s.connection) s k) (and_then (setting_session s.connection n s.connection.last done) p)
  quiet_good k n h ms Told p f g l v w =
      let A : Taken → Type 0 =
      Sound (role_of s.connection.stage) (own_start s.connection) (far_start s.connection) (at s.connection n) (slot n s.queue) h [] (slot n s.queue) false in
      takes_then (Good (setup_of s.connection) s k) (setting_session s.connection n s.connection.last done) p
      (takes_map (λ t z. session_good (setup_of s.connection) s k n s.connection.last done h false t o (f t z.0 z.1.0 z.1.1.0 z.1.1.1)) p
      (takes_both A (λ t. Sends ms t × (Fates s n h t × Told)) p g (takes_both (Sends ms) (λ t. Fates s n h t × Told) p l (takes_both (Fates s n h) (λ t. Told) p v w))))

  pub open_good : (n : ℕ) → Takes (Good (setup_of s.connection) s (open_session n)) (open_rule s.connection n)
  unfolding open_rule
  open_good n _ live up num =
      let hn = leb-false 128 n num in
      let hu = not_false (exchanged s.connection.stage) up in
      quiet_good (open_session n) n (opens ∷ []) [] (may_ask_open (role_of s.connection.stage) (holds s n) ≡ true) (open_ask (role_of s.connection.stage) (at s.connection n))
      (λ t snd sends fate w. record {
        mark = refl;
        turns = refl;
        inside = hn;
        last_inside = o.last;
        up = hu;
        sound = snd;
        told = only_own n opens;
        not_told = λ m d. only_other m n opens d;
        frame = λ _ _ _. refl;
        long = refl;
        line = refl;
        untold = λ z. absurd (false≢true z);
        fated = fate;
        goes_on = refl;
        live = live;
        concerns = refl;
        sends = sends;
        quiet = refl;
        heard = λ payload. (w, tt);
      })
      (open_sound (role_of s.connection.stage) (own_start s.connection) (far_start s.connection) (at s.connection n) (slot n s.queue) (formed_up hu n hn))
      (open_sends (role_of s.connection.stage) (at s.connection n)) (one_fate s n opens (open_ask (role_of s.connection.stage) (at s.connection n)) (open_fate (role_of s.connection.stage) (at s.connection n) (is_unsent (holds s n).sends))) (exact_true (may_ask_open (role_of s.connection.stage) (holds s n)) (open_number (role_of s.connection.stage)) (open_ask (role_of s.connection.stage) (at s.connection n)) (open_exact (far_start s.connection) (at s.connection n) (slot n s.queue) (role_of s.connection.stage)))

  pub finish_good : (n : ℕ) → Takes (Good (setup_of s.connection) s (finish n)) (finish_rule s.connection n)
  unfolding finish_rule
  finish_good n _ live up num =
      let hn = leb-false 128 n num in
      let hu = not_false (exchanged s.connection.stage) up in
      quiet_good (finish n) n (finishes ∷ []) [] Unit (finish_ask (at s.connection n))
      (λ t snd sends fate w. record {
        mark = refl;
        turns = refl;
        inside = hn;
        last_inside = o.last;
        up = hu;
        sound = snd;
        told = only_own n finishes;
        not_told = λ m d. only_other m n finishes d;
        frame = λ _ _ _. refl;
        long = refl;
        line = refl;
        untold = λ z. absurd (false≢true z);
        fated = fate;
        goes_on = refl;
        live = live;
        concerns = refl;
        sends = sends;
        quiet = refl;
        heard = λ payload. (tt, tt);
      })
      (finish_sound (role_of s.connection.stage) (own_start s.connection) (far_start s.connection) (at s.connection n) (slot n s.queue) (formed_up hu n hn))
      (finish_sends (at s.connection n)) (one_fate s n finishes (finish_ask (at s.connection n)) (finish_fate (at s.connection n))) (takes_all (λ t. tt) (finish_ask (at s.connection n)))

  pub grant_good : (n amount : ℕ) (room : List ℕ) → Takes (Good (setup_of s.connection) s (grant n amount room)) (grant_rule s.connection n amount (length room))
  unfolding grant_rule
  grant_good n amount room _ live up _ num =
      let hn = leb-false 128 n num in
      let hu = not_false (exchanged s.connection.stage) up in
      quiet_good (grant n amount room) n [] (increment_of amount ∷ []) Unit (grant_ask (at s.connection n) amount)
      (λ t snd sends fate w. record {
        mark = refl;
        turns = refl;
        inside = hn;
        last_inside = o.last;
        up = hu;
        sound = snd;
        told = refl;
        not_told = λ _ _. refl;
        frame = λ _ _ _. refl;
        long = refl;
        line = refl;
        untold = λ z. absurd (false≢true z);
        fated = fate;
        goes_on = refl;
        live = live;
        concerns = refl;
        sends = sends;
        quiet = refl;
        heard = λ payload. tt;
      })
      (grant_sound (role_of s.connection.stage) (own_start s.connection) (far_start s.connection) (at s.connection n) (slot n s.queue) amount (formed_up hu n hn))
      (grant_sends (at s.connection n) amount) (no_fate_told s n (grant_ask (at s.connection n) amount) (grant_fate (at s.connection n) amount)) (takes_all (λ t. tt) (grant_ask (at s.connection n) amount))

  pub abort_good : (n : ℕ) (partial : Bool) (room : List ℕ)
      → Takes (Good (setup_of s.connection) s (abort n partial room)) (abort_rule s.connection n partial (length room))
  unfolding abort_rule
  abort_good n partial room _ live up _ num =
      let hn = leb-false 128 n num in
      let hu = not_false (exchanged s.connection.stage) up in
      quiet_good (abort n partial room) n (aborts ∷ []) ((meaning (abort n partial room)).sends (holds s n)) Unit (abort_ask (role_of s.connection.stage) (at s.connection n) partial)
      (λ t snd sends fate w. record {
        mark = refl;
        turns = refl;
        inside = hn;
        last_inside = o.last;
        up = hu;
        sound = snd;
        told = only_own n aborts;
        not_told = λ m d. only_other m n aborts d;
        frame = λ _ _ _. refl;
        long = refl;
        line = refl;
        untold = λ z. absurd (false≢true z);
        fated = fate;
        goes_on = refl;
        live = live;
        concerns = refl;
        sends = sends;
        quiet = refl;
        heard = λ payload. (tt, tt);
      })
      (abort_sound (role_of s.connection.stage) (own_start s.connection) (far_start s.connection) (at s.connection n) (slot n s.queue) partial (formed_up hu n hn))
      (abort_sends (role_of s.connection.stage) (far_start s.connection) (at s.connection n) (slot n s.queue) partial) (one_fate s n aborts (abort_ask (role_of s.connection.stage) (at s.connection n) partial) (abort_fate (role_of s.connection.stage) (far_start s.connection) (at s.connection n) (slot n s.queue) partial)) (takes_all (λ t. tt) (abort_ask (role_of s.connection.stage) (at s.connection n) partial))

  pub close_good : (n : ℕ) (room : List ℕ) → Takes (Good (setup_of s.connection) s (close n room)) (close_rule s.connection n (length room))
  unfolding close_rule
  close_good n room _ live up _ num =
      let hn = leb-false 128 n num in
      let hu = not_false (exchanged s.connection.stage) up in
      quiet_good (close n room) n [] (close_of ∷ []) Unit (close_ask (role_of s.connection.stage) (at s.connection n))
      (λ t snd sends fate w. record {
        mark = refl;
        turns = refl;
        inside = hn;
        last_inside = o.last;
        up = hu;
        sound = snd;
        told = refl;
        not_told = λ _ _. refl;
        frame = λ _ _ _. refl;
        long = refl;
        line = refl;
        untold = λ z. absurd (false≢true z);
        fated = fate;
        goes_on = refl;
        live = live;
        concerns = refl;
        sends = sends;
        quiet = refl;
        heard = λ payload. tt;
      })
      (close_sound (role_of s.connection.stage) (own_start s.connection) (far_start s.connection) (at s.connection n) (slot n s.queue) (formed_up hu n hn))
      (close_sends (role_of s.connection.stage) (at s.connection n)) (no_fate_told s n (close_ask (role_of s.connection.stage) (at s.connection n)) (close_fate (role_of s.connection.stage) (at s.connection n))) (takes_all (λ t. tt) (close_ask (role_of s.connection.stage) (at s.connection n)))

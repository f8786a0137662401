-- The result of a put: if it is taken, its bytes fit the slot, from the checks that it passed.
use mathlib.Core.Path.{◌≡◌, refl, ap, ◌∙◌}
use mathlib.Core.Bool.{true, false}
use mathlib.Core.List.{List, []}
use Prim.Native.Nat.{ℕ, ◌-◌, ◌<◌, ◌≤◌}
use lib.ListN.{length}
use borrow.Author.Tests.{eq-eqb, lt-ltb, le-leb, eqb-true, ltb-false, leb-false}
use Rattle.std.specs.Prelude as prelude
use Rattle.std.specs.Prelude.{Ok, Err}
use Rattle.laws.proofs.Pick.{yes}
use Rattle.laws.proofs.Tests.{and_both, not_false}
use Rattle.refusal.specs.declared.Refusal.{Refusal}
use Rattle.refusal.specs.Number.{refusal_number}
use Rattle.state.specs.declared.Connection.{Connection}
use Rattle.protocol.specs.Plan.{Plan, stop, check, take, settle}
use Rattle.protocol.specs.Slot.{slot_size, queue_size}
use Rattle.protocol.specs.Queue.{slot, with_slot, put_slot}
use Rattle.protocol.specs.Ask.{put_ask}
use Rattle.protocol.specs.Connection.{at, well_formed}
use Rattle.protocol.specs.Judge.{done, Effect, refuse, setting_session}
use Rattle.protocol.specs.Call.{put_rule}
use Rattle.protocol.specs.Result.{Given, given, if_taken, decided, put_call}
use Rattle.protocol.proofs.Plans.{Takes}
use Rattle.session.specs.declared.Taken.{Taken}
use Rattle.session.specs.Step.{stepped_as}
use Rattle.state.specs.With.{with_session}
use Rattle.connection_check.proofs.Sessions.{waiting_fits_lem}
use Rattle.call_slots.specs.Slots.{put_into}
use Rattle.call_checks.specs.Deciding.{Quiet, decision}
use Rattle.call_checks.proofs.Calls.{giving}
use Rattle.call_put.specs.Put.{putting}
use Rattle.call_checks.proofs.Steps.{step_taken, step_refused}

module _ (c : Connection) (n w : ℕ) (bytes queue : List ℕ) {x : prelude.Result Taken Refusal} {res : Given} where
  -- a put that its session takes
  pub put_taken : {t : Taken} {next : Connection} {last : List ℕ} → x ≡ Ok t → Quiet (stepped_as x) → next ≡ with_session n t.session c
      → last ≡ put_into queue n w bytes → res ≡ giving next 0
      → (res, last) ≡ putting c n w bytes queue (decision (setting_session c n c.last done) (stepped_as x))
  put_taken e q s l g = rw (l, step_taken c n e q s g, e)

  pub put_refused : {r : Refusal} → x ≡ Err r → res ≡ given c [] (refuse (refusal_number r))
      → (res, queue) ≡ putting c n w bytes queue (decision (setting_session c n c.last done) (stepped_as x))
  put_refused e g = rw (step_refused c n e g, e)

-- two queues that are the same whenever the rule takes
same_taken : (p : Plan Effect) (f g : Effect → List ℕ) (q : List ℕ) → Takes (λ e. f e ≡ g e) p → if_taken (decided p) f q ≡ if_taken (decided p) g q
unfolding settle
same_taken (stop n) f g q h = refl
same_taken (check true n p) f g q h = refl
same_taken (check false n p) f g q h = same_taken p f g q (h refl)
same_taken (take e) f g q h = h

-- the slot is served if the checks passed
served : (c : Connection) (n : ℕ) (bytes queue : List ℕ) → well_formed c ≡ true → length queue ≡ queue_size → n < 128
    → length bytes ≤ slot_size - (at c n).waiting
    → put_into queue n (at c n).waiting bytes ≡ with_slot n (put_slot (at c n).waiting bytes (slot n queue)) queue
unfolding put_into
served c n bytes queue formed whole number fits =
    yes _ _ _ (and_both (and_both (eq-eqb _ _ whole) (lt-ltb _ _ number)) (le-leb _ _ (waiting_fits_lem c n formed))) ∙ yes _ _ _ (le-leb _ _ fits)

put_takes : (c : Connection) (n : ℕ) (bytes queue : List ℕ)
    → Takes (λ e. put_into queue n (at c n).waiting bytes ≡ with_slot n (put_slot (at c n).waiting bytes (slot n queue)) queue) (put_rule c n (length bytes) (length queue))
unfolding put_rule put_ask
put_takes c n bytes queue formed runs up whole number may fits =
    served c n bytes queue (not_false _ formed) (eqb-true _ _ (not_false _ whole)) (leb-false _ _ number) (ltb-false _ _ fits)

pub put_is : (c : Connection) (n : ℕ) (bytes queue : List ℕ)
    → putting c n (at c n).waiting bytes queue (decided (put_rule c n (length bytes) (length queue))) ≡ put_call c n bytes queue
unfolding put_call
put_is c n bytes queue =
    ap (λ (q : List ℕ). (given c [] (decided (put_rule c n (length bytes) (length queue))), q))
    (same_taken (put_rule c n (length bytes) (length queue)) _ _ queue (put_takes c n bytes queue))

-- a put that is stopped leaves the queue as it is
pub put_stopped : (c : Connection) (n : ℕ) (bytes queue : List ℕ) {res : Given} {k : ℕ} → res ≡ given c [] (refuse k)
    → refuse k ≡ decided (put_rule c n (length bytes) (length queue)) → (res, queue) ≡ put_call c n bytes queue
put_stopped c n bytes queue g e =
    rw g (ap (putting c n (at c n).waiting bytes queue) e) ∙ put_is c n bytes queue

-- The result of a call on a session, from the result of the session's step: with nothing sent, and with 4 bytes at most.
use mathlib.Core.Path.{◌≡◌, refl, ◌∙◌}
use mathlib.Core.Bool.{true, false}
use mathlib.Core.List.{List, [], map}
use Prim.Native.Nat.{ℕ, ◌≤◌}
use native.Mathlib.Omega.{arith}
use lib.ListN.{length}
use Rattle.std.specs.Prelude as prelude
use Rattle.std.specs.Prelude.{Option, Some, None, Ok, Err}
use Rattle.std.specs.Result.{result_and}
use Rattle.laws.specs.Result.{Result}
use Rattle.refusal.specs.declared.Refusal.{Refusal}
use Rattle.refusal.specs.Number.{refusal_number}
use Rattle.wire.specs.declared.Message.TheVariants as msg
use Rattle.wire.specs.declared.Role.{Role}
use Rattle.state.specs.declared.Side.TheVariants as side
use Rattle.state.specs.declared.Sides.{Sides}
use Rattle.state.specs.declared.Sides.TheVariants as sides
use Rattle.state.specs.declared.Session.{Session}
use Rattle.state.specs.declared.Connection.{Connection}
use Rattle.protocol.specs.Plan.{Plan, stop, check, take, settle}
use Rattle.protocol.specs.Message.{SessionMessage, numbered}
use Rattle.protocol.specs.Receipt as rule
use Rattle.protocol.specs.Ask.{open_of, open_ask}
use Rattle.protocol.specs.Judge.{done, Output, sent, refuse, setting_session}
use Rattle.protocol.specs.Result.{Given, given, bytes_of_all, in_room}
use Rattle.protocol.proofs.Plans.{Takes}
use Rattle.session.specs.declared.Sent.{Sent}
use Rattle.session.specs.declared.Sent.TheVariants as session
use Rattle.session.specs.declared.Taken.{Taken}
use Rattle.session.specs.Step.{sent_as, taken_as, stepped_as, to_stepped}
use Rattle.state.specs.With.{with_session}
use Rattle.laws.specs.Room.{at_front}
use Rattle.call_checks.specs.Deciding.{Quiet, decision}
use Rattle.call_checks.proofs.Calls.{giving, taken, taken_in, refusing_in, four, none}

-- a rule that sends nothing
pub quiet : (p : Plan rule.Taken) → Takes (λ t. t.sent ≡ []) p → {r : Result rule.Taken} → r ≡ to_stepped p → Quiet r
unfolding settle
quiet (stop n) h e = rw e tt
quiet (check true n p) h e = rw e tt
quiet (check false n p) h e = quiet p (h refl) e
quiet (take t) h e = rw e h

-- an open sends nothing
pub open_quiet : (r : Role) (x : Session) → Takes (λ t. t.sent ≡ []) (open_ask r x)
unfolding open_ask
open_quiet r x _ = go x.sides
  where
    go : (z : Sides) → Takes (λ t. t.sent ≡ []) (open_of x z)
    go sides.Idle = refl
    go (sides.Opening b) = tt
    go (sides.Live side.Open t) = tt
    go (sides.Live side.Finished side.Open) = tt
    go (sides.Live side.Finished side.Finished) = tt
    go (sides.Live side.Finished side.Ended) = refl
    go (sides.Live side.Ended side.Open) = tt
    go (sides.Live side.Ended side.Finished) = tt
    go (sides.Live side.Ended side.Ended) = refl

-- behind a gate nothing more is sent
pub quiet_behind : (g : prelude.Result Unit Refusal) (s : prelude.Result Taken Refusal) {r : prelude.Result Taken Refusal} → r ≡ result_and g s
    → Quiet (stepped_as s) → Quiet (stepped_as r)
quiet_behind (Ok u) s e q = rw e q
quiet_behind (Err k) s e q = rw e tt

nothing_sent : (n : ℕ) {s : List SessionMessage} → s ≡ [] → 0 ≡ length (bytes_of_all [] (map (λ m. sent (numbered n m)) s))
nothing_sent n e = rw e none

sent_fits : (n : ℕ) (s : Option Sent) (room : List ℕ) → 4 ≤ length room → length (bytes_of_all [] (map (λ m. sent (numbered n m)) (sent_as s))) ≤ length room
unfolding bytes_of_all
sent_fits n None room h = omega arith
sent_fits n (Some (session.Data k opens eof)) room h = four (msg.Data opens false eof false n k) room h
sent_fits n (Some (session.Increment k)) room h = four (msg.IncrementRation 0 n k) room h
sent_fits n (Some (session.Abort partial)) room h = four (msg.Abort partial n 0) room h
sent_fits n (Some session.Close) room h = four (msg.Close n) room h

module _ (c : Connection) (n : ℕ) {x : prelude.Result Taken Refusal} {res : Given} where
  pub step_refused : {r : Refusal} → x ≡ Err r → res ≡ given c [] (refuse (refusal_number r)) → res ≡ given c [] (decision (setting_session c n c.last done) (stepped_as x))
  step_refused e g = rw e g

  pub step_taken : {t : Taken} {next : Connection} → x ≡ Ok t → Quiet (stepped_as x) → next ≡ with_session n t.session c
      → res ≡ giving next 0 → res ≡ given c [] (decision (setting_session c n c.last done) (stepped_as x))
  step_taken {t} e q w g =
      let still : sent_as t.sent ≡ [] = rw e at q in
      rw e (g ∙ taken c (setting_session c n c.last done (taken_as t)) refl w (nothing_sent n still))

  pub step_refused_in : (room : List ℕ) {r : Refusal} → x ≡ Err r → res ≡ given c [] (refuse (refusal_number r))
      → (res, room) ≡ in_room c room (decision (setting_session c n c.last done) (stepped_as x))
  step_refused_in room e g = rw e (refusing_in c room g)

  pub step_taken_in : (room : List ℕ) {t : Taken} {next : Connection} {wrote : ℕ} {last : List ℕ} {outs : List Output} → 4 ≤ length room
      → x ≡ Ok t → next ≡ with_session n t.session c → outs ≡ map (λ m. sent (numbered n m)) (sent_as t.sent)
      → (wrote, last) ≡ at_front (bytes_of_all [] outs) room → res ≡ giving next wrote → (res, last) ≡ in_room c room (decision (setting_session c n c.last done) (stepped_as x))
  step_taken_in room {t} h e w o k g =
      rw (e, g)
      (taken_in c (setting_session c n c.last done (taken_as t)) refl w room (sent_fits n t.sent room h) (rw o at k))

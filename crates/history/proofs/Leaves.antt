-- refused-leaves: what a call that is not taken leaves, for every state; from the shape of the decisions and their numbers.
use mathlib.Core.Path.{◌≡◌, refl, sym, ap, ◌∙◌, subst}
use mathlib.Core.Bool.{Bool, true, false, not, true≢false}
use mathlib.Core.List.{List, []}
use Prim.Native.Nat.{ℕ, ◌≤◌, ◌<◌}
use native.Mathlib.Omega.{arith}
use lib.Dec.{eqb, ltb}
use lib.ListN.{take}
use borrow.Author.Tests.{ltb-true}
use Rattle.laws.specs.Result.{Fault, ok, refused, violation}
use Rattle.laws.proofs.Tests.{and_second}
use Rattle.laws.proofs.Results.{refused_same, violation_same, refused_not_ok, violation_not_ok, violation_not_refused}
use Rattle.wire.specs.declared.Role.{Role}
use Rattle.wire.specs.Wrong.{MessageFault, no_type, wrong_bit, wrong_sender, wrong_flags, HeaderFault, wrong_byte}
use Rattle.state.specs.declared.Stage.{Stage}
use Rattle.state.specs.declared.Connection.{Connection}
use Rattle.state.specs.declared.Session.{Session}
use Rattle.protocol.specs.Message.{Scope, scope}
use Rattle.protocol.specs.Connection.{other_end, Cause, shutdown_received, error_received, own_shutdown, line_lost, at, well_formed, ending, ended}
use Rattle.protocol.specs.Judge.{Report, done, served, header_received, message, Decision, refuse, violate, accept}
use Rattle.laws.specs.Room.{overlaid}
use Rattle.protocol.specs.Result.{Given, extent_of}
use Rattle.history.specs.Log.{Call, receive, room_of, State, Entry}
use Rattle.history.proofs.Decisions.{decide, next_by, out_by, called_is, next_is, out_is}
use Rattle.history.specs.Faults.{RuleFault, wrong_state, above_ration, past_largest, unasked_ack, ReceiveFault, header_wrong, message_wrong, rule_broken}
use Rattle.history.specs.Claims.{takes_input, SameButOutcome, OnlyOver, error_bytes, RefusedLeaves}
use Rattle.history.proofs.Violations.{broken_bytes}
use Rattle.history.proofs.Simulation.{ended_at, queue_refused, queue_violated}
use Rattle.history.proofs.Rulings.{Breached, Ruled, decide_ruled, decide_ill}

-- a refusal is below 20
abbrev Below : Decision → Type 0
Below (refuse n) = n < 20
Below (violate b) = Unit {0}
Below (accept e) = Unit {0}

-- a violation is a number from 20 up, as the log tells it
abbrev Breaches : State → Call → Decision → Type 0
Breaches s k (refuse n) = Unit {0}
Breaches s k (violate b) = Breached s k b
Breaches s k (accept e) = Unit {0}

by_rule : (s : State) (k : Call) (d : Decision) → Ruled s k d → Below d × Breaches s k d
by_rule s k (refuse n) h = (ltb-true n 20 (and_second (not (eqb n 14)) (ltb n 20) h), tt)
by_rule s k (violate b) h = (tt, h)
by_rule s k (accept e) h = (tt, tt)

-- the end of a connection touches outcomes alone
same_ending : (cause : Cause) (x : Session) → SameButOutcome (ending cause x) x
same_ending shutdown_received x = record { sides = refl; outbound = refl; inbound = refl; waiting = refl; finish = refl }
same_ending error_received x = record { sides = refl; outbound = refl; inbound = refl; waiting = refl; finish = refl }
same_ending own_shutdown x = record { sides = refl; outbound = refl; inbound = refl; waiting = refl; finish = refl }
same_ending line_lost x = record { sides = refl; outbound = refl; inbound = refl; waiting = refl; finish = refl }

pub only_over : (cause : Cause) (c : Connection) → OnlyOver c (ended cause c)
only_over cause c =
    record {
      over = refl;
      stage = refl;
      own = refl;
      last = refl;
      ping = refl;
      sessions = λ n. subst (λ (x : Session). SameButOutcome x (at c n)) (sym (ended_at cause c n)) (same_ending cause (at c n));
    }

-- ---- a violation is a number from 20 up

message_high : (from : Role) (h : List ℕ) (f : Fault) → MessageFault from h f → 20 ≤ f.number
message_high from h f (no_type e) = omega arith
message_high from h f (wrong_bit k place e w) = omega arith
message_high from h f (wrong_sender k e x t) = omega arith
message_high from h f (wrong_flags k e x t g) = omega arith

header_high : (h : List ℕ) (f : Fault) → HeaderFault h f → 20 ≤ f.number
header_high h f (wrong_byte place w) = omega arith

rule_high : (z : Scope) (f : Fault) → RuleFault z f → 20 ≤ f.number
rule_high z f (wrong_state i m) = omega arith
rule_high z f (above_ration i n o c e a) = omega arith
rule_high z f (past_largest i n) = omega arith
rule_high z f (unasked_ack k) = omega arith

fault_high : (st : Stage) (input : List ℕ) (f : Fault) → ReceiveFault st input f → 20 ≤ f.number
fault_high st input f (header_wrong g down long w) = header_high (take 8 input) g w
fault_high st input f (message_wrong r far g up long w) = message_high (other_end r) (take 4 input) g w
fault_high st input f (rule_broken r far m g up e w) = rule_high (scope m) g w

module _ (s : State) (k : Call) where
  -- what a refusal leaves, by its number
  refusal_by : (d : Decision) → Below d → (n : ℕ) → (out_by s k d).answer ≡ refused n
      → (n < 20) × (next_by s k d ≡ s) × ((out_by s k d).wrote ≡ []) × (overlaid (out_by s k d).wrote (room_of k) ≡ room_of k)
  refusal_by (refuse j) h n e = (
    subst (λ (m : ℕ). m < 20) (refused_same e) h,
    ap (λ (q : List ℕ). record { connection = s.connection; queue = q }) (queue_refused s.connection s.queue k j),
    refl,
    refl,
  )
  refusal_by (violate b) h n e = absurd (violation_not_refused e)
  refusal_by (accept x) h n e = absurd (refused_not_ok (sym e))

  violated_by : (d : Decision) → Breaches s k d → (f : Fault) → (out_by s k d).answer ≡ violation f
      → (20 ≤ f.number) × OnlyOver s.connection (next_by s k d).connection × ((next_by s k d).queue ≡ s.queue)
      × ((out_by s k d).wrote ≡ error_bytes s.connection.stage s.connection.own)
  violated_by (refuse j) h f e = absurd (violation_not_refused (sym e))
  violated_by (violate b) h f e = (
    subst (λ (g : Fault). 20 ≤ g.number) (violation_same e) (fault_high s.connection.stage h.found.0 b.fault h.found.3),
    only_over b.cause s.connection,
    queue_violated s.connection s.queue k b,
    broken_bytes s k b h.told,
  )
  violated_by (accept x) h f e = absurd (violation_not_ok (sym e))

  unused_by : (d : Decision) → takes_input (out_by s k d).answer ≡ false → ((out_by s k d).used ≡ 0) × ((out_by s k d).start ≡ 0) × ((out_by s k d).end ≡ 0)
  unused_by (refuse j) h = (refl, refl, refl)
  unused_by (violate b) h = (refl, refl, refl)
  unused_by (accept x) h = go x.report h
    where
      go : (r : Report) → takes_input (ok r) ≡ false → ((extent_of r).used ≡ 0) × ((extent_of r).start ≡ 0) × ((extent_of r).end ≡ 0)
      go done e = (refl, refl, refl)
      go (served n) e = (refl, refl, refl)
      go (header_received far) e = absurd (true≢false e)
      go (message m late) e = absurd (true≢false e)

  receives_by : (d : Decision) → Breaches s k d → (f : Fault) → (out_by s k d).answer ≡ violation f
      → (input room : List ℕ) × (k ≡ receive input room) × ReceiveFault s.connection.stage input f
  receives_by (refuse j) h f e = absurd (violation_not_refused (sym e))
  receives_by (violate b) h f e =
      let w = h.found in
      (w.0, w.1, w.2, subst (ReceiveFault s.connection.stage w.0) (violation_same e) w.3)
  receives_by (accept x) h f e = absurd (violation_not_ok (sym e))

  -- well formed or not
  ruled : (b : Bool) → well_formed s.connection ≡ b → Below (decide s.connection s.queue k) × Breaches s k (decide s.connection s.queue k)
  ruled true e = by_rule s k (decide s.connection s.queue k) (decide_ruled s e k)
  ruled false e =
      subst (λ (d : Decision). Below d × Breaches s k d) (sym (decide_ill s e k))
      (let h : 14 < 20 = omega arith in (h, tt))

  pub refused_leaves : RefusedLeaves s k
  refused_leaves =
      let h = ruled (well_formed s.connection) refl in
      record {
        refusal =
            λ n e. let z = refusal_by (decide s.connection s.queue k) h.0 n (rw out_is at e) in (
              z.0,
              next_is s k ∙ z.1,
              ap (λ (x : Entry). x.wrote) (out_is s k) ∙ z.2,
              ap (λ (g : Given × List ℕ × List ℕ). g.2) (called_is s k) ∙ z.3,
            );
        violated = λ f e. rw (next_is, out_is) (violated_by (decide s.connection s.queue k) h.1 f (rw out_is at e));
        unused = λ e. rw out_is (unused_by (decide s.connection s.queue k) (rw out_is at e));
        receives = λ f e. receives_by (decide s.connection s.queue k) h.1 f (rw out_is at e);
      }

-- A state is well formed exactly if each item of docs/PROTOCOL.md, "Well-formed state", holds, in numbers and cases: from the tests
-- of the state.
use mathlib.Core.Path.{◌≡◌, refl, sym, ap, ◌∙◌}
use mathlib.Core.Bool.{Bool, true, false, not, ◌&&◌, true≢false}
use mathlib.Core.List.{List, [], ◌∷◌}
use Prim.Native.Nat.{ℕ, zero, suc, ◌≤◌, ◌<◌}
use native.Mathlib.Omega.{arith}
use lib.ListN.{length, get_or}
use lib.Dec.{eqb, ltb}
use borrow.Author.Tests.{ltb-true, lt-ltb, leb-true, le-leb, eqb-true, eq-eqb}
use Rattle.laws.proofs.Tests.{and_first, and_second, and_both}
use Rattle.ration.specs.declared.Ration.{Ration}
use Rattle.ration.specs.declared.Ration.TheVariants as ration
use Rattle.ration.specs.Ration.{in_range}
use Rattle.wire.specs.declared.Role.{Role}
use Rattle.wire.specs.declared.Role.TheVariants as role
use Rattle.wire.specs.Message.{is_client, only_if}
use Rattle.state.specs.declared.Side.TheVariants as side
use Rattle.state.specs.declared.Before.{Before}
use Rattle.state.specs.declared.Sides.{Sides}
use Rattle.state.specs.declared.Sides.TheVariants as sides
use Rattle.state.specs.declared.Session.{Session}
use Rattle.state.specs.declared.Stage.{Stage}
use Rattle.state.specs.declared.Stage.TheVariants as stage
use Rattle.state.specs.declared.Connection.{Connection}
use Rattle.state.specs.New.{blank}
use Rattle.protocol.specs.Ask.{sends}
use Rattle.protocol.specs.Connection.{role_of, exchanged, waiting_fits, waiting_placed, finish_placed, placed, session_formed, all_formed, well_formed}
use Rattle.protocol.specs.Formed.{Unless, SessionItems, Items}

-- ---- each test says its item

none_only : (z : Sides) (waiting : ℕ) → only_if (not (sends z)) (eqb waiting 0) ≡ true → Unless z (waiting ≡ 0)
none_only sides.Idle waiting e = eqb-true waiting 0 e
none_only (sides.Opening b) waiting e = tt
none_only (sides.Live side.Open t) waiting e = tt
none_only (sides.Live side.Finished t) waiting e = eqb-true waiting 0 e
none_only (sides.Live side.Ended t) waiting e = eqb-true waiting 0 e

not_set : (finish : Bool) → only_if finish false ≡ true → finish ≡ false
not_set true e = sym e
not_set false e = refl

finish_only : (z : Sides) (finish : Bool) → only_if finish (sends z) ≡ true → Unless z (finish ≡ false)
finish_only sides.Idle finish e = not_set finish e
finish_only (sides.Opening b) finish e = tt
finish_only (sides.Live side.Open t) finish e = tt
finish_only (sides.Live side.Finished t) finish e = not_set finish e
finish_only (sides.Live side.Ended t) finish e = not_set finish e

idle_only : (r : Role) (z : Sides) → placed r false z ≡ true → z ≡ sides.Idle
idle_only r sides.Idle e = refl
idle_only r (sides.Opening b) e = absurd (true≢false (sym (and_second (is_client r) false e)))
idle_only r (sides.Live o t) e = absurd (true≢false (sym e))

session_only : (st : Stage) (x : Session) → session_formed (role_of st) (exchanged st) x ≡ true → SessionItems st x
unfolding session_formed
session_only st x e5 =
    let r = in_range x.outbound in
    let i = in_range x.inbound in
    let p = placed (role_of st) (exchanged st) x.sides in
    let place : placed (role_of st) (exchanged st) x.sides ≡ true = and_second (r && i && waiting_fits x && waiting_placed x && finish_placed x) p e5 in
    let e4 = and_first (r && i && waiting_fits x && waiting_placed x && finish_placed x) p e5 in
    let e3 = and_first (r && i && waiting_fits x && waiting_placed x) (finish_placed x) e4 in
    let e2 = and_first (r && i && waiting_fits x) (waiting_placed x) e3 in
    let e1 = and_first (r && i) (waiting_fits x) e2 in
    record {
      outbound = λ left q. leb-true left _ (sym (ap in_range q) ∙ and_first r i e1);
      inbound = λ left q. leb-true left _ (sym (ap in_range q) ∙ and_second r i e1);
      waiting = leb-true x.waiting _ (and_second (r && i) (waiting_fits x) e2);
      none_waits = none_only x.sides x.waiting (and_second (r && i && waiting_fits x) (waiting_placed x) e3);
      no_finish = finish_only x.sides x.finish (and_second (r && i && waiting_fits x && waiting_placed x) (finish_placed x) e4);
      no_opening = λ far b q z. true≢false (sym place ∙ ap (λ (s : Stage). placed (role_of s) (exchanged s) x.sides) q ∙ ap (placed role.Server true) z);
      idle_fresh = λ f q. idle_only f x.sides (sym (ap (λ (s : Stage). placed (role_of s) (exchanged s) x.sides) q) ∙ place);
      idle_started = λ q. idle_only role.Client x.sides (sym (ap (λ (s : Stage). placed (role_of s) (exchanged s) x.sides) q) ∙ place);
    }

each_only : (st : Stage) (l : List Session) → all_formed (role_of st) (exchanged st) l ≡ true → (n : ℕ) → n < length l → SessionItems st (get_or l n blank)
unfolding all_formed
each_only st [] e n h = absurd (let z : n < 0 = h in omega arith)
each_only st (x ∷ l) e zero h = session_only st x (and_first (session_formed (role_of st) (exchanged st) x) (all_formed (role_of st) (exchanged st) l) e)
each_only st (x ∷ l) e (suc n) h =
    each_only st l (and_second (session_formed (role_of st) (exchanged st) x) (all_formed (role_of st) (exchanged st) l) e) n (let k : suc n < suc (length l) = h in omega arith)

pub formed_only : (c : Connection) → well_formed c ≡ true → Items c
unfolding well_formed
formed_only c e =
    let low = ltb c.last 128 in
    let all = all_formed (role_of c.stage) (exchanged c.stage) c.sessions in
    let h : c.last < 128 = ltb-true c.last 128 (and_first low all e) in
    record { last = omega arith; each = each_only c.stage c.sessions (and_second low all e) }

-- ---- and the tests require no more than the items

range_if : (r : Ration) → ((left : ℕ) → r ≡ ration.Finite left → left ≤ 2_147_483_647) → in_range r ≡ true
range_if (ration.Finite left) h = le-leb left _ (h left refl)
range_if ration.Endless h = refl

none_if : (z : Sides) (waiting : ℕ) → Unless z (waiting ≡ 0) → only_if (not (sends z)) (eqb waiting 0) ≡ true
none_if sides.Idle waiting h = eq-eqb waiting 0 h
none_if (sides.Opening b) waiting h = refl
none_if (sides.Live side.Open t) waiting h = refl
none_if (sides.Live side.Finished t) waiting h = eq-eqb waiting 0 h
none_if (sides.Live side.Ended t) waiting h = eq-eqb waiting 0 h

set_only : (finish : Bool) → only_if finish true ≡ true
set_only true = refl
set_only false = refl

finish_if : (z : Sides) (finish : Bool) → Unless z (finish ≡ false) → only_if finish (sends z) ≡ true
finish_if sides.Idle finish h = rw h
finish_if (sides.Opening b) finish h = set_only finish
finish_if (sides.Live side.Open t) finish h = set_only finish
finish_if (sides.Live side.Finished t) finish h = rw h
finish_if (sides.Live side.Ended t) finish h = rw h

placed_if : (st : Stage) (z : Sides) → ((far : ℕ) (b : Before) → st ≡ stage.Up role.Server far → z ≡ sides.Opening b → ⊥)
    → ((r : Role) → st ≡ stage.Fresh r → z ≡ sides.Idle) → (st ≡ stage.Started → z ≡ sides.Idle) → placed (role_of st) (exchanged st) z ≡ true
placed_if (stage.Fresh r) z none fresh started = rw (fresh r refl)
placed_if stage.Started z none fresh started = rw (started refl)
placed_if (stage.Up r far) sides.Idle none fresh started = refl
placed_if (stage.Up role.Client far) (sides.Opening b) none fresh started = refl
placed_if (stage.Up role.Server far) (sides.Opening b) none fresh started = absurd (none far b refl refl)
placed_if (stage.Up r far) (sides.Live o t) none fresh started = refl

session_if : (st : Stage) (x : Session) → SessionItems st x → session_formed (role_of st) (exchanged st) x ≡ true
unfolding session_formed
session_if st x i =
    and_both
    (and_both
    (and_both
    (and_both (and_both (range_if x.outbound i.outbound) (range_if x.inbound i.inbound)) (le-leb _ _ i.waiting))
    (none_if x.sides x.waiting i.none_waits))
    (finish_if x.sides x.finish i.no_finish))
    (placed_if st x.sides i.no_opening i.idle_fresh i.idle_started)

each_if : (st : Stage) (l : List Session) → ((n : ℕ) → n < length l → SessionItems st (get_or l n blank)) → all_formed (role_of st) (exchanged st) l ≡ true
unfolding all_formed
each_if st [] h = refl
each_if st (x ∷ l) h = and_both (session_if st x (h 0 (omega arith))) (each_if st l (λ n k. h (suc n) (omega arith)))

pub formed_if : (c : Connection) → Items c → well_formed c ≡ true
unfolding well_formed
formed_if c i = and_both (lt-ltb c.last 128 (let h = i.last in omega arith)) (each_if c.stage c.sessions i.each)

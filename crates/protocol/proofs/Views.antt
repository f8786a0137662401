-- What the state holds of a session number, in the words of what is observed of it, and that both call the same sessions ready.
use Rattle.std.specs.Prelude.{Option, Some, None}
use mathlib.Core.Path.{◌≡◌, refl, sym, ap, ◌∙◌}
use mathlib.Core.Bool.{Bool, true, false, not, ◌&&◌, ◌||◌}
use mathlib.Core.List.{List, [], ◌∷◌}
use Prim.Native.Nat.{ℕ, zero, suc, ◌≤◌, ◌<◌}
use native.Mathlib.Omega.{arith}
use lib.ListN.{length, take}
use lib.Dec.{eqb, leb, eqb-suc-zero}
use borrow.Author.Tests.{leb-true, leb-false, le-leb, lt-ltb}
use Rattle.laws.specs.Pick.{pick}
use Rattle.laws.proofs.Tests.{and_both}
use Rattle.ration.specs.declared.Ration.{Ration}
use Rattle.ration.specs.declared.Ration.TheVariants as ration
use Rattle.ration.specs.Ration.{from_header, in_range}
use Rattle.wire.specs.declared.Role.{Role}
use Rattle.wire.specs.Message.{is_client, only_if}
use Rattle.state.specs.declared.Side.{Side}
use Rattle.state.specs.declared.Side.TheVariants as side
use Rattle.state.specs.declared.Sides.{Sides}
use Rattle.state.specs.declared.Sides.TheVariants as sides
use Rattle.state.specs.declared.Session.{Session}
use Rattle.state.specs.declared.Stage.{Stage}
use Rattle.state.specs.declared.Stage.TheVariants as stage
use Rattle.protocol.specs.Slot.{slot_size}
use Rattle.protocol.specs.Session.{after_data}
use Rattle.protocol.specs.Ask.{sends, positive, sendable, due, ready_session, ready_in}
use Rattle.protocol.specs.Connection.{exchanged, far_number, placed, session_formed}
use Rattle.protocol.specs.Judge.{matches}
use Rattle.protocol.specs.Observed.{greeted, start_told, awaits, is_empty, any_left, is_ready, Seen, data_leaves, due_length}
pub use Rattle.protocol.specs.Held.{ends_of, sends_of, look, greeting_of, pinging_of}

pub look_path : {far far' : Ration} {x y : Session} {s t : List ℕ} → far ≡ far' → x ≡ y → s ≡ t → look far x s ≡ look far' y t
look_path p q r = rw (p, q, r)

pub seen_path : {a b : Seen} → a.standing ≡ b.standing → a.sends ≡ b.sends → a.inbound ≡ b.inbound → a ≡ b
seen_path p q r i = record { standing = p i; sends = q i; inbound = r i }

-- ---- the words of the log and those of the rules

pub greeted_is : (st : Stage) → greeted (greeting_of st) ≡ exchanged st
greeted_is (stage.Fresh r) = refl
greeted_is stage.Started = refl
greeted_is (stage.Up r far) = refl

pub start_told_lem : (st : Stage) → start_told (greeting_of st) ≡ from_header (far_number st)
unfolding from_header pick
start_told_lem (stage.Fresh r) = refl
start_told_lem stage.Started = refl
start_told_lem (stage.Up r far) = refl

pub awaits_is : (p : Option ℕ) (k : ℕ) → awaits (pinging_of p) k ≡ matches p k
awaits_is None k = refl
awaits_is (Some j) k = refl

pub data_leaves_lem : (close eof : Bool) → data_leaves close eof ≡ after_data close eof
data_leaves_lem true eof = refl
data_leaves_lem false true = refl
data_leaves_lem false false = refl

pub any_left_lem : (r : Ration) → any_left r ≡ positive r
any_left_lem (ration.Finite zero) = refl
any_left_lem (ration.Finite (suc n)) = ap not (eqb-suc-zero n) ∙ sym (lt-ltb 0 (suc n) (omega arith))
any_left_lem ration.Endless = refl

pub due_length_lem : (w : ℕ) (r : Ration) → due_length w r ≡ sendable w r
unfolding pick
due_length_lem w (ration.Finite n) = go (leb w n) refl
  where
    go : (b : Bool) → leb w n ≡ b → pick b w n ≡ sendable w (ration.Finite n)
    go true e = let h : w ≤ n = leb-true w n e in omega arith
    go false e = let h : n < w = leb-false w n e in omega arith
due_length_lem w ration.Endless = refl

pub only_if_true : (a b : Bool) → b ≡ true → only_if a b ≡ true
only_if_true true b e = e
only_if_true false b e = refl

-- ---- ready

empty_take : (n : ℕ) (s : List ℕ) → n ≤ length s → is_empty (take n s) ≡ eqb n 0
empty_take zero s h = refl
empty_take (suc n) [] h = absurd (let z : suc n ≤ 0 = h in omega arith)
empty_take (suc n) (b ∷ s) h = sym (eqb-suc-zero n)

due_is : (w : ℕ) (s : List ℕ) (r : Ration) (f : Bool) → w ≤ length s
    → due w r f ≡ (not (is_empty (take w s)) && any_left r || is_empty (take w s) && f)
unfolding pick
due_is w s r f h = rw (empty_take w s h, any_left_lem r) (go (eqb w 0))
  where
    flat : (b : Bool) → b ≡ (b || false)
    flat true = refl
    flat false = refl

    go : (b : Bool) → pick b f (positive r) ≡ (not b && positive r || b && f)
    go true = refl
    go false = flat (positive r)

pub ready_look : (far : Ration) (x : Session) (s : List ℕ) → x.waiting ≤ length s → ready_session x ≡ is_ready (look far x s).sends
unfolding ready_session
ready_look far x s h = go x.sides
  where
    go : (z : Sides) → ready_in x z ≡ is_ready (sends_of far z (take x.waiting s) x.outbound x.finish)
    go sides.Idle = refl
    go (sides.Opening b) = refl
    go (sides.Live side.Open t) = due_is x.waiting s x.outbound x.finish h
    go (sides.Live side.Finished t) = refl
    go (sides.Live side.Ended t) = refl

-- ---- well formed, item by item

-- if a far side, the first, is ended, ours is ended too, or finished at a client
abbrev pub pairs : Role → Side → Side → Bool
pairs r side.Open o = true
pairs r side.Finished o = true
pairs r side.Ended side.Open = false
pairs r side.Ended side.Finished = is_client r
pairs r side.Ended side.Ended = true

abbrev pub paired : Role → Sides → Bool
paired r sides.Idle = true
paired r (sides.Opening b) = true
paired r (sides.Live o t) = pairs r t o

pub ended_pairs : (r : Role) (t : Side) → pairs r t side.Ended ≡ true
ended_pairs r side.Open = refl
ended_pairs r side.Finished = refl
ended_pairs r side.Ended = refl

pub record Formed (r : Role) (up : Bool) (x : Session) : Type 0 where
  pub outbound : in_range x.outbound ≡ true
  pub inbound : in_range x.inbound ≡ true
  pub waiting : x.waiting ≤ slot_size
  pub none : only_if (not (sends x.sides)) (eqb x.waiting 0) ≡ true
  pub finish : only_if x.finish (sends x.sides) ≡ true
  pub place : placed r up x.sides ≡ true
  pub pair : paired r x.sides ≡ true

pub formed_is : (r : Role) (up : Bool) (x : Session) → Formed r up x → session_formed r up x ≡ true
unfolding session_formed
formed_is r up x f =
    and_both
    (and_both (and_both (and_both (and_both f.outbound f.inbound) (le-leb _ _ f.waiting)) f.none) f.finish) f.place

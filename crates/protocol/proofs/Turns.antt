-- A turn keeps what is observed of the session that it serves, and sends what is observed to wait.
use mathlib.Core.Path.{◌≡◌, refl, sym, ap, ◌∙◌, subst}
use mathlib.Core.Bool.{Bool, true, false, not, ◌&&◌, true≢false, false≢true, and-true}
use mathlib.Core.List.{List, [], ◌∷◌}
use Prim.Native.Nat.{ℕ, ◌-◌, ◌≤◌, min}
use native.Mathlib.Omega.{arith}
use lib.ListN.{length, take, drop, length-drop}
use lib.Seq.{take_at, take-take, length-take-le}
use lib.Dec.{eqb}
use borrow.Author.Tests.{le-leb, eqb-true}
use Rattle.laws.specs.Runs.{fold}
use Rattle.laws.proofs.Lists.{take_drop}
use Rattle.laws.proofs.Tests.{and_first, and_second, and_both}
use Rattle.ration.specs.declared.Ration.{Ration}
use Rattle.ration.specs.declared.Ration.TheVariants as ration
use Rattle.ration.specs.Ration.{in_range, allows, minus}
use Rattle.ration.proofs.Laws.{minus_in_range}
use Rattle.wire.specs.declared.Role.{Role}
use Rattle.wire.specs.declared.Role.TheVariants as role
use Rattle.wire.specs.Message.{is_client, only_if, data_flags}
use Rattle.state.specs.declared.Side.{Side}
use Rattle.state.specs.declared.Side.TheVariants as side
use Rattle.state.specs.declared.Before.{Before}
use Rattle.state.specs.declared.Before.TheVariants as before
use Rattle.state.specs.declared.Sides.{Sides}
use Rattle.state.specs.declared.Sides.TheVariants as sides
use Rattle.state.specs.declared.Session.{Session}
use Rattle.protocol.specs.Queue.{turn_slot}
use Rattle.protocol.specs.Plan.{settle, and_then}
use Rattle.protocol.specs.Receipt.{Taken}
use Rattle.protocol.specs.Judge.{Effect}
use Rattle.protocol.specs.Message.{data_of}
use Rattle.protocol.specs.Session.{after_data}
use Rattle.protocol.specs.Ask.{sendable, last_data, sends, sending as sending_of, turn_of, turn_ask, ready_session, ready_in}
use Rattle.protocol.specs.Observed.{sending, with_data, due_by, Seen, ends, ours, may_open, ration_of, permits_ours}
use Rattle.protocol.proofs.Plans.{Takes, passes}
use Rattle.protocol.proofs.Views.{ends_of, sends_of, look, Formed, seen_path, pairs, paired, due_length_lem}
use Rattle.protocol.proofs.Slots.{turn_length}
use Rattle.protocol.proofs.Sound.{CarriesData, Sound}

-- ---- the bytes that are sent and those that stay

pub smaller_waiting : (w : ℕ) (r : Ration) → sendable w r ≤ w
smaller_waiting w (ration.Finite n) = omega arith
smaller_waiting w ration.Endless = omega arith

smaller_allowed : (w : ℕ) (r : Ration) → allows r (sendable w r) ≡ true
smaller_allowed w (ration.Finite n) = le-leb (min w n) n (omega arith)
smaller_allowed w ration.Endless = refl

turn_slot_lem : (w n : ℕ) (s : List ℕ) → w ≤ length s → n ≤ w → take (w - n) (turn_slot w n s) ≡ drop n (take w s)
turn_slot_lem w n s h k =
    take_at (take (w - n) (drop n s)) _ (w - n) (length-take-le (w - n) (drop n s) (simp length-drop (omega arith))) ∙ take_drop w n s k

-- ---- the session after a turn

module _ (x : Session) (n : ℕ) where
  after_sends : (far : Ration) (t : Side) (w w' : List ℕ) (r : Ration) (u : Bool) → w' ≡ drop n w
      → sends_of far (sides.Live (after_data false (last_data x n)) t) w' (minus r n) (x.finish && not (last_data x n)) ≡ with_data n (last_data x n) (sending u w r x.finish)
  after_sends far t w w' r u e = go (last_data x n)
    where
      go : (b : Bool) → sends_of far (sides.Live (after_data false b) t) w' (minus r n) (x.finish && not b) ≡ with_data n b (sending u w r x.finish)
      go true = refl
      go false = rw (e, and-true x.finish)

  after_none : (t : Side) → only_if (not (sends (sides.Live (after_data false (last_data x n)) t))) (eqb (x.waiting - n) 0) ≡ true
  after_none t = go (last_data x n) refl
    where
      go : (b : Bool) → last_data x n ≡ b → only_if (not (sends (sides.Live (after_data false b) t))) (eqb (x.waiting - n) 0) ≡ true
      go true e = and_second x.finish (eqb (x.waiting - n) 0) e
      go false e = refl

  after_finish : (t : Side) → only_if (x.finish && not (last_data x n)) (sends (sides.Live (after_data false (last_data x n)) t)) ≡ true
  after_finish t = go (last_data x n) x.finish
    where
      go : (b f : Bool) → only_if (f && not b) (sends (sides.Live (after_data false b) t)) ≡ true
      go true true = refl
      go true false = refl
      go false true = refl
      go false false = refl

-- ---- a turn

may_open_lem : (r : Role) (b : Before) → is_client r ≡ true → may_open r (ends_of (sides.Opening b)) ≡ true
may_open_lem role.Client before.Idle e = refl
may_open_lem role.Client before.Finished e = refl
may_open_lem role.Client before.Ended e = refl
may_open_lem role.Server b e = absurd (false≢true e)

open_flags : (r : Role) (eof : Bool) → is_client r ≡ true → data_flags r true false eof false ≡ true
open_flags role.Client eof e = refl
open_flags role.Server eof e = absurd (false≢true e)

plain_flags : (r : Role) (eof : Bool) → data_flags r false false eof false ≡ true
plain_flags role.Client eof = refl
plain_flags role.Server eof = refl

-- a far side that pairs with ours open is not ended
open_pairs : (r : Role) (t o : Side) → pairs r t side.Open ≡ true → pairs r t o ≡ true
open_pairs r side.Open o h = refl
open_pairs r side.Finished o h = refl
open_pairs r side.Ended o h = absurd (false≢true h)

data_goes : (r : Role) (t : Side) (v : Seen) (n : ℕ) (eof : Bool) → pairs r t side.Open ≡ true → allows (ration_of v.sends) n ≡ true
    → permits_ours r (ends side.Open t) v (data_of n false false eof false) ≡ true
data_goes r side.Open v n eof h k = k
data_goes r side.Finished v n eof h k = k
data_goes r side.Ended v n eof h k = absurd (false≢true h)

pub turn_sound : (r : Role) (own far : Ration) (x : Session) (s : List ℕ) → Formed r true x → in_range own ≡ true → in_range far ≡ true → x.waiting ≤ length s
    → Takes (λ t. Sound r own far x s [] s (turn_slot x.waiting (x.waiting - t.session.waiting) s) true t) (turn_ask own far x)
unfolding turn_ask fold
turn_sound r own far x s f ho hf long = go x.sides refl
  where
    stays : (n : ℕ) → n ≤ x.waiting → take (x.waiting - n) (turn_slot x.waiting (x.waiting - (x.waiting - n)) s) ≡ drop n (take x.waiting s)
    stays n h = let e : x.waiting - (x.waiting - n) ≡ n = omega arith in
        ap (λ (k : ℕ). take (x.waiting - n) (turn_slot x.waiting k s)) e ∙ turn_slot_lem x.waiting n s long h

    -- what is sent is what waits first, and all of it with eof
    carry : (n : ℕ) (u : Bool) (q : Ration) → n ≤ x.waiting → CarriesData s n (last_data x n) (sending u (take x.waiting s) q x.finish)
    carry n u q h = (
      sym (take-take n x.waiting s h),
      λ e.
          let none : x.waiting - n ≡ 0 = eqb-true (x.waiting - n) 0 (and_second x.finish (eqb (x.waiting - n) 0) e) in
          let size = length-take-le x.waiting s long in
          omega arith,
    )

    carries_at : (n : ℕ) (z : Sides) → x.sides ≡ z → CarriesData s n (last_data x n) (sends_of far z (take x.waiting s) x.outbound x.finish)
        → CarriesData s n (last_data x n) (look far x s).sends
    carries_at n z e c = subst (λ (y : Sides). CarriesData s n (last_data x n) (sends_of far y (take x.waiting s) x.outbound x.finish)) (sym e) c

    go : (z : Sides) → x.sides ≡ z → Takes (λ t. Sound r own far x s [] s (turn_slot x.waiting (x.waiting - t.session.waiting) s) true t) (turn_of own far x z)
    go sides.Idle e = tt
    go (sides.Opening b) e =
        let n = sendable x.waiting far in
        let k = smaller_waiting x.waiting far in
        let small = f.waiting in
        let client = and_first (is_client r) true (rw e at f.place) in
        record {
          seen =
              seen_path refl
              (after_sends x n far side.Open (take x.waiting s) _ far true (stays n k)
              ∙ sym (ap (λ (z : Sides). with_data n (last_data x n) (sends_of far z (take x.waiting s) x.outbound x.finish)) e)) refl;
          formed =
              record {
                outbound = minus_in_range far n hf;
                inbound = ho;
                waiting = omega arith;
                none = after_none x n side.Open;
                finish = after_finish x n side.Open;
                place = refl;
                pair = refl;
              };
          lasts = λ _ _ q. absurd (true≢false q);
          sends_data = refl;
          room = λ _. let e = turn_length x.waiting (x.waiting - (x.waiting - n)) s small in omega arith;
          lawful =
              record {
                now = and_both (and_both client (ap (λ (z : Sides). may_open r (ends_of z)) e ∙ may_open_lem r b client)) (smaller_allowed x.waiting far);
                ours = open_flags r (last_data x n) client;
                fits = omega arith;
                body = omega arith;
                carries = carries_at n (sides.Opening b) e (carry n true far k);
              };
        }
    go (sides.Live side.Open t) e = λ due.
        let open_pair : pairs r t side.Open ≡ true = sym (ap (paired r) e) ∙ f.pair in
        let n = sendable x.waiting x.outbound in
        let k = smaller_waiting x.waiting x.outbound in
        let small = f.waiting in
        record {
          seen =
              seen_path (sym (ap (λ (z : Sides). ours (after_data false (last_data x n)) (ends_of z)) e))
              (after_sends x n far t (take x.waiting s) _ x.outbound false (stays n k)
              ∙ sym (ap (λ (z : Sides). with_data n (last_data x n) (sends_of far z (take x.waiting s) x.outbound x.finish)) e)) refl;
          formed =
              record {
                outbound = minus_in_range x.outbound n f.outbound;
                inbound = f.inbound;
                waiting = omega arith;
                none = after_none x n t;
                finish = after_finish x n t;
                place = refl;
                pair = open_pairs r t (after_data false (last_data x n)) open_pair;
              };
          lasts = λ _ _ q. absurd (true≢false q);
          sends_data = refl;
          room = λ _. let e = turn_length x.waiting (x.waiting - (x.waiting - n)) s small in omega arith;
          lawful =
              record {
                now =
                    ap (λ (z : Sides). permits_ours r (ends_of z) (record { standing = ends_of z; sends = sends_of far z (take x.waiting s) x.outbound x.finish; inbound = x.inbound }) (data_of n false false (last_data x n) false)) e
                    ∙ data_goes r t (record { standing = ends side.Open t; sends = sending false (take x.waiting s) x.outbound x.finish; inbound = x.inbound }) n (last_data x n) open_pair (smaller_allowed x.waiting x.outbound);
                ours = plain_flags r (last_data x n);
                fits = omega arith;
                body = omega arith;
                carries = carries_at n (sides.Live side.Open t) e (carry n false x.outbound k);
              };
        }
    go (sides.Live side.Finished t) e = tt
    go (sides.Live side.Ended t) e = tt

-- a turn sends what is observed to be due
pub turn_sends : (own far : Ration) (x : Session) (s : List ℕ) → x.waiting ≤ length s
    → Takes (λ t. t.sent ≡ due_by (look far x s).sends ∷ []) (turn_ask own far x)
unfolding turn_ask
turn_sends own far x s long = go x.sides refl
  where
    size : length (take x.waiting s) ≡ x.waiting
    size = length-take-le x.waiting s long

    sent : (u : Bool) (q : Ration) → data_of (sendable x.waiting q) u false (last_data x (sendable x.waiting q)) false ∷ [] ≡ due_by (sending u (take x.waiting s) q x.finish) ∷ []
    sent u q = rw (size, due_length_lem x.waiting q)

    go : (z : Sides) → x.sides ≡ z → Takes (λ t. t.sent ≡ due_by (look far x s).sends ∷ []) (turn_of own far x z)
    go sides.Idle e = tt
    go (sides.Opening b) e =
        sent true far ∙ sym (ap (λ (z : Sides). due_by (sends_of far z (take x.waiting s) x.outbound x.finish) ∷ []) e)
    go (sides.Live side.Open t) e = λ due.
        sent false x.outbound ∙ sym (ap (λ (z : Sides). due_by (sends_of far z (take x.waiting s) x.outbound x.finish) ∷ []) e)
    go (sides.Live side.Finished t) e = tt
    go (sides.Live side.Ended t) e = tt

-- a turn that finds its session not ready is refused with 9
pub turn_stops : {B : Type 0} (bad : ℕ → B) (good : Effect → B) (f : Taken → Effect) (own far : Ration) (x : Session) → ready_session x ≡ false
    → settle bad good (and_then f (turn_ask own far x)) ≡ bad 9
unfolding turn_ask ready_session settle
turn_stops bad good f own far x h = go x.sides h
  where
    go : (z : Sides) → ready_in x z ≡ false → settle bad good (and_then f (turn_of own far x z)) ≡ bad 9
    go sides.Idle e = refl
    go (sides.Opening b) e = absurd (true≢false e)
    go (sides.Live side.Open t) e = rw e
    go (sides.Live side.Finished t) e = refl
    go (sides.Live side.Ended t) e = refl

-- and one that finds it ready is taken, with all that holds if it takes
pub turn_goes : {B : Type 0} (bad : ℕ → B) (good : Effect → B) (f : Taken → Effect) (own far : Ration) (x : Session) (P : Taken → Type 0) → ready_session x ≡ true
    → Takes P (turn_ask own far x) → (t : Taken) × (settle bad good (and_then f (turn_ask own far x)) ≡ good (f t)) × P t
unfolding turn_ask ready_session settle
turn_goes bad good f own far x P h k = go x.sides h k
  where
    go : (z : Sides) → ready_in x z ≡ true → Takes P (turn_of own far x z) → (t : Taken) × (settle bad good (and_then f (turn_of own far x z)) ≡ good (f t)) × P t
    go sides.Idle e k = absurd (false≢true e)
    go (sides.Opening b) e k = (_, refl, k)
    go (sides.Live side.Open t) e k =
        let p = sending_of x false t x.outbound x.inbound (sendable x.waiting x.outbound) in
        (_, passes bad good 9 (and_then f p) (ap not e), k (ap not e))
    go (sides.Live side.Finished t) e k = absurd (false≢true e)
    go (sides.Live side.Ended t) e k = absurd (false≢true e)

-- Each local call keeps what is observed of its session: one lemma for each call, about one session and no table.
use mathlib.Core.Path.{◌≡◌, refl, sym, ap, ◌∙◌}
use mathlib.Core.Bool.{Bool, true, false, not, ◌&&◌, ◌||◌, true≢false, false≢true}
use mathlib.Core.List.{List, [], ◌∷◌, ◌++◌}
use Prim.Native.Nat.{ℕ, ◌+◌, ◌-◌, ◌≤◌}
use native.Mathlib.Omega.{arith}
use lib.ListN.{length, take, length-append}
use lib.Seq.{take_at, length-take-le}
use lib.Dec.{eqb, ltb}
use borrow.Author.Tests.{ltb-false}
use Rattle.ration.specs.declared.Ration.{Ration}
use Rattle.ration.specs.declared.Ration.TheVariants as ration
use Rattle.ration.specs.Ration.{in_range, plus, grantable}
use Rattle.wire.specs.declared.Role.{Role}
use Rattle.wire.specs.declared.Role.TheVariants as role
use Rattle.wire.specs.Message.{is_client, is_server, only_if}
use Rattle.state.specs.declared.Side.{Side}
use Rattle.state.specs.declared.Side.TheVariants as side
use Rattle.state.specs.declared.Before.{Before}
use Rattle.state.specs.declared.Before.TheVariants as before
use Rattle.state.specs.declared.Sides.{Sides}
use Rattle.state.specs.declared.Sides.TheVariants as sides
use Rattle.state.specs.declared.Session.{Session}
use Rattle.protocol.specs.Slot.{slot_size}
use Rattle.protocol.specs.Queue.{put_slot}
use Rattle.state.specs.declared.Outcome.TheVariants as outcome
use Rattle.protocol.specs.Message.{increment_of, abort_of, close_of}
use Rattle.state.specs.With.{with_sides}
use Rattle.protocol.specs.Session.{dropped, settled}
use Rattle.protocol.specs.Ask.{opened, open_of, open_ask, sends, put_ask, finish_ask, may_grant, grant_ask, restored, aborting, abort_plan, abort_ask, close_plan, close_ask}
use Rattle.laws.specs.Runs.{fold}
use Rattle.protocol.specs.Observed
use Rattle.protocol.specs.Observed.{opens, finishes, aborts, puts, Sending, silent, sending, is_ready, with_put, ends, ours, observe, established, unfinished, permits_ours}
use Rattle.laws.proofs.Tests.{and_first, and_both, or_first, or_second, not_false}
use Rattle.protocol.proofs.Plans.{Takes}
use Rattle.protocol.proofs.Views.{ends_of, sends_of, look, Formed, seen_path, pairs, paired, ended_pairs, only_if_true}
use Rattle.protocol.proofs.Slots.{put_length}
use Rattle.protocol.proofs.Sound.{Sound}

-- ---- finish

finish_ready : (v : Sending) → is_ready v ≡ true → is_ready (Observed.with_finish v) ≡ true
finish_ready silent h = h
finish_ready (sending true w r f) h = refl
finish_ready (sending false [] r f) h = refl
finish_ready (sending false (b ∷ w) r f) h = h

finish_sends : (far : Ration) (z : Sides) (w : List ℕ) (r : Ration) (f : Bool) → sends_of far z w r true ≡ Observed.with_finish (sends_of far z w r f)
finish_sends far sides.Idle w r f = refl
finish_sends far (sides.Opening b) w r f = refl
finish_sends far (sides.Live side.Open t) w r f = refl
finish_sends far (sides.Live side.Finished t) w r f = refl
finish_sends far (sides.Live side.Ended t) w r f = refl

pub finish_sound : (r : Role) (own far : Ration) (x : Session) (s : List ℕ) → Formed r true x
    → Takes (Sound r own far x s (finishes ∷ []) [] s false) (finish_ask x)
unfolding finish_ask fold
finish_sound r own far x s f side =
    let e = finish_sends far x.sides (take x.waiting s) x.outbound x.finish in
    record {
      seen = seen_path refl e refl;
      formed =
          record {
            outbound = f.outbound;
            inbound = f.inbound;
            waiting = f.waiting;
            none = f.none;
            finish = not_false (sends x.sides) (or_first (not (sends x.sides)) x.finish side);
            place = f.place;
            pair = f.pair;
          };
      lasts = λ h _ _. ap is_ready e ∙ finish_ready (sends_of far x.sides (take x.waiting s) x.outbound x.finish) h;
      sends_data = refl;
      room = λ h. h;
      lawful = tt;
    }

-- ---- put

put_slot_lem : (w : ℕ) (bytes s : List ℕ) → w ≤ length s → take (w + length bytes) (put_slot w bytes s) ≡ take w s ++ bytes
put_slot_lem w bytes s h =
    take_at (take w s ++ bytes) _ (w + length bytes)
    (length-append (take w s) bytes ∙ ap (λ (n : ℕ). n + length bytes) (length-take-le w s h))

put_room : (w : ℕ) (bytes s : List ℕ) → w ≤ length s → w + length bytes ≤ slot_size → w + length bytes ≤ length (put_slot w bytes s)
put_room w bytes s h k = let e = put_length w bytes s k h in omega arith

put_ready : (far : Ration) (z : Sides) (w : List ℕ) (r : Ration) (f : Bool) (bytes : List ℕ) → f ≡ false → is_ready (sends_of far z w r f) ≡ true
    → is_ready (with_put bytes (sends_of far z w r f)) ≡ true
put_ready far sides.Idle w r f bytes e h = h
put_ready far (sides.Opening b) w r f bytes e h = refl
put_ready far (sides.Live side.Open t) [] r f bytes e h = absurd (true≢false (sym h ∙ e))
put_ready far (sides.Live side.Open t) (b ∷ w) r f bytes e h = h
put_ready far (sides.Live side.Finished t) w r f bytes e h = h
put_ready far (sides.Live side.Ended t) w r f bytes e h = h

put_sends : (far : Ration) (z : Sides) (w w' bytes : List ℕ) (r : Ration) (f : Bool) → w' ≡ w ++ bytes → sends_of far z w' r f ≡ with_put bytes (sends_of far z w r f)
put_sends far sides.Idle w w' bytes r f e = refl
put_sends far (sides.Opening b) w w' bytes r f e = ap (λ (l : List ℕ). sending true l far f) e
put_sends far (sides.Live side.Open t) w w' bytes r f e = ap (λ (l : List ℕ). sending false l r f) e
put_sends far (sides.Live side.Finished t) w w' bytes r f e = refl
put_sends far (sides.Live side.Ended t) w w' bytes r f e = refl

pub put_sound : (r : Role) (own far : Ration) (x : Session) (s bytes : List ℕ) → Formed r true x → x.waiting ≤ length s
    → Takes (Sound r own far x s (puts bytes ∷ []) [] (put_slot x.waiting bytes s) false) (put_ask x (length bytes))
unfolding put_ask fold
put_sound r own far x s bytes f long side room =
    let w = take x.waiting s in
    let sender = not_false (sends x.sides) (or_first (not (sends x.sides)) x.finish side) in
    let e = put_sends far x.sides w _ bytes x.outbound x.finish (put_slot_lem x.waiting bytes s long) in
    let small = f.waiting in
    let free = ltb-false (slot_size - x.waiting) (length bytes) room in
    record {
      seen = seen_path refl e refl;
      formed =
          record {
            outbound = f.outbound;
            inbound = f.inbound;
            waiting = omega arith;
            none = ap (λ (b : Bool). only_if (not b) (eqb (x.waiting + length bytes) 0)) sender;
            finish = f.finish;
            place = f.place;
            pair = f.pair;
          };
      lasts =
          λ h _ _. ap is_ready e
          ∙ put_ready far x.sides w x.outbound x.finish bytes (or_second (not (sends x.sides)) x.finish side) h;
      sends_data = refl;
      room = λ h. put_room x.waiting bytes s h (omega arith);
      lawful = tt;
    }

-- ---- open

server_client : (r : Role) → is_server r ≡ false → is_client r ≡ true
server_client role.Client e = refl
server_client role.Server e = absurd (true≢false e)

pub open_sound : (r : Role) (own far : Ration) (x : Session) (s : List ℕ) → Formed r true x
    → Takes (Sound r own far x s (opens ∷ []) [] s false) (open_ask r x)
unfolding open_ask fold
open_sound r own far x s f client = go x.sides refl
  where
    starts : (b : Before) → ends_of (sides.Opening b) ≡ ends_of x.sides → Sound r own far x s (opens ∷ []) [] s false (record { session = opened b x; sent = []; late = false })
    starts b e =
        record {
          seen = seen_path e refl refl;
          formed =
              record {
                outbound = f.outbound;
                inbound = f.inbound;
                waiting = omega arith;
                none = refl;
                finish = refl;
                place = and_both (server_client r client) refl;
                pair = refl;
              };
          lasts = λ _ _ _. refl;
          sends_data = refl;
          room = λ _. omega arith;
          lawful = tt;
        }

    go : (z : Sides) → x.sides ≡ z → Takes (Sound r own far x s (opens ∷ []) [] s false) (open_of x z)
    go sides.Idle e = starts before.Idle (sym (ap ends_of e))
    go (sides.Opening b) e = tt
    go (sides.Live side.Open t) e = tt
    go (sides.Live side.Finished side.Open) e = tt
    go (sides.Live side.Finished side.Finished) e = tt
    go (sides.Live side.Finished side.Ended) e = starts before.Finished (sym (ap ends_of e))
    go (sides.Live side.Ended side.Open) e = tt
    go (sides.Live side.Ended side.Finished) e = tt
    go (sides.Live side.Ended side.Ended) e = starts before.Ended (sym (ap ends_of e))

-- ---- grant

grantable_range : (r : Ration) (n : ℕ) → grantable r n ≡ true → in_range (plus r n) ≡ true
grantable_range (ration.Finite left) n e = e
grantable_range ration.Endless n e = refl

pub grant_sound : (r : Role) (own far : Ration) (x : Session) (s : List ℕ) (n : ℕ) → Formed r true x
    → Takes (Sound r own far x s [] [] s false) (grant_ask x n)
unfolding grant_ask fold
grant_sound r own far x s n f standing amount sum =
    let range = grantable_range x.inbound n (not_false (grantable x.inbound n) sum) in
    let small : n ≤ 65_535 = ltb-false 65_535 n (or_second (eqb n 0) (ltb 65_535 n) amount) in
    record {
      seen = refl;
      formed = record { outbound = f.outbound; inbound = range; waiting = f.waiting; none = f.none; finish = f.finish; place = f.place; pair = f.pair };
      lasts = λ h _ _. h;
      sends_data = refl;
      room = λ h. h;
      lawful = record { now = go x.sides (not_false (may_grant x.sides) standing) range; ours = refl; fits = omega arith; body = omega arith; carries = tt };
    }
  where
    go : (z : Sides) → may_grant z ≡ true → in_range (plus x.inbound n) ≡ true → permits_ours r (ends_of z) (look far x s) (increment_of n) ≡ true
    go sides.Idle e h = absurd (false≢true e)
    go (sides.Opening b) e h = absurd (false≢true e)
    go (sides.Live side.Open side.Open) e h = h
    go (sides.Live side.Open side.Finished) e h = absurd (false≢true e)
    go (sides.Live side.Open side.Ended) e h = absurd (false≢true e)
    go (sides.Live side.Finished side.Open) e h = h
    go (sides.Live side.Finished side.Finished) e h = absurd (false≢true e)
    go (sides.Live side.Finished side.Ended) e h = absurd (false≢true e)
    go (sides.Live side.Ended t) e h = absurd (false≢true e)

-- ---- abort

-- partial only from a server
partial_server : (p : Bool) (r : Role) → (p && is_client r) ≡ false → only_if p (is_server r) ≡ true
partial_server true role.Client e = absurd (true≢false e)
partial_server true role.Server e = refl
partial_server false r e = refl

client_server : (r : Role) → is_client r ≡ false → is_server r ≡ true
client_server role.Client e = absurd (true≢false e)
client_server role.Server e = refl

-- our side ends and what waited is dropped
ended_formed : {r : Role} {x : Session} (t : Side) (y : Session) → Formed r true x → y.sides ≡ sides.Live side.Ended t → y.outbound ≡ x.outbound
    → y.inbound ≡ x.inbound → y.waiting ≡ 0 → y.finish ≡ false → Formed r true y
ended_formed {r} t y f z o i w n =
    record {
      outbound = ap in_range o ∙ f.outbound;
      inbound = ap in_range i ∙ f.inbound;
      waiting = omega (arith, w);
      none = rw (z, w);
      finish = rw n;
      place = rw z;
      pair = ap (paired r) z ∙ ended_pairs r t;
    }

pub abort_sound : (r : Role) (own far : Ration) (x : Session) (s : List ℕ) (partial : Bool) → Formed r true x
    → Takes (Sound r own far x s (aborts ∷ []) [] s false) (abort_ask r x partial)
unfolding abort_ask fold
abort_sound r own far x s partial f role = go x.sides refl
  where
    lapsed : {A : Type 0} → true ≡ false → A
    lapsed e = absurd (true≢false e)

    dropping : (o t : Side) → x.sides ≡ sides.Live o t → established o ≡ true
        → Takes (Sound r own far x s (aborts ∷ []) [] s false) (aborting partial t x)
    dropping o t e h =
        record {
          seen = seen_path (sym (ap (λ (z : Sides). ours side.Ended (ends_of z)) e)) refl refl;
          formed = ended_formed t _ f refl refl refl refl refl;
          lasts = λ _ q _. lapsed q;
          sends_data = refl;
          room = λ _. omega arith;
          lawful =
              record {
                now = ap (λ (z : Sides). permits_ours r (ends_of z) (observe own far (look far x s) aborts) (abort_of partial)) e ∙ and_both (only_if_true (not (established t) && (unfinished o || is_server r)) true refl) h;
                ours = partial_server partial r role;
                fits = tt;
                body = omega arith;
                carries = tt;
              };
        }

    restoring : (b : Before) → x.sides ≡ sides.Opening b
        → Sound r own far x s (aborts ∷ []) [] s false (record { session = dropped (with_sides (restored b) (settled outcome.MayRetry x)); sent = []; late = false })
    restoring before.Idle e =
        record {
          seen = seen_path (sym (ap ends_of e)) refl refl;
          formed = record { outbound = f.outbound; inbound = f.inbound; waiting = omega arith; none = refl; finish = refl; place = refl; pair = refl };
          lasts = λ _ q _. lapsed q;
          sends_data = refl;
          room = λ _. omega arith;
          lawful = tt;
        }
    restoring before.Finished e =
        record {
          seen = seen_path (sym (ap ends_of e)) refl refl;
          formed = record { outbound = f.outbound; inbound = f.inbound; waiting = omega arith; none = refl; finish = refl; place = refl; pair = and_first (is_client r) true (rw e at f.place) };
          lasts = λ _ q _. lapsed q;
          sends_data = refl;
          room = λ _. omega arith;
          lawful = tt;
        }
    restoring before.Ended e =
        record {
          seen = seen_path (sym (ap ends_of e)) refl refl;
          formed = record { outbound = f.outbound; inbound = f.inbound; waiting = omega arith; none = refl; finish = refl; place = refl; pair = refl };
          lasts = λ _ q _. lapsed q;
          sends_data = refl;
          room = λ _. omega arith;
          lawful = tt;
        }

    go : (z : Sides) → x.sides ≡ z → Takes (Sound r own far x s (aborts ∷ []) [] s false) (abort_plan x partial z)
    go sides.Idle e = tt
    go (sides.Opening b) e = restoring b e
    go (sides.Live side.Open t) e = dropping side.Open t e refl
    go (sides.Live side.Finished side.Open) e = dropping side.Finished side.Open e refl
    go (sides.Live side.Finished side.Finished) e = dropping side.Finished side.Finished e refl
    go (sides.Live side.Finished side.Ended) e = tt
    go (sides.Live side.Ended t) e = tt

-- ---- close

pub close_sound : (r : Role) (own far : Ration) (x : Session) (s : List ℕ) → Formed r true x
    → Takes (Sound r own far x s [] [] s false) (close_ask r x)
unfolding close_ask fold
close_sound r own far x s f role = go x.sides refl
  where
    -- the far side of a server that has finished is not ended
    goes : (t : Side) → pairs r t side.Finished ≡ true → permits_ours r (ends side.Finished t) (look far x s) close_of ≡ true
    goes side.Open h = refl
    goes side.Finished h = refl
    goes side.Ended h = absurd (true≢false (sym h ∙ role))

    go : (z : Sides) → x.sides ≡ z → Takes (Sound r own far x s [] [] s false) (close_plan x z)
    go sides.Idle e = tt
    go (sides.Opening b) e = tt
    go (sides.Live side.Open t) e = tt
    go (sides.Live side.Finished t) e =
        record {
          seen =
              seen_path (sym (ap (λ (z : Sides). ours side.Ended (ends_of z)) e))
              (sym (ap (λ (z : Sides). sends_of far z (take x.waiting s) x.outbound x.finish) e)) refl;
          formed =
              record {
                outbound = f.outbound;
                inbound = f.inbound;
                waiting = f.waiting;
                none = rw e at f.none;
                finish = rw e at f.finish;
                place = refl;
                pair = ended_pairs r t;
              };
          lasts = λ h _ _. absurd (false≢true (rw e at h));
          sends_data = refl;
          room = λ h. h;
          lawful =
              record {
                now = ap (λ (z : Sides). permits_ours r (ends_of z) (look far x s) close_of) e ∙ goes t (sym (ap (paired r) e) ∙ f.pair);
                ours = client_server r role;
                fits = tt;
                body = omega arith;
                carries = tt;
              };
        }
    go (sides.Live side.Ended t) e = tt

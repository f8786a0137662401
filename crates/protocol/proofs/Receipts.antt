-- Each receipt keeps what is observed of its session: one lemma for each message, about one session and no table.
use mathlib.Core.Path.{◌≡◌, refl, sym, ap, ◌∙◌, subst}
use mathlib.Core.Bool.{Bool, true, false, not, ◌&&◌, ◌||◌, true≢false, false≢true}
use mathlib.Core.List.{List, [], ◌∷◌}
use Prim.Native.Nat.{ℕ, ◌+◌}
use native.Mathlib.Omega.{arith}
use lib.ListN.{take}
use borrow.Author.Tests.{ltb-true, lt-ltb}
use Rattle.laws.specs.Runs.{fold}
use Rattle.laws.proofs.Tests.{and_both, not_false, or_first}
use Rattle.ration.specs.declared.Ration.{Ration}
use Rattle.ration.specs.declared.Ration.TheVariants as ration
use Rattle.ration.specs.Ration.{in_range, plus}
use Rattle.ration.proofs.Laws.{minus_in_range}
use Rattle.wire.specs.declared.Role.{Role}
use Rattle.wire.specs.declared.Role.TheVariants as role
use Rattle.wire.specs.Message.{is_client, is_server, only_if}
use Rattle.state.specs.declared.Side.{Side}
use Rattle.state.specs.declared.Side.TheVariants as side
use Rattle.state.specs.declared.Sides.{Sides}
use Rattle.state.specs.declared.Sides.TheVariants as sides
use Rattle.state.specs.declared.Outcome.TheVariants as outcome
use Rattle.state.specs.declared.Session.{Session}
use Rattle.protocol.specs.Message.{SessionMessage, data_of, increment_of, abort_of, close_of, acknowledgment_of}
use Rattle.state.specs.With.{with_sides}
use Rattle.protocol.specs.Session.{after_data, follow, settled, inbound_spent as spent, incremented}
use Rattle.protocol.specs.Receipt.{Taken, quietly, replying, aborted, data_to, increment_to, abort_to, close_to, arriving, other, acceptable, accepted, receipt}
use Rattle.protocol.specs.Ask.{sends, positive}
use Rattle.protocol.specs.Observed.{received, Sending, silent, sending, any_left, is_ready, lapses, sends_after, ends_after, counted, inbound_after, Ends, ends, ours, theirs, with_increment, observe, established, unfinished, permits_ours}
use Rattle.protocol.proofs.Plans.{Takes}
use Rattle.protocol.proofs.Views.{ends_of, sends_of, look, Formed, seen_path, pairs, paired, ended_pairs, only_if_true, data_leaves_lem, any_left_lem}
use Rattle.protocol.proofs.Sound.{Sound}

-- an open Data message begins a session
abbrev pub begins : SessionMessage → Bool
begins (data_of n b close eof ack) = b
begins (increment_of n) = false
begins (abort_of p) = false
begins close_of = false
begins acknowledgment_of = false

-- Data with a close flag, and a Close, terminate it
abbrev pub closes : SessionMessage → Bool
closes (data_of n b close eof ack) = close
closes (increment_of n) = false
closes (abort_of p) = false
closes close_of = true
closes acknowledgment_of = false

-- what the other end may send at all: an open Data comes from a client, a close flag and a Close from a server
abbrev pub Possible : Role → SessionMessage → Type 0
Possible role.Client m = begins m ≡ false
Possible role.Server m = closes m ≡ false

from_server : (r : Role) (m : SessionMessage) → Possible r m → closes m ≡ true → is_client r ≡ true
from_server role.Client m p e = refl
from_server role.Server m p e = absurd (true≢false (sym e ∙ p))

same_sends : (o t t' : Side) → sends (sides.Live o t') ≡ sends (sides.Live o t)
same_sends side.Open t t' = refl
same_sends side.Finished t t' = refl
same_sends side.Ended t t' = refl

own_partial : (r : Role) → only_if (is_server r) (is_server r) ≡ true
own_partial role.Client = refl
own_partial role.Server = refl

same_view : (far : Ration) (o t t' : Side) (w : List ℕ) (r : Ration) (f : Bool) → sends_of far (sides.Live o t') w r f ≡ sends_of far (sides.Live o t) w r f
same_view far side.Open t t' w r f = refl
same_view far side.Finished t t' w r f = refl
same_view far side.Ended t t' w r f = refl

positive_more : (r : Ration) (n : ℕ) → positive r ≡ true → positive (plus r n) ≡ true
positive_more (ration.Finite k) n e = let h = ltb-true 0 k e in lt-ltb 0 (k + n) (omega arith)
positive_more ration.Endless n e = refl

increment_ready : (v : Sending) (n : ℕ) → is_ready v ≡ true → is_ready (with_increment n v) ≡ true
increment_ready silent n h = h
increment_ready (sending true w r f) n h = refl
increment_ready (sending false [] r f) n h = h
increment_ready (sending false (b ∷ w) r f) n h = flat (any_left (plus r n)) (any_left_lem (plus r n) ∙ positive_more r n (sym (any_left_lem r) ∙ unflat (any_left r) h))
  where
    flat : (b : Bool) → b ≡ true → (b || false) ≡ true
    flat true e = refl
    flat false e = e

    unflat : (b : Bool) → (b || false) ≡ true → b ≡ true
    unflat true e = refl
    unflat false e = e

-- a side that goes on pairs with any
goes_on_pairs : (r : Role) (o : Side) (eof : Bool) → pairs r (after_data false eof) o ≡ true
goes_on_pairs r o true = refl
goes_on_pairs r o false = refl

accepted_pairs : (r : Role) (n : ℕ) (close eof ack : Bool) → Possible r (data_of n true close eof ack) → pairs r (after_data close eof) side.Open ≡ true
accepted_pairs role.Client n close eof ack q = absurd (true≢false q)
accepted_pairs role.Server n true eof ack q = absurd (true≢false q)
accepted_pairs role.Server n false eof ack q = goes_on_pairs role.Server side.Open eof

module _ (r : Role) (own far : Ration) (x : Session) (s : List ℕ) (f : Formed r true x) where
  -- what is taken when the message m comes
  abbrev At : SessionMessage → Taken → Type 0
  At m t = Sound r own far x s (received m ∷ []) [] s false t

  -- our side stays, theirs moves
  module _ (o t t' : Side) (e : x.sides ≡ sides.Live o t) where
    kept_formed : (y : Session) → y.sides ≡ sides.Live o t' → in_range y.outbound ≡ true → in_range y.inbound ≡ true
        → y.waiting ≡ x.waiting → y.finish ≡ x.finish → pairs r t' o ≡ true → Formed r true y
    kept_formed y z ho hi w n pr =
        let small = f.waiting in
        let same : sends y.sides ≡ sends x.sides = ap sends z ∙ same_sends o t t' ∙ sym (ap sends e) in
        record {
          outbound = ho;
          inbound = hi;
          waiting = omega (arith, w);
          none = rw (same, w) f.none;
          finish = rw (same, n) f.finish;
          place = rw z;
          pair = ap (paired r) z ∙ pr;
        }

    kept_standing : ends_of (sides.Live o t') ≡ theirs t' (ends_of x.sides)
    kept_standing = sym (ap (λ (z : Sides). theirs t' (ends_of z)) e)

    kept_sends : (w : List ℕ) (q : Ration) (n : Bool) → sends_of far (sides.Live o t') w q n ≡ sends_of far x.sides w q n
    kept_sends w q n = same_view far o t t' w q n ∙ sym (ap (λ (z : Sides). sends_of far z w q n) e)

  -- a reply Abort: our side, open or finished, ends
  reply_sound : (m : SessionMessage) (o t t' : Side) (y : Session) → x.sides ≡ sides.Live o t → established o ≡ true → lapses (received m) ≡ true
      → ends_after (ends_of x.sides) (received m) ≡ ends o t' → inbound_after own (ends_of x.sides) x.inbound (received m) ≡ y.inbound
      → in_range y.outbound ≡ true → in_range y.inbound ≡ true → Takes (At m) (replying r t' y)
  unfolding fold
  reply_sound m o t t' y e live lapse st ib ho hi =
      record {
        seen = seen_path (sym (ap (ours side.Ended) st)) refl (sym ib);
        formed = record { outbound = ho; inbound = hi; waiting = omega arith; none = refl; finish = refl; place = refl; pair = ended_pairs r t' };
        lasts = λ _ q _. absurd (true≢false (sym lapse ∙ or_first (lapses (received m)) false q));
        sends_data = refl;
        room = λ _. omega arith;
        lawful =
            record {
              now = ap (λ (z : Ends). permits_ours r z (observe own far (look far x s) (received m)) (abort_of (is_server r))) st ∙ and_both (only_if_true (not (established t') && (unfinished o || is_server r)) true refl) live;
              ours = own_partial r;
              fits = tt;
              body = omega arith;
              carries = tt;
            };
      }

  -- Data that gets no reply: our side stays
  data_kept : (n : ℕ) (close eof ack late : Bool) (o : Side) (y : Session) → x.sides ≡ sides.Live o side.Open
      → y.sides ≡ sides.Live o (after_data close eof) → y.outbound ≡ x.outbound → y.waiting ≡ x.waiting → y.finish ≡ x.finish
      → in_range y.inbound ≡ true → y.inbound ≡ inbound_after own (ends_of x.sides) x.inbound (received (data_of n false close eof ack))
      → pairs r (after_data close eof) o ≡ true → At (data_of n false close eof ack) (record { session = y; sent = []; late = late })
  unfolding fold
  data_kept n close eof ack late o y e z ob w fi hi ib pr =
      let st = ap ends_of z ∙ kept_standing o side.Open (after_data close eof) e
      ∙ ap (λ (a : Side). theirs a (ends_of x.sides)) (sym (data_leaves_lem close eof)) in
      let view : (look far y s).sends ≡ (look far x s).sends =
      rw (z, w, ob, fi) (kept_sends o side.Open (after_data close eof) e (take x.waiting s) x.outbound x.finish) in
      record {
        seen = seen_path st view ib;
        formed = kept_formed o side.Open (after_data close eof) e y z (ap in_range ob ∙ f.outbound) hi w fi pr;
        lasts = λ h _ _. ap is_ready view ∙ h;
        sends_data = refl;
        room = λ h. rw w h;
        lawful = tt;
      }

  counts : {z : Sides} (n : ℕ) → x.sides ≡ z → counted (ends_of z) x.inbound n ≡ counted (ends_of x.sides) x.inbound n
  counts n e = sym (ap (λ (z : Sides). counted (ends_of z) x.inbound n) e)

  data_sound : (n : ℕ) (close eof ack : Bool) (o : Side) → x.sides ≡ sides.Live o side.Open → Possible r (data_of n false close eof ack)
      → Takes (At (data_of n false close eof ack)) (data_to r x n close o (after_data close eof))
  data_sound n true eof ack side.Ended e q = data_kept n true eof ack true side.Ended _ e refl refl refl refl f.inbound (counts n e) refl
  data_sound n false eof ack side.Ended e q =
      data_kept n false eof ack true side.Ended _ e refl refl refl refl f.inbound (counts n e) (ended_pairs r (after_data false eof))
  data_sound n true eof ack side.Finished e q = λ _.
      data_kept n true eof ack false side.Finished _ e refl refl refl refl (minus_in_range x.inbound n f.inbound) (counts n e)
      (from_server r (data_of n false true eof ack) q refl)
  data_sound n false eof ack side.Finished e q = λ _.
      data_kept n false eof ack false side.Finished _ e refl refl refl refl (minus_in_range x.inbound n f.inbound) (counts n e) (goes_on_pairs r side.Finished eof)
  data_sound n true eof ack side.Open e q = λ _.
      reply_sound (data_of n false true eof ack) side.Open side.Open side.Ended (settled outcome.Complete (spent n x)) e refl refl (ap (λ (z : Sides). theirs side.Ended (ends_of z)) e) (sym (counts n e))
      f.outbound (minus_in_range x.inbound n f.inbound)
  data_sound n false eof ack side.Open e q = λ _.
      data_kept n false eof ack false side.Open _ e refl refl refl refl (minus_in_range x.inbound n f.inbound) (counts n e) (goes_on_pairs r side.Open eof)

  -- a message that changes nothing but the state of the far side
  moved_sound : (m : SessionMessage) (late : Bool) (o t t' : Side) (y : Session) → x.sides ≡ sides.Live o t → y.sides ≡ sides.Live o t'
      → y.outbound ≡ x.outbound → y.inbound ≡ x.inbound → y.waiting ≡ x.waiting → y.finish ≡ x.finish
      → theirs t' (ends_of x.sides) ≡ ends_after (ends_of x.sides) (received m) → (look far x s).sends ≡ sends_after far (look far x s).sends (received m)
      → x.inbound ≡ inbound_after own (ends_of x.sides) x.inbound (received m) → pairs r t' o ≡ true → At m (record { session = y; sent = []; late = late })
  unfolding fold
  moved_sound m late o t t' y e z ob ib w fi st se bo pr =
      let view : (look far y s).sends ≡ (look far x s).sends = rw (z, w, ob, fi) (kept_sends o t t' e (take x.waiting s) x.outbound x.finish) in
      record {
        seen = seen_path (ap ends_of z ∙ kept_standing o t t' e ∙ st) (view ∙ se) (ib ∙ bo);
        formed = kept_formed o t t' e y z (ap in_range ob ∙ f.outbound) (ap in_range ib ∙ f.inbound) w fi pr;
        lasts = λ h _ _. ap is_ready view ∙ h;
        sends_data = refl;
        room = λ h. rw w h;
        lawful = tt;
      }

  still_pairs : (o t : Side) → x.sides ≡ sides.Live o t → pairs r t o ≡ true
  still_pairs o t e = sym (ap (paired r) e) ∙ f.pair

  same_theirs : (o t : Side) → x.sides ≡ sides.Live o t → theirs t (ends_of x.sides) ≡ ends_of x.sides
  same_theirs o t e = ap (λ (z : Sides). theirs t (ends_of z)) e ∙ sym (ap ends_of e)

  -- an increment to a side that sends no more is late and tells nothing
  silent_increment : (n : ℕ) (o t : Side) → x.sides ≡ sides.Live o t → sends_of far (sides.Live o t) (take x.waiting s) x.outbound x.finish ≡ silent
      → (look far x s).sends ≡ with_increment n (look far x s).sends
  silent_increment n o t e q =
      let none : (look far x s).sends ≡ silent = ap (λ (z : Sides). sends_of far z (take x.waiting s) x.outbound x.finish) e ∙ q in
      none ∙ sym (ap (with_increment n) none)

  increment_sound : (n : ℕ) (o t : Side) → x.sides ≡ sides.Live o t → Takes (At (increment_of n)) (increment_to x n o t)
  unfolding fold
  increment_sound n side.Open t e = λ range.
      let view : (look far (incremented n (with_sides (sides.Live side.Open t) x)) s).sends ≡ with_increment n (look far x s).sends =
      sym (ap (λ (z : Sides). with_increment n (sends_of far z (take x.waiting s) x.outbound x.finish)) e) in
      record {
        seen = seen_path (sym (ap ends_of e)) view refl;
        formed = kept_formed side.Open t t e _ refl (not_false (in_range (plus x.outbound n)) range) f.inbound refl refl (still_pairs side.Open t e);
        lasts = λ h _ _. ap is_ready view ∙ increment_ready (look far x s).sends n h;
        sends_data = refl;
        room = λ h. h;
        lawful = tt;
      }
  increment_sound n side.Finished t e = moved_sound (increment_of n) true side.Finished t t _ e refl refl refl refl refl (same_theirs side.Finished t e) (silent_increment n side.Finished t e refl) refl (still_pairs side.Finished t e)
  increment_sound n side.Ended t e = moved_sound (increment_of n) true side.Ended t t _ e refl refl refl refl refl (same_theirs side.Ended t e) (silent_increment n side.Ended t e refl) refl (still_pairs side.Ended t e)

  acknowledgment_sound : (o t : Side) → x.sides ≡ sides.Live o t → Takes (At acknowledgment_of) (quietly (with_sides (sides.Live o t) x))
  acknowledgment_sound o t e = moved_sound acknowledgment_of false o t t _ e refl refl refl refl refl (same_theirs o t e) refl refl (still_pairs o t e)

  far_ended : (o t : Side) → x.sides ≡ sides.Live o t → theirs side.Ended (ends_of x.sides) ≡ ends o side.Ended
  far_ended o t e = ap (λ (z : Sides). theirs side.Ended (ends_of z)) e

  abort_finished : (p : Bool) (t : Side) → x.sides ≡ sides.Live side.Finished t → (q : Role) → r ≡ q
      → Takes (At (abort_of p)) (abort_to q (settled (aborted p) x) side.Finished side.Ended)
  abort_finished p t e role.Client z = moved_sound (abort_of p) false side.Finished t side.Ended _ e refl refl refl refl refl refl refl refl (ap is_client z)
  abort_finished p t e role.Server z =
      let y = settled (aborted p) x in
      subst (λ (q : Role). Takes (At (abort_of p)) (replying q side.Ended y)) z
      (reply_sound (abort_of p) side.Finished t side.Ended y e refl refl (far_ended side.Finished t e) refl f.outbound f.inbound)

  abort_sound : (p : Bool) (o t : Side) → x.sides ≡ sides.Live o t → Takes (At (abort_of p)) (abort_to r (settled (aborted p) x) o side.Ended)
  abort_sound p side.Open t e =
      reply_sound (abort_of p) side.Open t side.Ended (settled (aborted p) x) e refl refl (far_ended side.Open t e) refl f.outbound f.inbound
  abort_sound p side.Finished t e = abort_finished p t e r refl
  abort_sound p side.Ended t e = moved_sound (abort_of p) false side.Ended t side.Ended _ e refl refl refl refl refl refl refl refl refl

  close_sound : (o t : Side) → x.sides ≡ sides.Live o t → is_client r ≡ true → Takes (At close_of) (close_to r (settled outcome.Complete x) o side.Ended)
  close_sound side.Open t e c =
      reply_sound close_of side.Open t side.Ended (settled outcome.Complete x) e refl refl (far_ended side.Open t e) refl f.outbound f.inbound
  close_sound side.Finished t e c = moved_sound close_of false side.Finished t side.Ended _ e refl refl refl refl refl refl refl refl c
  close_sound side.Ended t e c = moved_sound close_of false side.Ended t side.Ended _ e refl refl refl refl refl refl refl refl refl

  -- a message other than an open Data
  arriving_sound : (m : SessionMessage) (o t : Side) → x.sides ≡ sides.Live o t → begins m ≡ false → Possible r m → Takes (At m) (arriving r x m o (follow t m))
  arriving_sound (data_of n true close eof ack) o t e b q = absurd (true≢false b)
  arriving_sound (data_of n false close eof ack) o side.Open e b q = data_sound n close eof ack o e q
  arriving_sound (data_of n false close eof ack) o side.Finished e b q = tt
  arriving_sound (data_of n false close eof ack) o side.Ended e b q = tt
  arriving_sound (increment_of n) o side.Open e b q = increment_sound n o side.Open e
  arriving_sound (increment_of n) o side.Finished e b q = increment_sound n o side.Finished e
  arriving_sound (increment_of n) o side.Ended e b q = tt
  arriving_sound (abort_of p) o side.Open e b q = abort_sound p o side.Open e
  arriving_sound (abort_of p) o side.Finished e b q = abort_sound p o side.Finished e
  arriving_sound (abort_of p) o side.Ended e b q = tt
  arriving_sound close_of o side.Open e b q = tt
  arriving_sound close_of o side.Finished e b q = close_sound o side.Finished e (from_server r close_of q refl)
  arriving_sound close_of o side.Ended e b q = tt
  arriving_sound acknowledgment_of o side.Open e b q = acknowledgment_sound o side.Open e
  arriving_sound acknowledgment_of o side.Finished e b q = acknowledgment_sound o side.Finished e
  arriving_sound acknowledgment_of o side.Ended e b q = tt

  other_sound : (m : SessionMessage) (z : Sides) → x.sides ≡ z → begins m ≡ false → Possible r m → Takes (At m) (other r x m z)
  other_sound m sides.Idle e b q = tt
  other_sound m (sides.Opening w) e b q = tt
  other_sound m (sides.Live o t) e b q = arriving_sound m o t e b q

  accept_sound : in_range own ≡ true → in_range far ≡ true → (n : ℕ) (close eof ack : Bool) → acceptable x.sides ≡ true → Possible r (data_of n true close eof ack)
      → At (data_of n true close eof ack) (record { session = accepted own far n close eof; sent = []; late = false })
  unfolding fold
  accept_sound ho hf n close eof ack ok q =
      record {
        seen = seen_path (ap (ends side.Open) (sym (data_leaves_lem close eof))) refl refl;
        formed = record { outbound = hf; inbound = minus_in_range own n ho; waiting = omega arith; none = refl; finish = refl; place = refl; pair = accepted_pairs r n close eof ack q };
        lasts = λ h _ _. absurd (false≢true (sym (idle x.sides ok) ∙ h));
        sends_data = refl;
        room = λ _. omega arith;
        lawful = tt;
      }
    where
      idle : (z : Sides) → acceptable z ≡ true → is_ready (sends_of far z (take x.waiting s) x.outbound x.finish) ≡ false
      idle sides.Idle q = refl
      idle (sides.Opening b) q = absurd (false≢true q)
      idle (sides.Live side.Open t) q = absurd (false≢true q)
      idle (sides.Live side.Finished t) q = refl
      idle (sides.Live side.Ended side.Open) q = refl
      idle (sides.Live side.Ended side.Finished) q = refl
      idle (sides.Live side.Ended side.Ended) q = refl

  -- whatever message is taken, what is observed of its session is what the session then holds
  pub receipt_sound : in_range own ≡ true → in_range far ≡ true → (m : SessionMessage) → Possible r m → Takes (At m) (receipt r own far x m)
  unfolding receipt
  receipt_sound ho hf (data_of n true close eof ack) q = λ ok room. accept_sound ho hf n close eof ack (not_false (acceptable x.sides) ok) q
  receipt_sound ho hf (data_of n false close eof ack) q = other_sound (data_of n false close eof ack) x.sides refl refl q
  receipt_sound ho hf (increment_of n) q = other_sound (increment_of n) x.sides refl refl q
  receipt_sound ho hf (abort_of p) q = other_sound (abort_of p) x.sides refl refl q
  receipt_sound ho hf close_of q = other_sound close_of x.sides refl refl q
  receipt_sound ho hf acknowledgment_of q = other_sound acknowledgment_of x.sides refl refl q

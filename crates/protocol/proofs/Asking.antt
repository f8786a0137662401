-- A local call is taken exactly if what is observed of its session lets the local side ask for it, and is otherwise refused with the
-- number told: from the rules, one law for each call.
use mathlib.Core.Path.{◌≡◌, refl, sym, ap, ◌∙◌}
use mathlib.Core.Bool.{Bool, true, false, not, ◌&&◌, ◌||◌, true≢false, false≢true}
use mathlib.Core.List.{List}
use Prim.Native.Nat.{ℕ, ◌+◌, ◌-◌, ◌≤◌}
use native.Mathlib.Omega.{arith}
use lib.ListN.{length, take}
use lib.Seq.{length-take-le}
use lib.Dec.{eqb, ltb, leb}
use borrow.Author.Tests.{ltb-true, ltb-false, le-leb, lt-leb}
use Rattle.laws.specs.Pick.{pick}
use Rattle.laws.proofs.Tests.{not_true, not_false, or_first, or_second}
use Rattle.ration.specs.declared.Ration.{Ration}
use Rattle.ration.specs.declared.Ration.TheVariants as ration
use Rattle.ration.specs.Ration.{grantable}
use Rattle.wire.specs.declared.Role.{Role}
use Rattle.wire.specs.declared.Role.TheVariants as role
use Rattle.wire.specs.Message.{is_client, is_server, only_if}
use Rattle.state.specs.declared.Side.TheVariants as side
use Rattle.state.specs.declared.Before.TheVariants as before
use Rattle.state.specs.declared.Sides.{Sides}
use Rattle.state.specs.declared.Sides.TheVariants as sides
use Rattle.state.specs.declared.Session.{Session}
use Rattle.protocol.specs.Slot.{slot_size}
use Rattle.protocol.specs.Plan.{check}
use Rattle.protocol.specs.Session.{queued, finishing}
use Rattle.protocol.specs.Ask.{silently, open_of, open_ask, sends, put_ask, finish_ask, may_grant, grant_ask, abort_plan, abort_ask, close_plan, close_ask}
use Rattle.protocol.specs.Connection.{placed}
use Rattle.protocol.specs.Observed.{Sending, may_open}
use Rattle.protocol.specs.Asked.{is_unsent, may_ask_open, open_number, may_put, put_number, sends_on, may_grant_to, is_amount, has_room, may_ask_grant, grant_number, may_abort, may_ask_abort, abort_number, may_close_at, may_ask_close, close_number}
use Rattle.protocol.proofs.Plans.{Exactly}
use Rattle.protocol.proofs.Views.{ends_of, sends_of, look}

-- a conjunction by its parts
both_are : {a b : Bool} (c d : Bool) → a ≡ c → b ≡ d → (a && b) ≡ (c && d)
both_are c d p q = rw (p, q)

module _ (far : Ration) (x : Session) (s : List ℕ) where
  -- what is observed of its sending, if its sides were these
  abbrev sends_at : Sides → Sending
  sends_at z = sends_of far z (take x.waiting s) x.outbound x.finish

  -- ---- open

  pub open_exact : (r : Role) → Exactly (may_ask_open r (look far x s)) (open_number r) (open_ask r x)
  unfolding open_ask pick
  open_exact role.Server = ((λ e. (refl, refl)), λ e. absurd (true≢false e))
  open_exact role.Client = ((λ e. absurd (false≢true e)), λ e. go x.sides)
    where
      go : (z : Sides) → Exactly (may_open role.Client (ends_of z) && not (is_unsent (sends_at z))) 5 (open_of x z)
      go sides.Idle = refl
      go (sides.Opening before.Idle) = (refl, refl)
      go (sides.Opening before.Finished) = (refl, refl)
      go (sides.Opening before.Ended) = (refl, refl)
      go (sides.Live side.Open side.Open) = (refl, refl)
      go (sides.Live side.Open side.Finished) = (refl, refl)
      go (sides.Live side.Open side.Ended) = (refl, refl)
      go (sides.Live side.Finished side.Open) = (refl, refl)
      go (sides.Live side.Finished side.Finished) = (refl, refl)
      go (sides.Live side.Finished side.Ended) = refl
      go (sides.Live side.Ended side.Open) = (refl, refl)
      go (sides.Live side.Ended side.Finished) = (refl, refl)
      go (sides.Live side.Ended side.Ended) = refl

  -- ---- put and finish

  -- the slot has room exactly if no more bytes wait then than a slot holds
  has_room_lem : (n : ℕ) → x.waiting ≤ length s → x.waiting ≤ slot_size → ltb (slot_size - x.waiting) n ≡ false → leb (length (take x.waiting s) + n) slot_size ≡ true
  has_room_lem n h k e =
      let size = length-take-le x.waiting s h in
      let free = ltb-false (slot_size - x.waiting) n e in
      le-leb (length (take x.waiting s) + n) slot_size (omega arith)

  no_room : (n : ℕ) → x.waiting ≤ length s → ltb (slot_size - x.waiting) n ≡ true → leb (length (take x.waiting s) + n) slot_size ≡ false
  no_room n h e =
      let size = length-take-le x.waiting s h in
      let more = ltb-true (slot_size - x.waiting) n e in
      lt-leb (length (take x.waiting s) + n) slot_size (omega arith)

  pub put_exact : (n : ℕ) → x.waiting ≤ length s → x.waiting ≤ slot_size → Exactly (may_put (look far x s).sends n) (put_number (look far x s).sends) (put_ask x n)
  unfolding put_ask pick
  put_exact n h k = go x.sides
    where
      asked : Bool
      asked = leb (length (take x.waiting s) + n) slot_size

      number : (b : Bool) → x.finish ≡ b → pick {A = ℕ} (not b) 6 5 ≡ pick (not x.finish) 6 5
      number b e = sym (ap (λ (c : Bool). pick {A = ℕ} (not c) 6 5) e)

      sending_exact : (x.finish ≡ true → ((not x.finish && asked) ≡ false) × (5 ≡ pick {A = ℕ} (not x.finish) 6 5))
          × (x.finish ≡ false → (ltb (slot_size - x.waiting) n ≡ true → ((not x.finish && asked) ≡ false) × (6 ≡ pick {A = ℕ} (not x.finish) 6 5)) × (ltb (slot_size - x.waiting) n ≡ false → (not x.finish && asked) ≡ true))
      sending_exact = (
        (λ e. (both_are false asked (ap not e) refl, number true e)),
        λ e. ((λ q. (both_are true false (ap not e) (no_room n h q), number false e)), λ q. both_are true true (ap not e) (has_room_lem n h k q)),
      )

      go : (z : Sides) → Exactly (may_put (sends_at z) n) (put_number (sends_at z)) (check (not (sends z) || x.finish) 5 (check (ltb (slot_size - x.waiting) n) 6 (silently (queued n x))))
      go sides.Idle = ((λ e. (refl, refl)), λ e. absurd (true≢false e))
      go (sides.Opening b) = sending_exact
      go (sides.Live side.Open t) = sending_exact
      go (sides.Live side.Finished t) = ((λ e. (refl, refl)), λ e. absurd (true≢false e))
      go (sides.Live side.Ended t) = ((λ e. (refl, refl)), λ e. absurd (true≢false e))

  pub finish_exact : Exactly (sends_on (look far x s).sends) 5 (finish_ask x)
  unfolding finish_ask
  finish_exact = go x.sides
    where
      go : (z : Sides) → Exactly (sends_on (sends_at z)) 5 (check (not (sends z) || x.finish) 5 (silently (finishing x)))
      go sides.Idle = ((λ e. (refl, refl)), λ e. absurd (true≢false e))
      go (sides.Opening b) = ((λ e. (ap not e, refl)), λ e. ap not e)
      go (sides.Live side.Open t) = ((λ e. (ap not e, refl)), λ e. ap not e)
      go (sides.Live side.Finished t) = ((λ e. (refl, refl)), λ e. absurd (true≢false e))
      go (sides.Live side.Ended t) = ((λ e. (refl, refl)), λ e. absurd (true≢false e))

  -- ---- grant

  room_is : (q : Ration) (n : ℕ) → has_room q n ≡ grantable q n
  room_is (ration.Finite left) n = refl
  room_is ration.Endless n = refl

  amount_bad : (n : ℕ) → (eqb n 0 || ltb 65_535 n) ≡ true → is_amount n ≡ false
  amount_bad n e = go (eqb n 0) (ltb 65_535 n) refl e
    where
      go : (a b : Bool) → ltb 65_535 n ≡ b → (a || b) ≡ true → (not a && leb n 65_535) ≡ false
      go true b p q = refl
      go false true p q = lt-leb n 65_535 (ltb-true 65_535 n p)
      go false false p q = absurd (false≢true q)

  amount_good : (n : ℕ) → (eqb n 0 || ltb 65_535 n) ≡ false → is_amount n ≡ true
  amount_good n e =
      both_are true true (ap not (or_first (eqb n 0) (ltb 65_535 n) e)) (le-leb n 65_535 (ltb-false 65_535 n (or_second (eqb n 0) (ltb 65_535 n) e)))

  pub grant_exact : (n : ℕ) → Exactly (may_ask_grant (look far x s) n) (grant_number (look far x s) n) (grant_ask x n)
  unfolding grant_ask pick
  grant_exact n = (
    (λ e. let z = same x.sides ∙ not_true (may_grant x.sides) e in (both_are false rest z refl, number z refl)),
    λ e. (
      (λ q. (both_are true false (stands e) (both_are false (has_room x.inbound n) (amount_bad n q) refl), number (stands e) (amount_bad n q))),
      λ q. (
        (λ g. (both_are true false (stands e) (both_are true false (amount_good n q) (room_is x.inbound n ∙ not_true (grantable x.inbound n) g)), number (stands e) (amount_good n q))),
        λ g. both_are true true (stands e) (both_are true true (amount_good n q) (room_is x.inbound n ∙ not_false (grantable x.inbound n) g)),
      ),
    ),
  )
    where
      rest : Bool
      rest = is_amount n && has_room x.inbound n

      -- the number of the refusal, by the results of the two tests
      number : {a b : Bool} → may_grant_to (ends_of x.sides) ≡ a → is_amount n ≡ b → pick a (pick b 7 12) 5 ≡ grant_number (look far x s) n
      number p q = sym (rw (p, q))

      same : (z : Sides) → may_grant_to (ends_of z) ≡ may_grant z
      same sides.Idle = refl
      same (sides.Opening before.Idle) = refl
      same (sides.Opening before.Finished) = refl
      same (sides.Opening before.Ended) = refl
      same (sides.Live side.Open side.Open) = refl
      same (sides.Live side.Open side.Finished) = refl
      same (sides.Live side.Open side.Ended) = refl
      same (sides.Live side.Finished side.Open) = refl
      same (sides.Live side.Finished side.Finished) = refl
      same (sides.Live side.Finished side.Ended) = refl
      same (sides.Live side.Ended t) = refl

      stands : not (may_grant x.sides) ≡ false → may_grant_to (ends_of x.sides) ≡ true
      stands e = same x.sides ∙ not_false (may_grant x.sides) e

  -- ---- abort and close

  pub abort_exact : (r : Role) (partial : Bool) → Exactly (may_ask_abort r (look far x s) partial) (abort_number r partial) (abort_ask r x partial)
  unfolding abort_ask pick
  abort_exact r partial = by_role r partial
    where
      go : (b : Bool) (z : Sides) → Exactly (may_abort (sends_at z) (ends_of z)) 5 (abort_plan x b z)
      go b sides.Idle = (refl, refl)
      go b (sides.Opening before.Idle) = refl
      go b (sides.Opening before.Finished) = refl
      go b (sides.Opening before.Ended) = refl
      go b (sides.Live side.Open t) = refl
      go b (sides.Live side.Finished side.Open) = refl
      go b (sides.Live side.Finished side.Finished) = refl
      go b (sides.Live side.Finished side.Ended) = (refl, refl)
      go b (sides.Live side.Ended t) = (refl, refl)

      by_role : (q : Role) (b : Bool)
          → Exactly (only_if b (is_server q) && may_abort (sends_at x.sides) (ends_of x.sides)) (abort_number q b) (check (b && is_client q) 4 (abort_plan x b x.sides))
      by_role role.Client true = ((λ e. (refl, refl)), λ e. absurd (true≢false e))
      by_role role.Client false = ((λ e. absurd (false≢true e)), λ e. go false x.sides)
      by_role role.Server true = ((λ e. absurd (false≢true e)), λ e. go true x.sides)
      by_role role.Server false = ((λ e. absurd (false≢true e)), λ e. go false x.sides)

  pub close_exact : (r : Role) → placed r true x.sides ≡ true → Exactly (may_ask_close r (look far x s)) (close_number r) (close_ask r x)
  unfolding close_ask pick
  close_exact role.Client p = ((λ e. (refl, refl)), λ e. absurd (true≢false e))
  close_exact role.Server p = ((λ e. absurd (false≢true e)), λ e. go x.sides p)
    where
      go : (z : Sides) → placed role.Server true z ≡ true → Exactly (may_close_at (ends_of z)) 5 (close_plan x z)
      go sides.Idle p = (refl, refl)
      go (sides.Opening b) p = absurd (false≢true p)
      go (sides.Live side.Open t) p = (refl, refl)
      go (sides.Live side.Finished t) p = refl
      go (sides.Live side.Ended t) p = (refl, refl)

-- What the word of a stage and the word of a ping say, whatever number it is: a test of the number decides as the stage or the ping does.
use mathlib.Core.Path.{◌≡◌}
use mathlib.Core.Bool.{not}
use Prim.Native.Nat.{ℕ, ◌+◌, ◌-◌, ◌/◌}
use native.Mathlib.Omega.{arith}
use lib.Dec.{eqb, ltb, leb}
use borrow.Author.Tests.{eq-eqb, ne_eqb, le-leb, lt-leb, ltb-true, ltb-false, eqb-true, eqb-false}
use Rattle.laws.specs.Pick.{pick}
use Rattle.protocol.specs.Connection.{exchanged, far_number}
use Rattle.protocol.specs.Judge.{matches}
use Rattle.protocol.specs.Call.{is_fresh, is_outstanding, unstarted}
use Rattle.words.specs.State.{role_in, stage_of, ping_in}
use Rattle.words.proofs.Sessions.{by_test}

-- ---- the stage of a word

module _ (n : ℕ) where
  -- the headers are exchanged from 3 on
  pub exchanged_word : leb 3 n ≡ exchanged (stage_of n)
  unfolding stage_of pick
  exchanged_word =
      by_test (ltb n 2)
      (λ t. rw (t, lt-leb 3 n (omega (arith, ltb-true n 2 t))))
      (λ f. rw f
      (by_test (eqb n 2)
      (λ t. rw (t, lt-leb 3 n (omega (arith, eqb-true n 2 t))))
      (λ g. let d = eqb-false n 2 g in rw (g, le-leb 3 n (omega (arith, ltb-false n 2 f))))))

  -- no header was sent or received below 2
  pub fresh_word : ltb n 2 ≡ is_fresh (stage_of n)
  unfolding stage_of pick
  fresh_word = by_test (ltb n 2) (λ t. rw t) (λ f. rw f (by_test (eqb n 2) (λ t. rw t) (λ g. rw g)))

  -- a client that has not started has 0
  pub unstarted_word : eqb n 0 ≡ unstarted (stage_of n)
  unfolding stage_of role_in pick
  unstarted_word =
      by_test (ltb n 2)
      (λ t. rw t (by_test (eqb n 0) (λ e. rw e) (λ e. rw e)))
      (λ f. rw (f, ne_eqb n 0 (λ e. omega (arith, ltb-false n 2 f))) (by_test (eqb n 2) (λ t. rw t) (λ g. rw g)))

  -- what is above 3 is the far number with the role below it; below 3 there is no far header
  pub far_word : far_number (stage_of n) ≡ (n - 3) / 2
  unfolding stage_of pick
  far_word =
      by_test (ltb n 2)
      (λ t. rw t (omega (arith, ltb-true n 2 t)))
      (λ f. rw f (by_test (eqb n 2) (λ t. rw t (omega (arith, eqb-true n 2 t))) (λ g. rw g)))

-- ---- the ping of a word

module _ (n : ℕ) where
  -- 0 is none
  pub outstanding_word : not (eqb n 0) ≡ is_outstanding (ping_in n)
  unfolding ping_in pick
  outstanding_word = by_test (eqb n 0) (λ t. rw t) (λ f. rw f)

  -- one more than the cookie
  pub cookie_word : (k : ℕ) → eqb n (1 + k) ≡ matches (ping_in n) k
  unfolding ping_in pick
  cookie_word k =
      by_test (eqb n 0)
      (λ t. rw (t, ne_eqb n (1 + k) (λ e. omega (arith, eqb-true n 0 t))))
      (λ f. rw f
      (let d = eqb-false n 0 f in
      by_test (eqb (n - 1) k)
      (λ t. rw (t, eq-eqb n (1 + k) (omega (arith, eqb-true (n - 1) k t))))
      (λ g. let x = eqb-false (n - 1) k g in rw (g, ne_eqb n (1 + k) (λ e. x (omega arith))))))

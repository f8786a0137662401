-- The ready flags are the test of the rule, number by number, so the search finds the number that the rule serves.
use Rattle.std.specs.Prelude.{Some, None, Option}
use mathlib.Core.Path.{◌≡◌, refl, sym, ap, ◌∙◌}
use mathlib.Core.Bool.{Bool, true, false}
use mathlib.Core.List.{List, [], ◌∷◌, map}
use Prim.Native.Nat.{ℕ, zero, suc, ◌+◌, ◌<◌}
use native.Mathlib.Numerals.{add-one}
use native.Mathlib.Nat.{le_of_suc-le-suc}
use native.Mathlib.Omega.{arith}
use lib.Dec.{eqb}
use lib.ListN.{length, get_or, set}
use Rattle.laws.specs.Pick.{pick}
use Rattle.state.specs.declared.Session.{Session}
use Rattle.state.specs.declared.Connection.{Connection}
use Rattle.state.specs.New.{blank}
use Rattle.protocol.specs.Ask.{ready_session}
use Rattle.protocol.specs.Connection.{at}
use Rattle.protocol.specs.Call.{next_ready}
use Rattle.call_search.specs.Flags.{is_set, nearest_found, nearest_set}
use Rattle.call_search.proofs.Steps.{found_same}
use Rattle.call_turn.specs.Ready.{flag_of}

one_flag : (b : Bool) → eqb (pick b 1 0) 1 ≡ b
unfolding pick
one_flag true = refl
one_flag false = refl

same_test : (l : List Session) (n : ℕ) → is_set (map flag_of l) n ≡ ready_session (get_or l n blank)
unfolding flag_of ready_session
same_test [] n = refl
same_test (x ∷ l) zero = one_flag (ready_session x)
same_test (x ∷ l) (suc n) = same_test l n

module _ (c : Connection) where
  -- what the search finds in the flags of a connection
  told : nearest_set (map flag_of c.sessions) c.last ≡ pick (ready_session (at c (next_ready c))) (Some (next_ready c)) None
  unfolding nearest_found
  told = found_same (is_set (map flag_of c.sessions)) (λ n. ready_session (at c n)) (same_test c.sessions) c.last

  go_at : (b : Bool) {n : ℕ} → Some n ≡ pick b (Some (next_ready c)) None → n ≡ next_ready c
  unfolding pick
  go_at true e = cc
  go_at false e = let z : ◌≡◌ {A = ℕ} 0 1 = cc in absurd (omega arith)

  go_none : (b : Bool) → None ≡ pick b (Some (next_ready c)) None → b ≡ false
  unfolding pick
  go_none true e = let z : ◌≡◌ {A = ℕ} 0 1 = cc in absurd (omega arith)
  go_none false e = refl

  pub found_next : {r : Option ℕ} {n : ℕ} → r ≡ nearest_set (map flag_of c.sessions) c.last → r ≡ Some n → n ≡ next_ready c
  found_next e q = go_at (ready_session (at c (next_ready c))) (sym q ∙ e ∙ told)

  pub found_none : {r : Option ℕ} → r ≡ nearest_set (map flag_of c.sessions) c.last → r ≡ None → ready_session (at c (next_ready c)) ≡ false
  found_none e q = go_none (ready_session (at c (next_ready c))) (sym q ∙ e ∙ told)

-- ---- the loop over the table

-- the first n elements are those of a list mapped, the rest as they were
module _ {A B : Type 0} (f : A → B) where
  pub fill_to : ℕ → List A → List B → List B
  fill_to zero l z = z
  fill_to (suc n) [] z = z
  fill_to (suc n) (x ∷ l) [] = []
  fill_to (suc n) (x ∷ l) (y ∷ z) = f x ∷ fill_to n l z

  step : (n : ℕ) (l : List A) (z : List B) (d : A) → n < length l → n < length z → set (fill_to n l z) n (f (get_or l n d)) ≡ fill_to (suc n) l z
  unfolding fill_to
  step zero [] z d h k = absurd (omega arith)
  step zero (x ∷ l) [] d h k = absurd (omega arith)
  step zero (x ∷ l) (y ∷ z) d h k = refl
  step (suc n) [] z d h k = absurd (omega arith)
  step (suc n) (x ∷ l) [] d h k = refl
  step (suc n) (x ∷ l) (y ∷ z) d h k = ap (λ (r : List B). f x ∷ r) (step n l z d (le_of_suc-le-suc h) (le_of_suc-le-suc k))

  pub fill_step : (n : ℕ) (l : List A) (z : List B) (d : A) → n < length l → n < length z → set (fill_to n l z) n (f (get_or l n d)) ≡ fill_to (n + 1) l z
  fill_step n l z d h k = rw add-one (step n l z d h k)

  pub fill_zero : (l : List A) (z : List B) → z ≡ fill_to 0 l z
  unfolding fill_to
  fill_zero l z = refl

  pub fill_end : (l : List A) (z : List B) → length l ≡ length z → fill_to (length l) l z ≡ map f l
  unfolding fill_to
  fill_end [] [] e = refl
  fill_end [] (y ∷ z) e = absurd (omega arith)
  fill_end (x ∷ l) [] e = absurd (omega arith)
  fill_end (x ∷ l) (y ∷ z) e = ap (λ (r : List B). f x ∷ r) (fill_end l z (omega arith))

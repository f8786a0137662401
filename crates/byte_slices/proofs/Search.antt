-- The place of a byte in a text, told by the library's position.
use Rattle.std.proofs.Common.{◌≡◌, ℕ, suc, ◌+◌, ◌≤◌, Bool, true, false, not, List, length, take, drop, ◌-◌, cond, refl, sym, ap, ◌∙◌, Some, None, Option, nat_lt, arith}
use Rattle.std.specs.Prelude.{eqb}
use Rattle.std.specs.List.{position, position_or_len}
use Rattle.std.proofs.lemmas.List.Recursion.{is_position_or_len}
use Rattle.std.proofs.lemmas.Bool.{ltb-false}
use Rattle.std.proofs.lemmas.List.{drop-take}
use Rattle.std.proofs.lemmas.List.Sums.{prefix_len-le-length}
use Rattle.byte_slices.specs.Bytes.{index_of, slice}

index_is : (b : ℕ) (s : List ℕ) → index_of b s ≡ position_or_len (λ x. eqb x b) s
index_is b s =
    is_position_or_len (index_of b) (λ x. eqb x b) refl
    (λ x xs. let e : suc (index_of b xs) ≡ 1 + index_of b xs = omega arith in ap (cond (eqb x b) 0) e) s

-- a byte that is found is at its index
pub found : (b i : ℕ) (s : List ℕ) → Some i ≡ position (λ x. eqb x b) s → index_of b s ≡ i
found b i s h = index_is b s ∙ go (nat_lt (position_or_len (λ x. eqb x b) s) (length s)) h
  where
    go : {n : ℕ} (t : Bool) → Some i ≡ cond t (Some n) None → n ≡ i
    go true e = cc
    go false e = cc

-- where none is found the index is the length
pub missed : (b : ℕ) (s : List ℕ) → None ≡ position (λ x. eqb x b) s → index_of b s ≡ length s
missed b s h =
    let p : ℕ → Bool = λ x. eqb x b in
    let l : position_or_len p s ≤ length s = prefix_len-le-length (λ x. not (p x)) s in
    index_is b s ∙ go (position_or_len p s) (length s) l (nat_lt (position_or_len p s) (length s)) refl h
  where
    go : (n l : ℕ) → n ≤ l → (t : Bool) → nat_lt n l ≡ t → None ≡ cond t (Some n) None → n ≡ l
    go n l k true q e = let z : ◌≡◌ {A = Option ℕ} None (Some n) = e in cc
    go n l k false q e = let m : l ≤ n = ltb-false n l q in omega arith

-- a part of a text is a number of its bytes from an index on
pub part_is : (from to : ℕ) (s : List ℕ) → from ≤ to → take (to - from) (drop from s) ≡ slice from to s
unfolding slice
part_is from to s h =
    let e : from + (to - from) ≡ to = omega arith in
    sym (drop-take from (to - from) s) ∙ ap (λ (n : ℕ). drop from (take n s)) e

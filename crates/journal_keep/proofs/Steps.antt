-- One number more of a keep: what the loop of the code rests on.
use mathlib.Core.Path.{◌≡◌, sym, ap, ◌∙◌}
use mathlib.Core.Bool.{false}
use mathlib.Core.List.{List}
use Prim.Native.Nat.{ℕ, suc, ◌+◌, ◌-◌, ◌<◌}
use native.Mathlib.Omega.{arith}
use native.Mathlib.Numerals.{add-one}
use lib.ListN.{get_or}
use Rattle.laws.specs.Result.{Result}
use Rattle.state.specs.declared.Session.{Session}
use Rattle.state.specs.New.{blank}
use Rattle.protocol.specs.Judge.{Report}
use Rattle.journal_history.specs.Due.{is_opening, due_for}
use Rattle.journal_history.specs.Keep.{Keeping, keep_due, keep_number, keep_numbers}

module _ (table : List Session) (answer : Result Report) (written : List ℕ) (n : ℕ) where
  pub one_more : n < 128 → (w v : Keeping) → v ≡ keep_due n (due_for (is_opening n answer written) (get_or w.starts n false) (get_or table n blank)) w
      → keep_numbers table answer written (128 - (n + 1)) (n + 1) v ≡ keep_numbers table answer written (128 - n) n w
  unfolding keep_numbers keep_number
  one_more h w v q =
      let e : 128 - n ≡ suc (128 - (n + 1)) = omega arith in
      ap (keep_numbers table answer written (128 - (n + 1)) (n + 1)) q
      ∙ ap (λ (i : ℕ). keep_numbers table answer written (128 - (n + 1)) i (keep_number table answer written n w)) (add-one n)
      ∙ sym (ap (λ (i : ℕ). keep_numbers table answer written i n w) e)

  pub none_left : (w : Keeping) → 128 ≡ n → keep_numbers table answer written (128 - n) n w ≡ w
  unfolding keep_numbers
  none_left w q = let e : 128 - n ≡ 0 = omega arith in ap (λ (i : ℕ). keep_numbers table answer written i n w) e

-- What a contract sees of a `BlockList`.
use Rattle.std.specs.Prelude.{List, refl}
use Rattle.std.specs.Coded.{Coded, code_by, coded×, coded_list}

-- the items, in order, and what lies in the unused room, of which no clause says anything
pub record BlockList (T : Type 0) : Type 0 where
  pub items : List T
  pub spare : List T

-- a list is stored as the pair of its fields
abbrev pub block_list_code : {T : Type 0} → Coded T → Coded (BlockList T)
block_list_code {T} code =
    code_by (List T × List T) (coded× (coded_list code) (coded_list code)) (λ l. (l.items, l.spare)) (λ p. record { items = p.0; spare = p.1 }) (λ _. refl)

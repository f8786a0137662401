-- A ration is finite, 0 to 2,147,483,647, or endless.
use Rattle.std.specs.Prelude.{ℕ, ◌+◌, ◌*◌, ◌-◌, Bool, true, false, eqb, leb, Option, Some, None}
use Rattle.laws.specs.Pick.{pick}
use Rattle.ration.specs.declared.Ration.{Ration}
use Rattle.ration.specs.declared.Ration.TheVariants.{Finite, Endless}

-- the largest value of a finite ration, 0x7FFFFFFF
abbrev pub largest : ℕ
largest = 2_147_483_647

-- the header number times 256, and endless for 0: initialRation and infinity in the published protocol, "ClientConnectionHeader Message"
unfoldable pub from_header : ℕ → Ration
from_header number = pick (eqb number 0) Endless (Finite (number * 256))

-- a finite ration is at most the largest
abbrev pub in_range : Ration → Bool
in_range (Finite left) = leb left largest
in_range Endless = true

-- a length is allowed if it is not above the ration
abbrev pub allows : Ration → ℕ → Bool
allows (Finite left) n = leb n left
allows Endless n = true

-- n more bytes; an endless ration stays endless
abbrev pub plus : Ration → ℕ → Ration
plus (Finite left) n = Finite (left + n)
plus Endless n = Endless

-- n fewer bytes, if they are allowed; an endless ration stays endless
abbrev pub minus : Ration → ℕ → Ration
minus (Finite left) n = Finite (left - n)
minus Endless n = Endless

-- what is left after n bytes, if they are allowed; else none, since there is not enough
unfoldable pub spend : Ration → ℕ → Option Ration
spend r n = pick (allows r n) (Some (minus r n)) None

-- the sum with n more bytes, if it is in range; else none, since the largest would be passed
unfoldable pub grow : Ration → ℕ → Option Ration
grow r n = pick (in_range (plus r n)) (Some (plus r n)) None

-- a grant is refused if the ration is endless, or the sum is above the largest
abbrev pub grantable : Ration → ℕ → Bool
grantable (Finite left) n = in_range (Finite (left + n))
grantable Endless n = false

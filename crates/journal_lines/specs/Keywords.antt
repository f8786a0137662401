-- The first words of the lines where there is a region, and what each names.
use Rattle.std.specs.Prelude.{ℕ, List, Option, Some, None, if◌then◌else◌}
use Rattle.laws.specs.Codes.{codes}
use Rattle.script_words.specs.Words.{same}
use Rattle.journal_lines.specs.declared.Keyword.{Keyword}
use Rattle.journal_lines.specs.declared.Keyword.TheVariants.{Store, Repair, Read, List as Listing, Damage, Block}

-- what a word names
abbrev pub keyword_of : List ℕ → Option Keyword
keyword_of w =
    if same w (codes "store") then Some Store
    else if same w (codes "repair") then Some Repair
    else if same w (codes "read") then Some Read
    else if same w (codes "list") then Some Listing
    else if same w (codes "damage") then Some Damage
    else if same w (codes "block") then Some Block else None

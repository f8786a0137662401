-- What a line asks.
use Rattle.std.specs.Prelude.{ℕ, List, ltb, Option, Some, None, Result, Ok, Err, if◌then◌else◌}
use Rattle.laws.specs.Codes.{codes}
use Rattle.script_words.specs.Words.{head_of, tail_of, has_more, is_skipped, same}
use Rattle.script_words.specs.Numbers.{decimal_of, id_from, at_most}
use Rattle.journal_lines.specs.declared.WrongLine.{WrongLine}
use Rattle.journal_lines.specs.declared.Change.{Change}
use Rattle.journal_lines.specs.declared.Change.TheVariants as change
use Rattle.journal_lines.specs.declared.Asked.{Asked}
use Rattle.journal_lines.specs.declared.Asked.TheVariants as asked
use Rattle.journal_lines.specs.declared.Keyword.{Keyword}
use Rattle.journal_lines.specs.declared.Keyword.TheVariants as keyword
use Rattle.journal_lines.specs.Keywords.{keyword_of}

-- what a line asks that is not skipped, or that it is wrong
abbrev pub or_wrong : {A : Type 0} → Option A → Result (Option A) WrongLine
or_wrong (Some a) = Ok (Some a)
or_wrong None = Err (record {})

-- ---- the first line

-- the most bytes of a region
abbrev pub largest_region : ℕ
largest_region = 70000

-- region LENGTH
abbrev pub region_line : List ℕ → Option ℕ
region_line s =
    if same (head_of s) (codes "region") then at_most largest_region (decimal_of (tail_of s)) else None

-- what a line asks before there is a region: one of a length, or nothing where it is skipped
abbrev pub first_line : List ℕ → Result (Option ℕ) WrongLine
first_line s = if is_skipped s then Ok None else or_wrong (region_line s)

-- ---- the number of byte stores

abbrev pub most_stores : ℕ
most_stores = 999

abbrev pub stores_from : Change → Option ℕ → Option Asked
stores_from c (Some n) = Some (asked.Change c (Some n))
stores_from c None = None

-- the number of byte stores follows the first word of a text, or all are made
abbrev pub with_stores : Change → List ℕ → Option Asked
with_stores c s =
    if has_more s then stores_from c (at_most most_stores (decimal_of (tail_of s))) else Some (asked.Change c None)

-- ---- the words behind a keyword: ID, KIND and BYTE are at most 255

abbrev pub kind_from : ℕ → List ℕ → Option ℕ → Option Asked
kind_from n s (Some k) = with_stores (change.Store n k) s
kind_from n s None = None

-- KIND [STORES]
abbrev pub store_line_of : ℕ → List ℕ → Option Asked
store_line_of n s = kind_from n s (id_from (decimal_of (head_of s)))

abbrev pub number_from : List ℕ → Option ℕ → Option Asked
number_from s (Some n) = store_line_of n (tail_of s)
number_from s None = None

-- ID KIND [STORES]
abbrev pub store_line : List ℕ → Option Asked
store_line s = number_from s (id_from (decimal_of (head_of s)))

-- nothing follows the first word of a text
abbrev pub only_word : Asked → List ℕ → Option Asked
only_word a s = if has_more s then None else Some a

abbrev pub byte_from : ℕ → Option ℕ → Option Asked
byte_from place (Some b) = Some (asked.Damage place b)
byte_from place None = None

-- BYTE
abbrev pub damage_line_at : ℕ → List ℕ → Option Asked
damage_line_at place s = byte_from place (id_from (decimal_of s))

abbrev pub place_from : ℕ → List ℕ → Option ℕ → Option Asked
place_from length s (Some p) = if ltb p length then damage_line_at p (tail_of s) else None
place_from length s None = None

-- PLACE BYTE, with the place below the region's length
abbrev pub damage_line : ℕ → List ℕ → Option Asked
damage_line length s = place_from length s (decimal_of (head_of s))

abbrev pub block_from : Option ℕ → Option Asked
block_from (Some n) = Some (asked.Block n)
block_from None = None

-- N
abbrev pub block_line : List ℕ → Option Asked
block_line s = block_from (decimal_of s)

-- ---- a line

-- a line by its keyword, with what follows the keyword
abbrev pub line_as : ℕ → Option Keyword → List ℕ → List ℕ → Option Asked
line_as length (Some keyword.Store) s rest = store_line rest
line_as length (Some keyword.Repair) s rest = with_stores change.Repair s
line_as length (Some keyword.Read) s rest = only_word asked.Read s
line_as length (Some keyword.List) s rest = only_word asked.List s
line_as length (Some keyword.Damage) s rest = damage_line length rest
line_as length (Some keyword.Block) s rest = block_line rest
line_as length None s rest = None

abbrev pub asked_line : ℕ → List ℕ → Option Asked
asked_line length s = line_as length (keyword_of (head_of s)) s (tail_of s)

-- what a line asks where there is a region of a length, or nothing where it is skipped
abbrev pub later_line : ℕ → List ℕ → Result (Option Asked) WrongLine
later_line length s = if is_skipped s then Ok None else or_wrong (asked_line length s)

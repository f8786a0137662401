-- The pieces of a text, and a line of text in fixed memory.
use Rattle.std.specs.Prelude.{◌≡◌, ℕ, ◌≤◌, Bool, List, [], ◌++◌, take, codes}
use Prim.Native.String.{String}
use Rattle.std.specs.Fmt.{decimal}
use Rattle.laws.specs.Pick.{pick}
use Rattle.text_line.specs.declared.line.Line.{Line}

-- an item's name, and its value in decimal
abbrev pub item_text : String → ℕ → List ℕ
item_text name value = codes name ++ decimal value

-- a flag's name, if it is set
abbrev pub flag_text : String → Bool → List ℕ
flag_text name set = pick set (codes name) []

-- the bytes behind a line's end are not text, and the program may choose them; a length above 128 means a full line
abbrev pub line_text : Line → List ℕ
line_text l = take l.length l.bytes

-- a line with text behind its end: past 128 bytes it is cut off
unfoldable pub added : List ℕ → List ℕ → List ℕ
added line text = take 128 (line ++ text)

-- the line has this text, and its length stays within its 128 bytes
pub record LineIs (line : Line) (text : List ℕ) : Type 0 where
  pub reads : line_text line ≡ text
  pub fits : line.length ≤ 128

-- The first words of the lines after a script's first line, and what each names.
use Rattle.std.specs.Prelude.{ℕ, List, [], ◌∷◌, Option, find}
use Rattle.laws.specs.Codes.{codes}
use Rattle.script_words.specs.Words.{same}
use Rattle.script_lines.specs.declared.Name.{Name}
use Rattle.script_lines.specs.declared.Name.TheVariants.{Start, Open, Put, Finish, Turn, Grant, Abort, Close, Ping, Shutdown, Lost, Receive, State, Queue}

-- in the order of the script format
abbrev pub names : List Name
names = Start ∷ Open ∷ Put ∷ Finish ∷ Turn ∷ Grant ∷ Abort ∷ Close ∷ Ping ∷ Shutdown ∷ Lost ∷ Receive ∷ State ∷ Queue ∷ []

abbrev pub word_of : Name → List ℕ
word_of Start = codes "start"
word_of Open = codes "open"
word_of Put = codes "put"
word_of Finish = codes "finish"
word_of Turn = codes "turn"
word_of Grant = codes "grant"
word_of Abort = codes "abort"
word_of Close = codes "close"
word_of Ping = codes "ping"
word_of Shutdown = codes "shutdown"
word_of Lost = codes "lost"
word_of Receive = codes "receive"
word_of State = codes "state"
word_of Queue = codes "queue"

-- what a word names
unfoldable pub name_of : List ℕ → Option Name
name_of w = find (λ name. same w (word_of name)) names

-- A call on words: the rule of the call on the connection of the words, and the words of what it leaves.
use Rattle.std.specs.Prelude.{ℕ, List}
use Rattle.laws.specs.Pick.{pick}
use Rattle.laws.specs.Result.{Result}
use Rattle.state.specs.declared.Called.{Called}
use Rattle.state.specs.declared.Connection.{Connection}
use Rattle.protocol.specs.Connection.{well_formed}
use Rattle.protocol.specs.Judge.{Report}
use Rattle.protocol.specs.Result.{Given, answer_as}
use Rattle.words.specs.State.{words_of, connection_of}

-- what a call gives beside the state and the buffers
pub record Told : Type 0 where
  pub answer : Result Report
  pub used : ℕ
  pub wrote : ℕ
  pub start : ℕ
  pub end : ℕ

abbrev pub told_as : Called → Told
told_as r = record { answer = answer_as r.answer; used = r.used; wrote = r.wrote; start = r.start; end = r.end }

abbrev pub told_of : Given → Told
told_of g = record { answer = g.answer; used = g.used; wrote = g.wrote; start = g.start; end = g.end }

-- the words after a call that leaves this connection; words whose connection is not well formed stay as they are
unfoldable pub words_after : List ℕ → Connection → List ℕ
words_after w c = pick (well_formed (connection_of w)) (words_of c) w

abbrev pub on_words : List ℕ → Given → Told × List ℕ
on_words w g = (told_of g, words_after w g.connection)

-- the same with the buffer that the call is lent, or both
abbrev pub on_words_with : {B : Type 0} → List ℕ → Given × B → Told × List ℕ × B
on_words_with w g = (told_of g.0, words_after w g.0.connection, g.1)

abbrev pub on_words_both : List ℕ → Given × List ℕ × List ℕ → Told × List ℕ × List ℕ × List ℕ
on_words_both w g = (told_of g.0, words_after w g.0.connection, g.1, g.2)

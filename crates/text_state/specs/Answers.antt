-- The words of an answer.
use Rattle.std.specs.Prelude.{ℕ, Bool, List, ◌++◌, Result, Ok, Err, codes}
use Rattle.refusal.specs.declared.Failure.{Failure}
use Rattle.wire.specs.declared.Message.{Message}
use Rattle.state.specs.declared.Answer.{Answer}
use Rattle.state.specs.declared.Answer.TheVariants as answer
use Rattle.text_line.specs.Line.{item_text, flag_text}
use Rattle.text_message.specs.Message.{message_text, failure_text}

-- a message that was taken, and how many bytes of the input it used
abbrev pub taken_text : Message → Bool → ℕ → List ℕ
taken_text m late used = codes " ok " ++ message_text m ++ flag_text " late" late ++ item_text " used " used

abbrev pub answer_text : Result Answer Failure → ℕ → List ℕ
answer_text (Ok answer.Done) used = codes " ok"
answer_text (Ok (answer.Served n)) used = item_text " ok id " n
answer_text (Ok (answer.Header far)) used = item_text " ok header " far ++ item_text " used " used
answer_text (Ok (answer.Message m late)) used = taken_text m late used
answer_text (Err failure) used = failure_text failure

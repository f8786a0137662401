-- What is claimed of every list of calls on words: its log is that of the rules, and its words are those of the rules' state.
use Rattle.std.specs.Prelude.{ℕ, ◌<◌, ◌≡◌, false, List, ◌↔◌, length}
use Rattle.laws.specs.Result.{refused}
use Rattle.state.specs.declared.Setup.{Setup}
use Rattle.protocol.specs.Connection.{well_formed}
use Rattle.history.specs.Log.{Call, room_of, Proper, run, log}
use Rattle.words.specs.State.{word_count, words_of, connection_of}
use Rattle.words_history.specs.Machine.{WordState, called_on, run_on, log_on, AllHoldable}

-- so every claim over logs and states is about the calls on words
pub record RunsAlike (setup : Setup) (queue : List ℕ) (ks : List Call) : Type 0 where
  pub same_log : log_on setup queue ks ≡ log setup queue ks
  pub same_queue : (run_on setup queue ks).queue ≡ (run setup queue ks).queue
  pub words : (run_on setup queue ks).words ≡ words_of (run setup queue ks).connection
  pub connection : connection_of (run_on setup queue ks).words ≡ (run setup queue ks).connection

-- of any words, made by calls or not: a call is refused with 14 exactly if their connection is not well formed; and a refusal below 20, which
-- every refusal but a violation is, leaves each word, and each byte of the queue and the room
pub record AnyWords (s : WordState) (k : Call) : Type 0 where
  pub exactly_14 : ((called_on s k).0.answer ≡ refused 14) ↔ (well_formed (connection_of s.words) ≡ false)
  pub leaves : (n : ℕ) → (called_on s k).0.answer ≡ refused n
      → (n < 20) × ((called_on s k).1 ≡ s.words) × ((called_on s k).2 ≡ s.queue) × ((called_on s k).3 ≡ room_of k)

pub record WordClaims : Type 0 where
  pub runs_alike : (setup : Setup) → Proper setup → (queue : List ℕ) (ks : List Call) → AllHoldable ks → RunsAlike setup queue ks
  pub any_words : (s : WordState) → length s.words ≡ word_count → (k : Call) → AnyWords s k

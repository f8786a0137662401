-- A program that makes calls of the engine and stores what is due after each of them, while power is cut and comes back at any time.
use Rattle.std.specs.Prelude.{ℕ, Bool, true, false, List, [], ◌∷◌, ◌++◌, replicate}
use Rattle.laws.specs.Pick.{pick}
use Rattle.state.specs.declared.Setup.{Setup}
use Rattle.history.specs.Log.{Call, State, Entry, next, out, made, Proper}
use Rattle.journal_rules.specs.Calls.{repair_call}
use Rattle.journal_history.specs.Keep.{KeepEnding, all_stored, cut_off, refused_with, Keeping, keep_all, seen_of}

-- its connection, the log of that connection, the starts that it knows of, the region, how the last keep ended, and the calls whose
-- bytes it has sent on this connection and those before
pub record Program : Type 0 where
  pub setup : Setup
  pub state : State
  pub log : List Entry
  pub starts : List Bool
  pub region : List ℕ
  pub ending : KeepEnding
  pub sent : List Entry

-- a call of the engine and then a keep, of which this many byte stores are made; a repair, of which this many are made; or power comes
-- back, to a new connection with any queue
pub data ProgramStep : Type 0 where
  calls : Call → ℕ → ProgramStep
  repairs : ℕ → ProgramStep
  connects : Setup → List ℕ → ProgramStep

-- a program that connects has no start in its connection
abbrev pub connected : Setup → List ℕ → List ℕ → List Entry → Program
connected setup queue region sent =
    record {
      setup = setup;
      state = made setup queue;
      log = [];
      starts = replicate 128 false;
      region = region;
      ending = all_stored;
      sent = sent;
    }

-- the keep after a call
abbrev pub kept_after : Program → Call → ℕ → Keeping
kept_after p k left =
    let e = out p.state k in
    keep_all (next p.state k).connection e.answer e.wrote p.region p.starts p.ending left

abbrev pub is_all_stored : KeepEnding → Bool
is_all_stored all_stored = true
is_all_stored cut_off = false
is_all_stored (refused_with k) = false

-- what a call wrote is sent after its keep, and only if all that was due is stored
unfoldable pub after_step : Program → ProgramStep → Program
after_step p (calls k left) =
    let seen = seen_of (kept_after p k left) in
    record {
      setup = p.setup;
      state = next p.state k;
      log = p.log ++ (out p.state k ∷ []);
      starts = seen.1;
      region = seen.2;
      ending = seen.0;
      sent = p.sent ++ pick (is_all_stored seen.0) (out p.state k ∷ []) [];
    }
after_step p (repairs left) =
    record {
      setup = p.setup;
      state = p.state;
      log = p.log;
      starts = p.starts;
      region = (repair_call p.region left).1;
      ending = p.ending;
      sent = p.sent;
    }
after_step p (connects setup queue) = connected setup queue p.region p.sent

-- the header numbers of all connections have 16 bits
abbrev pub EachProper : List ProgramStep → Type 0
EachProper [] = Unit {0}
EachProper (calls k left ∷ ms) = EachProper ms
EachProper (repairs left ∷ ms) = EachProper ms
EachProper (connects setup queue ∷ ms) = Proper setup × EachProper ms

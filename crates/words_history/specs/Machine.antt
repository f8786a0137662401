-- The calls of one end on words, what each leaves, and the entry that it adds to the log: the definitions that the contracts of the calls cite.
use Rattle.std.specs.Prelude.{ℕ, ◌<◌, List, [], ◌∷◌, take}
use Rattle.laws.specs.Runs
use Rattle.state.specs.declared.Setup.{Setup}
use Rattle.state.specs.New.{fresh}
use Rattle.protocol.specs.Result.{start_call, open_call, put_call, finish_call, turn_call, grant_call, abort_call, close_call, ping_call, shutdown_call, lost_call, receive_call}
use Rattle.history.specs.Log.{Call, start, open_session, put, finish, turn, grant, abort, close, shutdown, lost, receive, Entry}
use Rattle.history.specs.Log as log
use Rattle.words.specs.State.{words_of, connection_of}
use Rattle.words.specs.Calls.{Told, on_words, on_words_with, on_words_both}

-- what a caller holds between calls
pub record WordState : Type 0 where
  pub words : List ℕ
  pub queue : List ℕ

-- what a call tells, and the words, the queue and the room after it
abbrev pub called_on : WordState → Call → Told × List ℕ × List ℕ × List ℕ
called_on s (start room) = let g = on_words_with s.words (start_call (connection_of s.words) room) in (g.0, g.1, s.queue, g.2)
called_on s (open_session n) = let g = on_words s.words (open_call (connection_of s.words) n) in (g.0, g.1, s.queue, [])
called_on s (put n bytes) = let g = on_words_with s.words (put_call (connection_of s.words) n bytes s.queue) in (g.0, g.1, g.2, [])
called_on s (finish n) = let g = on_words s.words (finish_call (connection_of s.words) n) in (g.0, g.1, s.queue, [])
called_on s (turn room) = on_words_both s.words (turn_call (connection_of s.words) s.queue room)
called_on s (grant n amount room) =
    let g = on_words_with s.words (grant_call (connection_of s.words) n amount room) in (g.0, g.1, s.queue, g.2)
called_on s (abort n partial room) =
    let g = on_words_with s.words (abort_call (connection_of s.words) n partial room) in (g.0, g.1, s.queue, g.2)
called_on s (close n room) = let g = on_words_with s.words (close_call (connection_of s.words) n room) in (g.0, g.1, s.queue, g.2)
called_on s (log.ping cookie room) =
    let g = on_words_with s.words (ping_call (connection_of s.words) cookie room) in (g.0, g.1, s.queue, g.2)
called_on s (shutdown room) = let g = on_words_with s.words (shutdown_call (connection_of s.words) room) in (g.0, g.1, s.queue, g.2)
called_on s lost = let g = on_words s.words (lost_call (connection_of s.words)) in (g.0, g.1, s.queue, [])
called_on s (receive input room) =
    let g = on_words_with s.words (receive_call (connection_of s.words) input room) in (g.0, g.1, s.queue, g.2)

-- each call gets what the last one left
unfoldable pub next_on : WordState → Call → WordState
next_on s k = let g = called_on s k in record { words = g.1; queue = g.2 }

unfoldable pub out_on : WordState → Call → Entry
out_on s k =
    let g = called_on s k in
    record {
      call = k;
      answer = g.0.answer;
      used = g.0.used;
      start = g.0.start;
      end = g.0.end;
      wrote = take g.0.wrote g.3;
    }

-- words just made, with a queue of any bytes and any length
abbrev pub made_on : Setup → List ℕ → WordState
made_on setup queue = record { words = words_of (fresh setup); queue = queue }

abbrev pub run_on : Setup → List ℕ → List Call → WordState
run_on setup queue calls = Runs.run next_on out_on (made_on setup queue) calls

abbrev pub log_on : Setup → List ℕ → List Call → List Entry
log_on setup queue calls = Runs.log_of next_on out_on (made_on setup queue) calls

-- what the code can hold: a cookie of 16 bits
abbrev pub Holdable : Call → Type 0
Holdable (start room) = Unit {0}
Holdable (open_session n) = Unit {0}
Holdable (put n bytes) = Unit {0}
Holdable (finish n) = Unit {0}
Holdable (turn room) = Unit {0}
Holdable (grant n amount room) = Unit {0}
Holdable (abort n partial room) = Unit {0}
Holdable (close n room) = Unit {0}
Holdable (log.ping cookie room) = cookie < 65_536
Holdable (shutdown room) = Unit {0}
Holdable lost = Unit {0}
Holdable (receive input room) = Unit {0}

abbrev pub AllHoldable : List Call → Type 0
AllHoldable [] = Unit {0}
AllHoldable (k ∷ ks) = Holdable k × AllHoldable ks

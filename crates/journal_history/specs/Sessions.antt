-- What the logs of a program's connections tell of the sessions of a number whose starts are in the journal.
use Rattle.std.specs.Prelude.{ℕ, zero, suc, Bool, true, false, ◌||◌, List, [], ◌∷◌, ◌++◌, map, eqb, length, drop}
use Rattle.laws.specs.Pick.{pick}
use Rattle.protocol.specs.Message.{SessionMessage, data_of, increment_of, abort_of, close_of, acknowledgment_of}
use Rattle.protocol.specs.Observed.{Event, opens, finishes, aborts, puts, received, wrote}
use Rattle.protocol.specs.Fate.{Fate, no_fate, running, complete, may_be_retried, must_not_be_retried}
use Rattle.history.specs.Log.{Entry, out}
use Rattle.history.specs.Account.{told_by}
use Rattle.history.specs.Fates.{fate_told}
use Rattle.journal_rules.specs.Block as block
use Rattle.journal_rules.specs.Region.{entries_of}
use Rattle.journal_history.specs.Due.{fate_kind}
use Rattle.journal_history.specs.Use.{Program, ProgramStep, calls, repairs, connects, after_step}

-- ---- a number's own part of the journal

-- the kinds of its entries, in order
unfoldable pub kinds_for : ℕ → List block.JournalEntry → List ℕ
kinds_for m [] = []
kinds_for m (e ∷ es) = pick (eqb e.number m) (e.kind ∷ kinds_for m es) (kinds_for m es)

-- ---- when a number's session is a new one

abbrev pub begins_with : SessionMessage → Bool
begins_with (data_of n begin close eof ack) = begin
begins_with (increment_of n) = false
begins_with (abort_of partial) = false
begins_with close_of = false
begins_with acknowledgment_of = false

abbrev pub begins_new : Event → Bool
begins_new opens = true
begins_new finishes = false
begins_new aborts = false
begins_new (puts bytes) = false
begins_new (received m) = begins_with m
begins_new (wrote m) = false

abbrev pub any_begins : List Event → Bool
any_begins [] = false
any_begins (v ∷ vs) = begins_new v || any_begins vs

-- the entry takes an open of the number, or an open Data message for it
abbrev pub begins_session : ℕ → Entry → Bool
begins_session m e = any_begins (told_by m e.call e.answer)

-- ---- sessions whose starts are stored

-- a session whose start is stored: its fate so far, as the log of its connection tells it, and whether its fate is stored too
pub record JournaledSession : Type 0 where
  pub fate : Fate
  pub answered : Bool

abbrev pub journaled_session : Fate → Bool → JournaledSession
journaled_session f b = record { fate = f; answered = b }

abbrev pub is_known : Fate → Bool
is_known no_fate = false
is_known running = false
is_known complete = true
is_known may_be_retried = true
is_known must_not_be_retried = true

-- what the journal holds of a session: its start, and its fate if that is stored
abbrev pub journal_kinds : JournaledSession → List ℕ
journal_kinds t = 0 ∷ pick t.answered (fate_kind t.fate) []

-- the sessions of a number whose starts are stored: those whose fates no log tells further, and the one that the number names now, if it
-- is one of them
pub record SessionList : Type 0 where
  pub past : List JournaledSession
  pub current : List JournaledSession

abbrev pub no_sessions : SessionList
no_sessions = record { past = []; current = [] }

abbrev pub all_sessions : SessionList → List JournaledSession
all_sessions b = b.past ++ b.current

-- the number is used anew, or its connection is gone
abbrev pub all_past : SessionList → SessionList
all_past b = record { past = all_sessions b; current = [] }

-- the log tells this fate now
abbrev pub with_fate : Fate → SessionList → SessionList
with_fate f b = record { past = b.past; current = map (λ (t : JournaledSession). journaled_session f t.answered) b.current }

-- what the journal got for the number: nothing, a start, or a fate
abbrev pub with_kinds : Fate → List ℕ → SessionList → SessionList
with_kinds f [] b = b
with_kinds f (zero ∷ ks) b = record { past = all_sessions b; current = journaled_session f false ∷ [] }
with_kinds f (suc k ∷ ks) b = record { past = b.past; current = map (λ (t : JournaledSession). journaled_session t.fate true) b.current }

-- the kinds that a step adds for the number
abbrev pub added_kinds : ℕ → List ℕ → List ℕ → List ℕ
added_kinds m before after = drop (length (kinds_for m (entries_of before))) (kinds_for m (entries_of after))

-- first what the log tells, then what is stored
unfoldable pub sessions_after : ℕ → Program → SessionList → ProgramStep → SessionList
sessions_after m p b (calls k left) =
    let q = after_step p (calls k left) in
    let f = fate_told p.setup m q.log in
    with_kinds f (added_kinds m p.region q.region) (pick (begins_session m (out p.state k)) (all_past b) (with_fate f b))
sessions_after m p b (repairs left) = b
sessions_after m p b (connects setup queue) = all_past b

-- ---- a program, and the sessions of a number that its journal tells of

pub record Tracked : Type 0 where
  pub program : Program
  pub sessions : SessionList

abbrev pub track : ℕ → Tracked → ProgramStep → Tracked
track m w v = record { program = after_step w.program v; sessions = sessions_after m w.program w.sessions v }

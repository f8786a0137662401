-- What is claimed of every program that stores what is due: for any region of 1 to 128 blocks, zero at first, any list of calls, repairs
-- and new connections, refused ones included, and any number of byte stores made of each.
use Rattle.std.specs.Prelude.{ℕ, suc, ◌-◌, ◌*◌, ◌≤◌, ◌<◌, ◌≡◌, ◌↔◌, Bool, true, false, List, [], ◌∷◌, ◌++◌, length, get_or, take, replicate}
use Rattle.laws.specs.Pick.{pick}
use Rattle.laws.specs.Result.{ok}
use Rattle.laws.specs.Runs.{fold, gather, times}
use Rattle.wire.specs.declared.Message.TheVariants as msg
use Rattle.wire.specs.Message as wire
use Rattle.state.specs.declared.Setup.{Setup}
use Rattle.protocol.specs.Judge.{served}
use Rattle.protocol.specs.Fate.{no_fate, complete, may_be_retried}
use Rattle.history.specs.Log.{Call, Entry, out, Proper}
use Rattle.history.specs.Fates.{fate_told}
use Rattle.journal_rules.specs.Block as block
use Rattle.journal_rules.specs.Region.{block_at, good, entries_of}
use Rattle.journal_rules.specs.Power.{CutCall, blank_region, region_after}
use Rattle.journal_rules.specs.Listing.{not_to_retry}
use Rattle.journal_rules.specs.Claims.{entry_at, ◌∈◌}
use Rattle.journal_history.specs.Due.{is_opening, fate_kind}
use Rattle.journal_history.specs.Keep.{all_stored, cut_off, refused_with}
use Rattle.journal_history.specs.Use.{Program, ProgramStep, calls, repairs, connects, EachProper, connected, after_step}
use Rattle.journal_history.specs.Sessions.{kinds_for, begins_session, JournaledSession, journaled_session, is_known, journal_kinds, no_sessions, all_sessions, Tracked, track}

-- a program that begins with n blocks of zeros, and the sessions of the number m, after these steps
abbrev pub tracked : ℕ → ℕ → Setup → List ℕ → List ProgramStep → Tracked
tracked n m setup queue steps = fold (track m) (record { program = connected setup queue (blank_region n) []; sessions = no_sessions }) steps

-- what reading the program's region gives
abbrev pub journal_of : Program → List block.JournalEntry
journal_of p = entries_of p.region

-- ---- what the journal holds of a number

-- the session of the start at a place: the first start of the number is that of its first session, and so on
abbrev pub started_at : ℕ → Tracked → ℕ → JournaledSession
started_at m w k = get_or (all_sessions w.sessions) (times 0 (kinds_for m (take k (journal_of w.program)))) (journaled_session no_fate false)

-- how many openings of the number are among these calls
unfoldable pub openings : ℕ → List Entry → ℕ
openings m [] = 0
openings m (e ∷ es) = pick (is_opening m e.answer e.wrote) (suc (openings m es)) (openings m es)

pub record Journaled (n m : ℕ) (w : Tracked) : Type 0 where
  -- the sessions whose starts are stored, in order: of each its start, and its fate at most once, only if it is known
  pub kinds : kinds_for m (journal_of w.program) ≡ gather journal_kinds (all_sessions w.sessions)
  -- no more openings are sent than starts are stored
  pub sent : openings m w.program.sent ≤ times 0 (kinds_for m (journal_of w.program))
  -- a start whose session's fate is not complete or may be retried, so 3 or unknown, is listed
  pub listed : (k : ℕ) → k < length (journal_of w.program) → entry_at (journal_of w.program) k ≡ block.journal_entry m 0
      → ((started_at m w k).fate ≡ complete → ⊥) → ((started_at m w k).fate ≡ may_be_retried → ⊥)
      → suc k ∈ not_to_retry 0 (journal_of w.program)
  -- a start whose session's fate is stored as 1 or 2 is not
  pub resolved : (k kind : ℕ) → k < length (journal_of w.program) → entry_at (journal_of w.program) k ≡ block.journal_entry m 0
      → (started_at m w k).answered ≡ true → fate_kind (started_at m w k).fate ≡ kind ∷ [] → kind ≤ 2
      → suc k ∈ not_to_retry 0 (journal_of w.program) → ⊥
  -- the region is what stores and repairs left of zeros
  pub by_stores : (acts : List CutCall) × (w.program.region ≡ region_after n acts)

-- ---- what a call and its keep store

-- a turn that serves the number and writes a Data message with the open flag for it
pub record Opening (m : ℕ) (e : Entry) : Type 0 where
  pub close : Bool
  pub eof : Bool
  pub ack : Bool
  pub size : ℕ
  pub body : List ℕ
  pub serves : e.answer ≡ ok (served m)
  pub message : e.wrote ≡ wire.header (msg.Data true close eof ack m size) ++ body

abbrev pub opens_now : ℕ → Tracked → Call → Bool
opens_now m w k = let e = out w.program.state k in is_opening m e.answer e.wrote

abbrev pub AllStored : Tracked → Call → ℕ → Type 0
AllStored w k left = (after_step w.program (calls k left)).ending ≡ all_stored

pub record CallStores (m : ℕ) (w : Tracked) (k : Call) (left : ℕ) : Type 0 where
  pub opening : (opens_now m w k ≡ true) ↔ Opening m (out w.program.state k)
  -- where all that is due is stored, the start of an opening is; and no other call adds a start
  pub start : opens_now m w k ≡ true → AllStored w k left
      → kinds_for m (journal_of (after_step w.program (calls k left))) ≡ kinds_for m (journal_of w.program) ++ (0 ∷ [])
  pub only : opens_now m w k ≡ false
      → times 0 (kinds_for m (journal_of (after_step w.program (calls k left)))) ≡ times 0 (kinds_for m (journal_of w.program))
  -- where all that is due is stored, the fate of a session whose start was stored before is stored as soon as it is known
  pub fate : (t : JournaledSession) → w.sessions.current ≡ t ∷ [] → begins_session m (out w.program.state k) ≡ false → AllStored w k left
      → let f = fate_told w.program.setup m (after_step w.program (calls k left)).log in
      (track m w (calls k left)).sessions.current ≡ journaled_session f (is_known f) ∷ []

-- ---- what stops a keep

-- the call k is made and this many byte stores of its keep
pub record CallEnds (n : ℕ) (w : Tracked) (k : Call) (left : ℕ) : Type 0 where
  -- a keep is refused only with 16, and then no block is bad
  pub refused : (j : ℕ) → w.program.ending ≡ all_stored → (after_step w.program (calls k left)).ending ≡ refused_with j
      → (j ≡ 16) × ((i : ℕ) → i < n → good i (block_at (after_step w.program (calls k left)).region i) ≡ true)
  -- a keep is cut only if fewer byte stores are made than the entries that it added and one more have
  pub cut : w.program.ending ≡ all_stored → (after_step w.program (calls k left)).ending ≡ cut_off
      → left < 512 * suc (length (journal_of (after_step w.program (calls k left))) - length (journal_of w.program))
  -- a keep that is not cut makes 512 byte stores for each entry that it adds
  pub spent : w.program.ending ≡ all_stored → (after_step w.program (calls k left)).ending ≡ all_stored
      → 512 * (length (journal_of (after_step w.program (calls k left))) - length (journal_of w.program)) ≤ left
  -- 65,536 byte stores are enough for any keep
  pub enough : 65_536 ≤ left → w.program.ending ≡ all_stored → (after_step w.program (calls k left)).ending ≡ cut_off → ⊥
  -- what stopped a keep stops all later ones on the connection, and nothing more is stored
  pub stays : (w.program.ending ≡ all_stored → ⊥)
      → ((after_step w.program (calls k left)).ending ≡ w.program.ending) × (journal_of (after_step w.program (calls k left)) ≡ journal_of w.program)

-- ---- what the other steps leave

pub record OtherSteps (w : Tracked) : Type 0 where
  -- a repair does not let a program go on that is stopped, and sends nothing
  pub repair_ending : (left : ℕ) → (after_step w.program (repairs left)).ending ≡ w.program.ending
  pub repair_sent : (left : ℕ) → (after_step w.program (repairs left)).sent ≡ w.program.sent
  pub repair_journal : (left : ℕ) → journal_of (after_step w.program (repairs left)) ≡ journal_of w.program
  -- a new connection begins with nothing stopped and no start of its own; the journal and what was sent stay
  pub connect_ending : (setup : Setup) (queue : List ℕ) → (after_step w.program (connects setup queue)).ending ≡ all_stored
  pub connect_starts : (setup : Setup) (queue : List ℕ) → (after_step w.program (connects setup queue)).starts ≡ replicate 128 false
  pub connect_sent : (setup : Setup) (queue : List ℕ) → (after_step w.program (connects setup queue)).sent ≡ w.program.sent
  pub connect_journal : (setup : Setup) (queue : List ℕ) → (after_step w.program (connects setup queue)).region ≡ w.program.region

-- ---- of every program

pub record Claimed (n m : ℕ) (setup : Setup) (queue : List ℕ) (steps : List ProgramStep) : Type 0 where
  pub journaled : Journaled n m (tracked n m setup queue steps)
  pub stores : (k : Call) (left : ℕ) → CallStores m (tracked n m setup queue steps) k left
  pub ends : (k : Call) (left : ℕ) → CallEnds n (tracked n m setup queue steps) k left
  pub others : OtherSteps (tracked n m setup queue steps)

abbrev pub JournalKept : Type 0
JournalKept =
    (n m : ℕ) → 1 ≤ n → n ≤ 128 → m < 128 → (setup : Setup) (queue : List ℕ) (steps : List ProgramStep) → Proper setup → EachProper steps
    → Claimed n m setup queue steps

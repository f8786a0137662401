-- The claims applied, each part once, to a program with every kind of step, so that none can be said more weakly unnoticed.
use mathlib.Core.Path.{◌≡◌, refl}
use mathlib.Core.Bool.{true, false}
use mathlib.Core.List.{List, [], ◌∷◌, ◌++◌}
use Prim.Native.Nat.{ℕ, suc, ◌-◌, ◌*◌, ◌≤◌, ◌<◌}
use native.Mathlib.Omega.{arith}
use lib.ListN.{length, replicate}
use Rattle.laws.specs.Runs.{gather, times}
use Rattle.wire.specs.declared.Role.TheVariants as role
use Rattle.state.specs.declared.Setup.{Setup}
use Rattle.protocol.specs.Fate.{no_fate, running, complete, may_be_retried, must_not_be_retried}
use Rattle.history.specs.Log.{Call, turn, lost, out}
use Rattle.history.specs.Fates.{fate_told}
use Rattle.journal_rules.specs.Block as block
use Rattle.journal_rules.specs.Region.{block_at, good}
use Rattle.journal_rules.specs.Listing.{not_to_retry}
use Rattle.journal_rules.specs.Power.{CutCall, region_after}
use Rattle.journal_rules.specs.Claims.{entry_at, ◌∈◌}
use Rattle.journal_history.specs.Due.{fate_kind}
use Rattle.journal_history.specs.Keep.{all_stored, cut_off, refused_with}
use Rattle.journal_history.specs.Use.{ProgramStep, calls, repairs, connects, after_step}
use Rattle.journal_history.specs.Sessions.{kinds_for, begins_session, JournaledSession, journaled_session, is_known, journal_kinds, all_sessions, Tracked, track}
use Rattle.journal_history.specs.Claims.{tracked, journal_of, openings, started_at, Opening, opens_now, Claimed}
use Rattle.journal_history.proofs.Kept.{journal_kept}

-- the kinds of the fates
row_kinds : (fate_kind no_fate ≡ []) × (fate_kind running ≡ []) × (fate_kind complete ≡ 1 ∷ []) × (fate_kind may_be_retried ≡ 2 ∷ []) × (fate_kind must_not_be_retried ≡ 3 ∷ [])
row_kinds = (refl, refl, refl, refl, refl)

row_known : (is_known no_fate ≡ false) × (is_known running ≡ false) × (is_known complete ≡ true) × (is_known may_be_retried ≡ true) × (is_known must_not_be_retried ≡ true)
row_known = (refl, refl, refl, refl, refl)

-- ---- a program with each kind of step, for the last number and the largest region

abbrev client : Setup
client = record { role = role.Client; header = 65_535 }

abbrev steps : List ProgramStep
steps = calls lost 9 ∷ repairs 9 ∷ connects client [] ∷ calls (turn (replicate 516 0)) 65_536 ∷ []

abbrev w : Tracked
w = tracked 128 127 client [] steps

claimed : Claimed 128 127 client [] steps
claimed = journal_kept 128 127 (omega arith) (omega arith) (omega arith) client [] steps (omega arith) (omega arith, tt)

use_kinds : kinds_for 127 (journal_of w.program) ≡ gather journal_kinds (all_sessions w.sessions)
use_kinds = claimed.journaled.kinds

use_sent : openings 127 w.program.sent ≤ times 0 (kinds_for 127 (journal_of w.program))
use_sent = claimed.journaled.sent

-- a start whose fate is not told any more, or is a 3, is listed
use_unknown : (k : ℕ) → k < length (journal_of w.program) → entry_at (journal_of w.program) k ≡ block.journal_entry 127 0
    → (started_at 127 w k).fate ≡ running → suc k ∈ not_to_retry 0 (journal_of w.program)
use_unknown k h q f = claimed.journaled.listed k h q (λ z. let e : running ≡ complete = cc in told e) (λ z. let e : running ≡ may_be_retried = cc in told_2 e)
  where
    told : running ≡ complete → ⊥
    told e = absurd (let z : ◌≡◌ {A = ℕ} 0 1 = cc in omega arith)

    told_2 : running ≡ may_be_retried → ⊥
    told_2 e = absurd (let z : ◌≡◌ {A = ℕ} 0 1 = cc in omega arith)

use_three : (k : ℕ) → k < length (journal_of w.program) → entry_at (journal_of w.program) k ≡ block.journal_entry 127 0
    → (started_at 127 w k).fate ≡ must_not_be_retried → suc k ∈ not_to_retry 0 (journal_of w.program)
use_three k h q f = claimed.journaled.listed k h q (λ z. let e : must_not_be_retried ≡ complete = cc in told e) (λ z. let e : must_not_be_retried ≡ may_be_retried = cc in told_2 e)
  where
    told : must_not_be_retried ≡ complete → ⊥
    told e = absurd (let z : ◌≡◌ {A = ℕ} 0 1 = cc in omega arith)

    told_2 : must_not_be_retried ≡ may_be_retried → ⊥
    told_2 e = absurd (let z : ◌≡◌ {A = ℕ} 0 1 = cc in omega arith)

use_resolved : (k : ℕ) → k < length (journal_of w.program) → entry_at (journal_of w.program) k ≡ block.journal_entry 127 0
    → (started_at 127 w k).answered ≡ true → fate_kind (started_at 127 w k).fate ≡ 2 ∷ [] → suc k ∈ not_to_retry 0 (journal_of w.program) → ⊥
use_resolved k h q a f = claimed.journaled.resolved k 2 h q a f (omega arith)

use_stores : (acts : List CutCall) × (w.program.region ≡ region_after 128 acts)
use_stores = claimed.journaled.by_stores

-- ---- a further call

module _ (k : Call) (left : ℕ) where
  use_opening : (opens_now 127 w k ≡ true → Opening 127 (out w.program.state k)) × (Opening 127 (out w.program.state k) → opens_now 127 w k ≡ true)
  use_opening = ((claimed.stores k left).opening.0, (claimed.stores k left).opening.1)

  use_start : opens_now 127 w k ≡ true → (after_step w.program (calls k left)).ending ≡ all_stored
      → kinds_for 127 (journal_of (after_step w.program (calls k left))) ≡ kinds_for 127 (journal_of w.program) ++ (0 ∷ [])
  use_start = (claimed.stores k left).start

  use_only : opens_now 127 w k ≡ false
      → times 0 (kinds_for 127 (journal_of (after_step w.program (calls k left)))) ≡ times 0 (kinds_for 127 (journal_of w.program))
  use_only = (claimed.stores k left).only

  use_fate : (t : JournaledSession) → w.sessions.current ≡ t ∷ [] → begins_session 127 (out w.program.state k) ≡ false
      → (after_step w.program (calls k left)).ending ≡ all_stored
      → (track 127 w (calls k left)).sessions.current
      ≡ journaled_session (fate_told w.program.setup 127 (after_step w.program (calls k left)).log)
      (is_known (fate_told w.program.setup 127 (after_step w.program (calls k left)).log)) ∷ []
  use_fate = (claimed.stores k left).fate

  use_refused : (j : ℕ) → w.program.ending ≡ all_stored → (after_step w.program (calls k left)).ending ≡ refused_with j
      → (j ≡ 16) × (good 127 (block_at (after_step w.program (calls k left)).region 127) ≡ true)
  use_refused j e x = let r = (claimed.ends k left).refused j e x in (r.0, r.1 127 (omega arith))

  use_cut : w.program.ending ≡ all_stored → (after_step w.program (calls k left)).ending ≡ cut_off
      → left < 512 * suc (length (journal_of (after_step w.program (calls k left))) - length (journal_of w.program))
  use_cut = (claimed.ends k left).cut

  use_stays : (w.program.ending ≡ all_stored → ⊥)
      → ((after_step w.program (calls k left)).ending ≡ w.program.ending) × (journal_of (after_step w.program (calls k left)) ≡ journal_of w.program)
  use_stays = (claimed.ends k left).stays

use_enough : (k : Call) → w.program.ending ≡ all_stored → (after_step w.program (calls k 65_536)).ending ≡ cut_off → ⊥
use_enough k = (claimed.ends k 65_536).enough (omega arith)

use_spent : (k : Call) (left : ℕ) → w.program.ending ≡ all_stored → (after_step w.program (calls k left)).ending ≡ all_stored
    → 512 * (length (journal_of (after_step w.program (calls k left))) - length (journal_of w.program)) ≤ left
use_spent k left = (claimed.ends k left).spent

-- ---- the other steps

use_repair : (left : ℕ) → ((after_step w.program (repairs left)).ending ≡ w.program.ending) × ((after_step w.program (repairs left)).sent ≡ w.program.sent)
    × (journal_of (after_step w.program (repairs left)) ≡ journal_of w.program)
use_repair left = let o = claimed.others in (o.repair_ending left, o.repair_sent left, o.repair_journal left)

use_connect : ((after_step w.program (connects client [])).ending ≡ all_stored) × ((after_step w.program (connects client [])).starts ≡ replicate 128 false)
    × ((after_step w.program (connects client [])).sent ≡ w.program.sent) × ((after_step w.program (connects client [])).region ≡ w.program.region)
use_connect = let o = claimed.others in (o.connect_ending client [], o.connect_starts client [], o.connect_sent client [], o.connect_journal client [])

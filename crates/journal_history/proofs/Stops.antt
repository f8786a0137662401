-- How the keep of a call ends, and what the other steps leave.
use mathlib.Core.Path.{◌≡◌, refl, sym, ap, ◌∙◌}
use mathlib.Core.Bool.{Bool, true}
use mathlib.Core.List.{List}
use Prim.Native.Nat.{ℕ, suc, ◌-◌, ◌*◌, ◌≤◌, ◌<◌}
use native.Mathlib.Omega.{arith}
use lib.ListN.{length}
use Rattle.laws.specs.Runs.{times}
use Rattle.state.specs.declared.Setup.{Setup}
use Rattle.history.specs.Log.{Call, Entry, next, out, Proper}
use Rattle.history.specs.Log as log
use Rattle.journal_rules.specs.Block as block
use Rattle.journal_rules.specs.Region.{block_at, good, entries_of, repaired}
use Rattle.journal_rules.specs.Calls.{repair_call}
use Rattle.journal_rules.proofs.Histories.{reads, repair_keeps, full_good}
use Rattle.journal_history.specs.Keep.{KeepEnding, all_stored, cut_off, refused_with, Keeping, keep_all}
use Rattle.journal_history.specs.Use.{Program, kept_after, after_step}
use Rattle.journal_history.specs.Sessions.{kinds_for, SessionList, Tracked}
use Rattle.journal_history.specs.Claims.{openings, CallEnds, OtherSteps}
use Rattle.journal_history.proofs.Ends.{Stage, goes, is_cut, is_full, Done, numbers_do, stopped_stays}
use Rattle.journal_history.proofs.Programs.{Inner}

abbrev pub tracked_as : Program → SessionList → Tracked
tracked_as p b = record { program = p; sessions = b }

-- a program after these calls of its connection
abbrev pub program_at : Setup → List ℕ → List Call → List Bool → List ℕ → KeepEnding → List Entry → Program
program_at setup queue ks starts region ending sent =
    record {
      setup = setup;
      state = log.run setup queue ks;
      log = log.log setup queue ks;
      starts = starts;
      region = region;
      ending = ending;
      sent = sent;
    }

module _ (n : ℕ) (n1 : 1 ≤ n) (n128 : n ≤ 128) (m : ℕ) (hm : m < 128) where
  module _ (setup : Setup) (hh : Proper setup) (queue : List ℕ) (ks : List Call) (starts : List Bool) (region : List ℕ) (ending : KeepEnding) (sent : List Entry) (b : SessionList)
      (few : openings m sent ≤ times 0 (kinds_for m (entries_of region))) (I : Inner n n1 n128 m hm setup hh queue ks starts region b) where
    abbrev p : Program
    p = program_at setup queue ks starts region ending sent

    entries_are : entries_of region ≡ (I.stands ending 0).entries
    entries_are = reads n n1 n128 region (I.stands ending 0).entries (I.stands ending 0).holds

    pub others_so : OtherSteps (tracked_as p b)
    unfolding after_step repair_call
    others_so =
        record {
          repair_ending = λ left. refl;
          repair_sent = λ left. refl;
          repair_journal = λ left.
              reads n n1 n128 (repaired region left) (I.stands ending 0).entries (repair_keeps n n1 n128 region (I.stands ending 0).entries (I.stands ending 0).holds left)
              ∙ sym entries_are;
          connect_ending = λ s q. refl;
          connect_starts = λ s q. refl;
          connect_sent = λ s q. refl;
          connect_journal = λ s q. refl;
        }

    -- ---- how its keep ends

    begin_done : ending ≡ all_stored → (left : ℕ)
        → Done n n1 n128 (I.stands ending left).entries left 0 (record { region = region; starts = starts; left = left; ending = ending })
    begin_done e left =
        record {
          entries = (I.stands ending left).entries;
          holds = (I.stands ending left).holds;
          added = 0;
          count = omega arith;
          stage = goes e (omega arith) (omega arith);
        }

    keep_done : ending ≡ all_stored → (k : Call) (left : ℕ)
        → Done n n1 n128 (I.stands ending left).entries left 128 (kept_after p k left)
    unfolding keep_all
    keep_done e k left =
        numbers_do n n1 n128 (I.stands ending left).entries left (next (log.run setup queue ks) k).connection.sessions (out (log.run setup queue ks) k).answer
        (out (log.run setup queue ks) k).wrote 128 0 (record { region = region; starts = starts; left = left; ending = ending }) (omega arith) (begin_done e left)

    pub ends_so : (k : Call) (left : ℕ) → CallEnds n (tracked_as p b) k left
    unfolding after_step keep_all
    ends_so k left =
        record {
          refused = λ j e x. is_refused j (keep_done e k left) x;
          cut = λ e x. is_cut_so (keep_done e k left) x;
          spent = λ e x. is_spent (keep_done e k left) x;
          enough = λ l e x. never (keep_done e k left) l x;
          stays = λ e. stopped_so e;
        }
      where
        w : Keeping
        w = kept_after p k left

        es : List block.JournalEntry
        es = (I.stands ending left).entries

        is_refused : (j : ℕ) → Done n n1 n128 es left 128 w → w.ending ≡ refused_with j → (j ≡ 16) × ((i : ℕ) → i < n → good i (block_at w.region i) ≡ true)
        is_refused j d x = go d.stage
          where
            go : Stage n n1 n128 es left d.added 128 d.entries w → (j ≡ 16) × ((i : ℕ) → i < n → good i (block_at w.region i) ≡ true)
            go (goes e l h) = absurd (let z : ◌≡◌ {A = ℕ} 0 1 = cc in omega arith)
            go (is_cut e l h) = absurd (let z : ◌≡◌ {A = ℕ} 0 1 = cc in omega arith)
            go (is_full e l) = (sym (cc), full_good n n1 n128 w.region d.entries d.holds l)

        is_cut_so : Done n n1 n128 es left 128 w → w.ending ≡ cut_off → left < 512 * suc (length (entries_of w.region) - length (entries_of region))
        is_cut_so d x = go d.stage
          where
            go : Stage n n1 n128 es left d.added 128 d.entries w → left < 512 * suc (length (entries_of w.region) - length (entries_of region))
            go (goes e l h) = absurd (let z : ◌≡◌ {A = ℕ} 0 1 = cc in omega arith)
            go (is_cut e l h) =
                let a : length (entries_of w.region) ≡ length d.entries = ap length (reads n n1 n128 w.region d.entries d.holds) in
                let c : length (entries_of region) ≡ length es = ap length (reads n n1 n128 region es (I.stands ending left).holds) in
                omega (arith, d.count)
            go (is_full e l) = absurd (let z : ◌≡◌ {A = ℕ} 0 1 = cc in omega arith)

        is_spent : Done n n1 n128 es left 128 w → w.ending ≡ all_stored → 512 * (length (entries_of w.region) - length (entries_of region)) ≤ left
        is_spent d x = go d.stage
          where
            go : Stage n n1 n128 es left d.added 128 d.entries w → 512 * (length (entries_of w.region) - length (entries_of region)) ≤ left
            go (goes e l h) =
                let a : length (entries_of w.region) ≡ length d.entries = ap length (reads n n1 n128 w.region d.entries d.holds) in
                let c : length (entries_of region) ≡ length es = ap length (reads n n1 n128 region es (I.stands ending left).holds) in
                omega (arith, d.count)
            go (is_cut e l h) = absurd (let z : ◌≡◌ {A = ℕ} 0 1 = cc in omega arith)
            go (is_full e l) = absurd (let z : ◌≡◌ {A = ℕ} 0 1 = cc in omega arith)

        never : Done n n1 n128 es left 128 w → 65_536 ≤ left → w.ending ≡ cut_off → ⊥
        never d low x = go d.stage
          where
            go : Stage n n1 n128 es left d.added 128 d.entries w → ⊥
            go (goes e l h) = let z : ◌≡◌ {A = ℕ} 0 1 = cc in absurd (omega arith)
            go (is_cut e l h) = omega arith
            go (is_full e l) = let z : ◌≡◌ {A = ℕ} 0 1 = cc in absurd (omega arith)

        stopped_so : (ending ≡ all_stored → ⊥) → (w.ending ≡ ending) × (entries_of w.region ≡ entries_of region)
        stopped_so e =
            let q = stopped_stays (next (log.run setup queue ks) k).connection.sessions (out (log.run setup queue ks) k).answer (out (log.run setup queue ks) k).wrote
            128 0 (record { region = region; starts = starts; left = left; ending = ending }) e in
            (q.0, ap entries_of q.1)

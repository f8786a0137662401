-- The claims of every program that stores what is due: from what each step keeps true.
use mathlib.Core.Path.{◌≡◌, refl, sym, ap, ap₂, subst, ◌∙◌}
use mathlib.Core.Bool.{Bool, true, false}
use mathlib.Core.List.{List, [], ◌∷◌, ◌++◌, append-nil}
use Prim.Native.Nat.{ℕ, suc, ◌+◌, ◌≤◌, ◌<◌}
use native.Mathlib.Omega.{arith}
use lib.ListN.{drop, replicate, length-replicate, get_or-replicate}
use Rattle.laws.specs.Pick.{pick}
use Rattle.laws.specs.Runs.{run, log_of, fold, gather, times}
use Rattle.laws.proofs.Pick.{yes, no}
use Rattle.laws.proofs.Tests.{true_false}
use Rattle.state.specs.declared.Setup.{Setup}
use Rattle.protocol.specs.Asked.{is_unsent}
use Rattle.protocol.specs.Fate.{Fate}
use Rattle.history.specs.Log.{Call, State, Entry, out, Proper}
use Rattle.history.specs.Log as log
use Rattle.history.specs.Account.{Account}
use Rattle.history.proofs.Simulation.{made_account}
use Rattle.journal_rules.specs.Block as block
use Rattle.journal_rules.specs.Region.{entries_of, repaired}
use Rattle.journal_rules.specs.Calls.{repair_call}
use Rattle.journal_rules.specs.Power.{blank_region, region_after}
use Rattle.journal_rules.specs.Listing.{is_answered}
use Rattle.journal_rules.specs.Claims.{entry_at}
use Rattle.journal_rules.proofs.Histories.{Holds, reads, repair_keeps, blank_holds}
use Rattle.journal_rules.proofs.Listings.{listed_unanswered, listed_not_answered}
use Rattle.journal_history.specs.Keep.{KeepEnding, all_stored, cut_off, refused_with}
use Rattle.journal_history.specs.Due.{is_opening}
use Rattle.journal_history.specs.Use.{Program, ProgramStep, calls, repairs, connects, EachProper, connected, is_all_stored, after_step}
use Rattle.journal_history.specs.Sessions.{kinds_for, begins_session, journaled_session, is_known, journal_kinds, SessionList, no_sessions, all_sessions, all_past, with_fate, with_kinds, added_kinds, sessions_after, Tracked, track}
use Rattle.journal_history.specs.Claims.{tracked, openings, Journaled, CallStores, CallEnds, OtherSteps, JournalKept}
use Rattle.journal_history.proofs.Growth.{start_unanswered, start_answered, times_append, times_start, openings_append, openings_one}
use Rattle.journal_history.proofs.Keeps.{Reach, reach_none, reach_repair, reach_then}
use Rattle.journal_history.proofs.Openings.{log_snoc, run_snoc, opening_exactly}
use Rattle.journal_history.proofs.Programs.{Now, nobody, fate_now, sends_now, Inner, told_is}
use Rattle.journal_history.proofs.Stops.{tracked_as, program_at, others_so, ends_so}
use Rattle.journal_history.proofs.Calls.{After, call_does}

module _ (n : ℕ) (n1 : 1 ≤ n) (n128 : n ≤ 128) (m : ℕ) (hm : m < 128) where
  -- what every step keeps true
  record Good (w : Tracked) : Type 0 where
    setup : Setup
    proper : Proper setup
    queue : List ℕ
    ks : List Call
    starts : List Bool
    region : List ℕ
    ending : KeepEnding
    sent : List Entry
    is : w.program ≡ program_at setup queue ks starts region ending sent
    few : openings m sent ≤ times 0 (kinds_for m (entries_of region))
    inner : Inner n n1 n128 m hm setup proper queue ks starts region w.sessions

  -- ---- a connection begins

  begin_inner : (setup : Setup) (hh : Proper setup) (queue region : List ℕ) (b : SessionList) (es : List block.JournalEntry) → Holds n region es
      → Reach (blank_region n) region → kinds_for m es ≡ gather journal_kinds (all_sessions b) → b.current ≡ [] → Inner n n1 n128 m hm setup hh queue [] (replicate 128 false) region b
  unfolding run
  begin_inner setup hh queue region b es H R g q =
      record {
        flag = false;
        stands = λ x left. record {
          entries = es;
          holds = H;
          kinds = g;
          size = length-replicate 128 false;
          flag = get_or-replicate 128 m false false hm;
          reach = R;
        };
        now = subst (Now false (fate_now n n1 n128 m hm setup hh queue []) (sends_now n n1 n128 m hm setup hh queue [])) (sym q) (nobody refl);
        unsent = λ z. absurd (true_false z (ap (λ (a : Account). is_unsent a.seen.sends) (made_account setup queue m hm)));
      }

  begin_good : (setup : Setup) (hh : Proper setup) (queue region : List ℕ) (b : SessionList) (es : List block.JournalEntry) (sent : List Entry) → Holds n region es
      → Reach (blank_region n) region → kinds_for m es ≡ gather journal_kinds (all_sessions b) → b.current ≡ []
      → openings m sent ≤ times 0 (kinds_for m (entries_of region)) → Good (tracked_as (connected setup queue region sent) b)
  unfolding run log_of
  begin_good setup hh queue region b es sent H R g q o =
      record {
        setup = setup;
        proper = hh;
        queue = queue;
        ks = [];
        starts = replicate 128 false;
        region = region;
        ending = all_stored;
        sent = sent;
        is = refl;
        few = o;
        inner = begin_inner setup hh queue region b es H R g q;
      }

  -- ---- the steps

  module _ (setup : Setup) (hh : Proper setup) (queue : List ℕ) (ks : List Call) (starts : List Bool) (region : List ℕ) (ending : KeepEnding) (sent : List Entry) (b : SessionList)
      (few : openings m sent ≤ times 0 (kinds_for m (entries_of region))) (I : Inner n n1 n128 m hm setup hh queue ks starts region b) where
    abbrev p : Program
    p = program_at setup queue ks starts region ending sent

    entries_are : entries_of region ≡ (I.stands ending 0).entries
    entries_are = reads n n1 n128 region (I.stands ending 0).entries (I.stands ending 0).holds

    after : (k : Call) (left : ℕ) → After n n1 n128 m hm setup hh queue ks k starts region b I ending left
    after k left = call_does n n1 n128 m hm setup hh queue ks k starts region b I ending left

    -- what is sent is an opening whose start is stored, or no opening
    sent_so : (k : Call) (left : ℕ) → openings m (after_step p (calls k left)).sent ≤ times 0 (kinds_for m (entries_of (after_step p (calls k left)).region))
    unfolding after_step
    sent_so k left = go (after_step p (calls k left)).ending refl
      where
        en : Entry
        en = out (log.run setup queue ks) k

        more : times 0 (kinds_for m (entries_of region)) ≤ times 0 (kinds_for m (entries_of (after_step p (calls k left)).region))
        more =
            let g = (after k left).grows in
            subst (λ (x : ℕ). times 0 (kinds_for m (entries_of region)) ≤ x)
            (sym (ap (times 0) g.is ∙ times_append (kinds_for m (entries_of region)) g.more)) (omega arith)

        unsent : openings m (sent ++ []) ≤ times 0 (kinds_for m (entries_of (after_step p (calls k left)).region))
        unsent = subst (λ (l : List Entry). openings m l ≤ times 0 (kinds_for m (entries_of (after_step p (calls k left)).region))) (sym (append-nil sent)) (omega (arith, few, more))

        one : (after_step p (calls k left)).ending ≡ all_stored → (t : Bool) → is_opening m en.answer en.wrote ≡ t
            → openings m (sent ++ en ∷ []) ≤ times 0 (kinds_for m (entries_of (after_step p (calls k left)).region))
        one e true o =
            let q : times 0 (kinds_for m (entries_of (after_step p (calls k left)).region)) ≡ times 0 (kinds_for m (entries_of region)) + 1 =
            ap (times 0) ((after k left).start o e) ∙ times_start (kinds_for m (entries_of region)) in
            omega (arith, few, openings_append m sent (en ∷ []) ∙ ap (λ (x : ℕ). openings m sent + x) (openings_one m en ∙ ap (λ (t : Bool). pick t 1 0) o ∙ yes true 1 0 refl))
        one e false o =
            omega (arith, few, more, openings_append m sent (en ∷ []) ∙ ap (λ (x : ℕ). openings m sent + x) (openings_one m en ∙ ap (λ (t : Bool). pick t 1 0) o ∙ no false 1 0 refl))

        go : (x : KeepEnding) → (after_step p (calls k left)).ending ≡ x
            → openings m (sent ++ pick (is_all_stored (after_step p (calls k left)).ending) (en ∷ []) []) ≤ times 0 (kinds_for m (entries_of (after_step p (calls k left)).region))
        go all_stored e =
            subst (λ (l : List Entry). openings m (sent ++ l) ≤ times 0 (kinds_for m (entries_of (after_step p (calls k left)).region)))
            (sym (yes (is_all_stored (after_step p (calls k left)).ending) (en ∷ []) [] (ap is_all_stored e))) (one e (is_opening m en.answer en.wrote) refl)
        go cut_off e =
            subst (λ (l : List Entry). openings m (sent ++ l) ≤ times 0 (kinds_for m (entries_of (after_step p (calls k left)).region)))
            (sym (no (is_all_stored (after_step p (calls k left)).ending) (en ∷ []) [] (ap is_all_stored e))) unsent
        go (refused_with j) e =
            subst (λ (l : List Entry). openings m (sent ++ l) ≤ times 0 (kinds_for m (entries_of (after_step p (calls k left)).region)))
            (sym (no (is_all_stored (after_step p (calls k left)).ending) (en ∷ []) [] (ap is_all_stored e))) unsent

    call_good : (k : Call) (left : ℕ) → Good (track m (tracked_as p b) (calls k left))
    unfolding after_step sessions_after
    call_good k left =
        record {
          setup = setup;
          proper = hh;
          queue = queue;
          ks = ks ++ k ∷ [];
          starts = (after_step p (calls k left)).starts;
          region = (after_step p (calls k left)).region;
          ending = (after_step p (calls k left)).ending;
          sent = (after_step p (calls k left)).sent;
          few = sent_so k left;
          is =
              ap₂ (λ (s : State) (l : List Entry).
              record {
                setup = setup;
                state = s;
                log = l;
                starts = (after_step p (calls k left)).starts;
                region = (after_step p (calls k left)).region;
                ending = (after_step p (calls k left)).ending;
                sent = (after_step p (calls k left)).sent;
              }) (sym (run_snoc setup hh queue ks k)) (sym (log_snoc setup hh queue ks k));
          inner =
              subst (λ (f : Fate). Inner n n1 n128 m hm setup hh queue (ks ++ k ∷ []) (after_step p (calls k left)).starts (after_step p (calls k left)).region (book_with f))
              (sym (told_is n n1 n128 m hm setup hh queue ks k)) (after k left).inner;
        }
      where
        book_with : Fate → SessionList
        book_with f = with_kinds f (added_kinds m region (after_step p (calls k left)).region) (pick (begins_session m (out (log.run setup queue ks) k)) (all_past b) (with_fate f b))

    repair_good : (left : ℕ) → Good (track m (tracked_as p b) (repairs left))
    unfolding after_step sessions_after repair_call
    repair_good left =
        record {
          setup = setup;
          proper = hh;
          queue = queue;
          ks = ks;
          starts = starts;
          region = repaired region left;
          ending = ending;
          sent = sent;
          is = refl;
          few =
              subst (λ (es : List block.JournalEntry). openings m sent ≤ times 0 (kinds_for m es))
              (entries_are ∙ sym (reads n n1 n128 (repaired region left) (I.stands ending 0).entries (repair_keeps n n1 n128 region (I.stands ending 0).entries (I.stands ending 0).holds left))) few;
          inner = record {
            flag = I.flag;
            stands = λ x j. record {
              entries = (I.stands x j).entries;
              holds = repair_keeps n n1 n128 region (I.stands x j).entries (I.stands x j).holds left;
              kinds = (I.stands x j).kinds;
              size = (I.stands x j).size;
              flag = (I.stands x j).flag;
              reach = reach_then (blank_region n) region (repaired region left) (I.stands x j).reach (reach_repair region left);
            };
            now = I.now;
            unsent = I.unsent;
          };
        }

    new_good : (setup₁ : Setup) → Proper setup₁ → (queue₁ : List ℕ) → Good (track m (tracked_as p b) (connects setup₁ queue₁))
    unfolding after_step sessions_after
    new_good setup₁ h₁ queue₁ =
        begin_good setup₁ h₁ queue₁ region (all_past b) (I.stands ending 0).entries sent (I.stands ending 0).holds (I.stands ending 0).reach
        ((I.stands ending 0).kinds ∙ ap (gather journal_kinds) (sym (append-nil (all_sessions b)))) refl few

    -- ---- what is claimed

    kinds_are : kinds_for m (entries_of region) ≡ gather journal_kinds (all_sessions b)
    kinds_are = ap (kinds_for m) entries_are ∙ (I.stands ending 0).kinds

    journaled_so : Journaled n m (tracked_as p b)
    unfolding region_after
    journaled_so =
        record {
          kinds = kinds_are;
          sent = few;
          listed = λ k h q x y.
              let number : (entry_at (entries_of region) k).number ≡ m = ap (λ (e : block.JournalEntry). e.number) q in
              listed_unanswered (entries_of region) k h (ap (λ (e : block.JournalEntry). e.kind) q)
              (ap (λ (i : ℕ). is_answered i (drop (suc k) (entries_of region))) number
              ∙ start_unanswered m (entries_of region) (all_sessions b) kinds_are k h q x y);
          resolved = λ k kind h q a f low l.
              let number : (entry_at (entries_of region) k).number ≡ m = ap (λ (e : block.JournalEntry). e.number) q in
              true_false (start_answered m (entries_of region) (all_sessions b) kinds_are k h q kind a f low)
              (ap (λ (i : ℕ). is_answered i (drop (suc k) (entries_of region))) (sym number) ∙ listed_not_answered (entries_of region) k l);
          by_stores = ((I.stands ending 0).reach.acts, (I.stands ending 0).reach.is);
        }

    stores_so : (k : Call) (left : ℕ) → CallStores m (tracked_as p b) k left
    unfolding after_step sessions_after
    stores_so k left =
        record {
          opening = opening_exactly setup hh queue ks k m;
          start = (after k left).start;
          only = (after k left).only;
          fate = λ t q r e.
              subst (λ (f : Fate). (book_with f).current ≡ journaled_session f (is_known f) ∷ []) (sym (told_is n n1 n128 m hm setup hh queue ks k)) ((after k left).fate t q r e);
        }
      where
        book_with : Fate → SessionList
        book_with f = with_kinds f (added_kinds m region (after_step p (calls k left)).region) (pick (begins_session m (out (log.run setup queue ks) k)) (all_past b) (with_fate f b))

  -- ---- any list of steps

  module _ (w : Tracked) (G : Good w) where
    by_parts : (P : Program → Type 0) → P (program_at G.setup G.queue G.ks G.starts G.region G.ending G.sent) → P w.program
    by_parts P h = subst P (sym G.is) h

    good_call : (k : Call) (left : ℕ) → Good (track m w (calls k left))
    good_call k left =
        by_parts (λ p. Good (track m (tracked_as p w.sessions) (calls k left)))
        (call_good G.setup G.proper G.queue G.ks G.starts G.region G.ending G.sent w.sessions G.few G.inner k left)

    good_repair : (left : ℕ) → Good (track m w (repairs left))
    good_repair left =
        by_parts (λ p. Good (track m (tracked_as p w.sessions) (repairs left)))
        (repair_good G.setup G.proper G.queue G.ks G.starts G.region G.ending G.sent w.sessions G.few G.inner left)

    good_begin : (setup : Setup) → Proper setup → (queue : List ℕ) → Good (track m w (connects setup queue))
    good_begin setup h queue =
        by_parts (λ p. Good (track m (tracked_as p w.sessions) (connects setup queue)))
        (new_good G.setup G.proper G.queue G.ks G.starts G.region G.ending G.sent w.sessions G.few G.inner setup h queue)

    good_journaled : Journaled n m w
    good_journaled =
        by_parts (λ p. Journaled n m (tracked_as p w.sessions))
        (journaled_so G.setup G.proper G.queue G.ks G.starts G.region G.ending G.sent w.sessions G.few G.inner)

    good_stores : (k : Call) (left : ℕ) → CallStores m w k left
    good_stores k left =
        by_parts (λ p. CallStores m (tracked_as p w.sessions) k left)
        (stores_so G.setup G.proper G.queue G.ks G.starts G.region G.ending G.sent w.sessions G.few G.inner k left)

    good_ends : (k : Call) (left : ℕ) → CallEnds n w k left
    good_ends k left =
        by_parts (λ p. CallEnds n (tracked_as p w.sessions) k left)
        (ends_so n n1 n128 m hm G.setup G.proper G.queue G.ks G.starts G.region G.ending G.sent w.sessions G.few G.inner k left)

    good_others : OtherSteps w
    good_others =
        by_parts (λ p. OtherSteps (tracked_as p w.sessions))
        (others_so n n1 n128 m hm G.setup G.proper G.queue G.ks G.starts G.region G.ending G.sent w.sessions G.few G.inner)

  good_steps : (w : Tracked) → Good w → (steps : List ProgramStep) → EachProper steps → Good (fold (track m) w steps)
  unfolding fold
  good_steps w G [] h = G
  good_steps w G (calls k left ∷ ms) h = good_steps (track m w (calls k left)) (good_call w G k left) ms h
  good_steps w G (repairs left ∷ ms) h = good_steps (track m w (repairs left)) (good_repair w G left) ms h
  good_steps w G (connects setup queue ∷ ms) h = good_steps (track m w (connects setup queue)) (good_begin w G setup h.0 queue) ms h.1

  first_good : (setup : Setup) → Proper setup → (queue : List ℕ) → Good (tracked_as (connected setup queue (blank_region n) []) no_sessions)
  unfolding kinds_for gather openings
  first_good setup hh queue = begin_good setup hh queue (blank_region n) no_sessions [] [] (blank_holds n n1 n128) (reach_none (blank_region n)) refl refl (omega arith)

pub journal_kept : JournalKept
journal_kept n m n1 n128 hm setup queue steps hh hs =
    let G : Good n n1 n128 m hm (tracked n m setup queue steps) =
    good_steps n n1 n128 m hm (tracked_as (connected setup queue (blank_region n) []) no_sessions) (first_good n n1 n128 m hm setup hh queue) steps hs in
    record {
      journaled = good_journaled n n1 n128 m hm (tracked n m setup queue steps) G;
      stores = good_stores n n1 n128 m hm (tracked n m setup queue steps) G;
      ends = good_ends n n1 n128 m hm (tracked n m setup queue steps) G;
      others = good_others n n1 n128 m hm (tracked n m setup queue steps) G;
    }

-- One call of a program and its keep: what they leave of a number, case by case of what is due.
use mathlib.Core.Path.{◌≡◌, refl, sym, ap, ap₂, subst, ◌∙◌}
use mathlib.Core.Bool.{Bool, true, false, not}
use mathlib.Core.List.{List, [], ◌∷◌, ◌++◌, map, append-nil, append_assoc}
use Prim.Native.Nat.{ℕ, zero, suc, ◌≤◌, ◌<◌}
use native.Mathlib.Omega.{arith}
use lib.Dec.{eqb}
use lib.ListN.{length, take, drop}
use lib.Seq.{drop_at}
use Rattle.laws.specs.Pick.{pick}
use Rattle.laws.specs.Runs.{fold, gather, times}
use Rattle.laws.proofs.Pick.{yes, no}
use Rattle.laws.proofs.Tests.{true_false}
use Rattle.state.specs.declared.Sides.{Sides}
use Rattle.state.specs.declared.Sides.TheVariants as sides
use Rattle.state.specs.declared.Session.{Session}
use Rattle.state.specs.declared.Setup.{Setup}
use Rattle.protocol.specs.Connection.{at, far_start}
use Rattle.protocol.specs.Queue.{slot}
use Rattle.protocol.specs.Observed.{Sending, sends_after}
use Rattle.protocol.specs.Asked.{is_unsent}
use Rattle.protocol.specs.Fate.{Fate, no_fate, running, fate_of}
use Rattle.history.specs.Log.{Call, open_session, State, Entry, called, next, out, Proper}
use Rattle.history.specs.Log as log
use Rattle.history.specs.Account.{Account, observed, far_of, events_by_answer}
use Rattle.history.specs.Held.{account_of}
use Rattle.history.proofs.Simulation.{observed_is}
use Rattle.history.proofs.Outcomes.{outcome_at}
use Rattle.journal_rules.specs.Region.{entries_of}
use Rattle.journal_rules.proofs.Histories.{reads}
use Rattle.journal_history.specs.Due.{DueEntry, nothing_due, new_session, entry_due, fate_kind, is_opening, due_running, due_fate, due_for}
use Rattle.journal_history.specs.Keep.{KeepEnding, all_stored, Keeping, keep_all}
use Rattle.journal_history.specs.Sessions.{kinds_for, begins_session, JournaledSession, journaled_session, is_known, journal_kinds, SessionList, all_sessions, all_past, with_fate, with_kinds, added_kinds}
use Rattle.journal_history.proofs.Growth.{times_snoc}
use Rattle.journal_history.proofs.Keeps.{Stands, Left, left_stored, left_due, Done, keep_does}
use Rattle.journal_history.proofs.Telling.{has_fate, Renewed, by_open, by_data}
use Rattle.journal_history.proofs.Openings.{was_unsent, is_sent, opening_tells}
use Rattle.journal_history.proofs.Programs.{gather_append, not_fate, opening_sides, live_sides, ByFate, without, still, known, by_fate, Now, nobody, somebody, group_same, Inner, sends_is}
use Rattle.journal_history.proofs.Told.{fate_at, sends_at_lem, renewed_so, known_so, has_so, sent_so, unsent_so}

module _ (n : ℕ) (n1 : 1 ≤ n) (n128 : n ≤ 128) (m : ℕ) (hm : m < 128) (setup : Setup) (hh : Proper setup) (queue : List ℕ) (ks : List Call) (k : Call) where
  abbrev st : State
  st = log.run setup queue ks

  abbrev en : Entry
  en = out st k

  abbrev f : Fate
  f = outcome_at st.connection m

  abbrev f' : Fate
  f' = outcome_at (log.run setup queue (ks ++ k ∷ [])).connection m

  abbrev v : Sending
  v = (account_of st m).seen.sends

  abbrev v' : Sending
  v' = (account_of (log.run setup queue (ks ++ k ∷ [])) m).seen.sends

  abbrev x' : Session
  x' = at (next st k).connection m

  -- ---- what the keep leaves

  module _ (starts : List Bool) (region : List ℕ) (b : SessionList) (I : Inner n n1 n128 m hm setup hh queue ks starts region b) (ending : KeepEnding) (left : ℕ) where
    abbrev w' : Keeping
    w' = keep_all (next st k).connection en.answer en.wrote region starts ending left

    abbrev K : List ℕ
    K = gather journal_kinds (all_sessions b)

    abbrev told : SessionList
    told = pick (begins_session m en) (all_past b) (with_fate f' b)

    -- the sessions after the call
    abbrev pub sessions' : SessionList
    sessions' = with_kinds f' (added_kinds m region w'.region) told

    -- the kinds of the number only grow
    pub record Grows : Type 0 where
      pub more : List ℕ
      pub is : kinds_for m (entries_of w'.region) ≡ kinds_for m (entries_of region) ++ more

    pub record After : Type 0 where
      pub inner : Inner n n1 n128 m hm setup hh queue (ks ++ k ∷ []) w'.starts w'.region sessions'
      pub start : is_opening m en.answer en.wrote ≡ true → w'.ending ≡ all_stored
          → kinds_for m (entries_of w'.region) ≡ kinds_for m (entries_of region) ++ (0 ∷ [])
      pub only : is_opening m en.answer en.wrote ≡ false → times 0 (kinds_for m (entries_of w'.region)) ≡ times 0 (kinds_for m (entries_of region))
      pub grows : Grows
      pub fate : (t : JournaledSession) → b.current ≡ t ∷ [] → begins_session m en ≡ false → w'.ending ≡ all_stored → sessions'.current ≡ journaled_session f' (is_known f') ∷ []

    kinds_before : kinds_for m (entries_of region) ≡ K
    kinds_before =
        let s = I.stands ending left in
        ap (kinds_for m) (reads n n1 n128 region s.entries s.holds) ∙ s.kinds

    -- what is left, with the kinds that are added
    module _ (more : List ℕ) (flag' : Bool) (s : Stands n n1 n128 m hm (K ++ more) flag' w') where
      kinds_after : kinds_for m (entries_of w'.region) ≡ K ++ more
      kinds_after = ap (kinds_for m) (reads n n1 n128 w'.region s.entries s.holds) ∙ s.kinds

      added_is : added_kinds m region w'.region ≡ more
      added_is =
          ap₂ (λ (a c : List ℕ). drop (length a) c) kinds_before kinds_after
          ∙ drop_at K more (length K) refl

      grows_so : Grows
      grows_so = record { more = more; is = kinds_after ∙ ap (λ (l : List ℕ). l ++ more) (sym kinds_before) }

      module _ (b₁ : SessionList) (q : told ≡ b₁) where
        sessions_are : sessions' ≡ with_kinds f' more b₁
        sessions_are = ap₂ (with_kinds f') added_is q

        inner_so : gather journal_kinds (all_sessions (with_kinds f' more b₁)) ≡ K ++ more → Now flag' f' v' (with_kinds f' more b₁).current
            → Inner n n1 n128 m hm setup hh queue (ks ++ k ∷ []) w'.starts w'.region sessions'
        inner_so g w =
            subst (Inner n n1 n128 m hm setup hh queue (ks ++ k ∷ []) w'.starts w'.region) (sym sessions_are)
            (record {
              flag = flag';
              stands = λ x j. record {
                entries = s.entries;
                holds = s.holds;
                kinds = s.kinds ∙ sym g;
                size = s.size;
                flag = s.flag;
                reach = s.reach;
              };
              now = w;
              unsent = (unsent_so n n1 n128 m hm setup hh queue ks k) I.unsent;
            })

    -- ---- case by case

    keep : Done n n1 n128 m hm (due_for (is_opening m en.answer en.wrote) I.flag x') K I.flag w'
    keep = keep_does n n1 n128 m hm (next st k).connection en.answer en.wrote region starts ending left K I.flag (I.stands ending left)

    told_new : begins_session m en ≡ true → told ≡ all_past b
    told_new h = yes (begins_session m en) (all_past b) (with_fate f' b) h

    told_old : begins_session m en ≡ false → told ≡ with_fate f' b
    told_old h = no (begins_session m en) (all_past b) (with_fate f' b) h

    -- nothing is added
    plain : (flag' : Bool) → Stands n n1 n128 m hm K flag' w' → Stands n n1 n128 m hm (K ++ []) flag' w'
    plain flag' s = subst (λ (l : List ℕ). Stands n n1 n128 m hm l flag' w') (sym (append-nil K)) s

    same_times : (flag' : Bool) → Stands n n1 n128 m hm K flag' w' → times 0 (kinds_for m (entries_of w'.region)) ≡ times 0 (kinds_for m (entries_of region))
    same_times flag' s = ap (times 0) (kinds_after [] flag' (plain flag' s) ∙ append-nil K ∙ sym kinds_before)

    -- no start of the session is stored, and none was
    module _ (q : b.current ≡ []) where
      empty_retold : (t : List JournaledSession) → gather journal_kinds ((b.past ++ map (λ (t : JournaledSession). journaled_session f' t.answered) b.current) ++ t) ≡ K ++ gather journal_kinds t
      empty_retold t =
          gather_append (b.past ++ map (λ (t : JournaledSession). journaled_session f' t.answered) b.current) t
          ∙ ap (λ (l : List JournaledSession). gather journal_kinds (b.past ++ l) ++ gather journal_kinds t) (ap (map (λ (t : JournaledSession). journaled_session f' t.answered)) q ∙ sym q)

      no_current : {A : Type 0} (t : JournaledSession) → b.current ≡ t ∷ [] → A
      no_current t z = absurd (let e : ◌≡◌ {A = ℕ} 0 1 = ap length (sym q) ∙ ap length z in omega arith)

      still_none : begins_session m en ≡ false → Stands n n1 n128 m hm K false w'
          → Inner n n1 n128 m hm setup hh queue (ks ++ k ∷ []) w'.starts w'.region sessions'
      still_none r s =
          inner_so [] false (plain false s) (with_fate f' b) (told_old r)
          (ap (λ (l : List JournaledSession). gather journal_kinds (b.past ++ l)) (ap (map (λ (t : JournaledSession). journaled_session f' t.answered)) q ∙ sym q) ∙ sym (append-nil K))
          (subst (Now false f' v') (sym (ap (map (λ (t : JournaledSession). journaled_session f' t.answered)) q)) (nobody refl))

      none_kept : begins_session m en ≡ false → is_opening m en.answer en.wrote ≡ false → Stands n n1 n128 m hm K false w' → After
      none_kept r o s =
          record {
            inner = still_none r s;
            start = λ z e. absurd (true_false z o);
            only = λ z. same_times false s;
            grows = grows_so [] false (plain false s);
            fate = λ t z e x. no_current t z;
          }

      -- an opening: its start is stored, or something stops the keep
      opened : is_opening m en.answer en.wrote ≡ true → has_fate f' ≡ true → is_unsent v' ≡ false → Left n n1 n128 m hm 0 K w' → After
      unfolding gather pick
      opened o h u (left_stored s) =
          record {
            inner =
                inner_so (0 ∷ []) true s (with_fate f' b) (told_old (opening_tells setup hh queue ks k m o))
                (empty_retold (journaled_session f' false ∷ [])) (somebody false refl (λ z. absurd (true_false z refl)) h u);
            start = λ z e. kinds_after (0 ∷ []) true s ∙ ap (λ (l : List ℕ). l ++ 0 ∷ []) (sym kinds_before);
            grows = grows_so (0 ∷ []) true s;
            only = λ z. absurd (true_false o z);
            fate = λ t z e x. no_current t z;
          }
      opened o h u (left_due s x) =
          record {
            inner = still_none (opening_tells setup hh queue ks k m o) s;
            start = λ z e. absurd (x e);
            grows = grows_so [] false (plain false s);
            only = λ z. absurd (true_false o z);
            fate = λ t z e y. no_current t z;
          }

    -- the number is used anew
    renew : begins_session m en ≡ true → is_opening m en.answer en.wrote ≡ false → Stands n n1 n128 m hm K false w' → After
    renew r o s =
        record {
          inner =
              inner_so [] false (plain false s) (all_past b) (told_new r)
              (ap (gather journal_kinds) (append-nil (all_sessions b)) ∙ sym (append-nil K)) (nobody refl);
          start = λ z e. absurd (true_false z o);
          only = λ z. same_times false s;
          grows = grows_so [] false (plain false s);
          fate = λ t z e x. absurd (true_false r e);
        }

    -- the session's start was stored before
    module _ (b₀ : Bool) (q : b.current ≡ journaled_session f b₀ ∷ []) (r : begins_session m en ≡ false) (o : is_opening m en.answer en.wrote ≡ false)
        (kn : b₀ ≡ true → is_known f ≡ true) (hf : has_fate f' ≡ true) (us : is_unsent v' ≡ false) where
      retold_is : map (λ (t : JournaledSession). journaled_session f' t.answered) b.current ≡ journaled_session f' b₀ ∷ []
      retold_is = ap (map (λ (t : JournaledSession). journaled_session f' t.answered)) q

      known_still : b₀ ≡ true → is_known f' ≡ true
      known_still z = ap is_known ((known_so n n1 n128 m hm setup hh queue ks k) r (kn z)) ∙ kn z

      retold_kinds : gather journal_kinds (b.past ++ map (λ (t : JournaledSession). journaled_session f' t.answered) b.current) ≡ K
      unfolding gather
      retold_kinds =
          ap (λ (l : List JournaledSession). gather journal_kinds (b.past ++ l)) retold_is
          ∙ gather_append b.past (journaled_session f' b₀ ∷ [])
          ∙ ap (λ (l : List ℕ). gather journal_kinds b.past ++ (l ++ [])) (sym (group_same f f' b₀ (λ z. (known_so n n1 n128 m hm setup hh queue ks k) r (kn z))))
          ∙ sym (gather_append b.past (journaled_session f b₀ ∷ []))
          ∙ ap (λ (l : List JournaledSession). gather journal_kinds (b.past ++ l)) (sym q)

      -- nothing is stored for it
      waits : (flag' : Bool) → flag' ≡ not b₀ → (w'.ending ≡ all_stored → is_known f' ≡ b₀) → Stands n n1 n128 m hm K flag' w' → After
      waits flag' p y s =
          record {
            inner =
                inner_so [] flag' (plain flag' s) (with_fate f' b) (told_old r) (retold_kinds ∙ sym (append-nil K))
                (subst (Now flag' f' v') (sym retold_is) (somebody b₀ p known_still hf us));
            start = λ z e. absurd (true_false z o);
            only = λ z. same_times flag' s;
            grows = grows_so [] flag' (plain flag' s);
            fate = λ t z e x.
                ap (λ (l : SessionList). l.current) (sessions_are [] flag' (plain flag' s) (with_fate f' b) (told_old r))
                ∙ retold_is ∙ ap (λ (c : Bool). journaled_session f' c ∷ []) (sym (y x));
          }

    -- its fate is stored
    module _ (q : b.current ≡ journaled_session f false ∷ []) (r : begins_session m en ≡ false) (o : is_opening m en.answer en.wrote ≡ false)
        (hf : has_fate f' ≡ true) (us : is_unsent v' ≡ false) (kf : is_known f' ≡ true) where
      answers : (kind : ℕ) → fate_kind f' ≡ kind ∷ [] → eqb kind 0 ≡ false → Stands n n1 n128 m hm (K ++ kind ∷ []) false w' → After
      unfolding gather pick
      answers zero kk nz s = absurd (true_false refl nz)
      answers (suc j) kk nz s =
          record {
            inner =
                inner_so (suc j ∷ []) false s (with_fate f' b) (told_old r)
                (ap (λ (l : List JournaledSession). gather journal_kinds (b.past ++ l)) answered_is
                ∙ gather_append b.past (journaled_session f' true ∷ [])
                ∙ ap (λ (l : List ℕ). gather journal_kinds b.past ++ (0 ∷ (l ++ []))) kk
                ∙ sym (append_assoc (gather journal_kinds b.past) (0 ∷ []) (suc j ∷ []))
                ∙ ap (λ (l : List ℕ). l ++ suc j ∷ [])
                (sym (gather_append b.past (journaled_session f false ∷ [])) ∙ ap (λ (l : List JournaledSession). gather journal_kinds (b.past ++ l)) (sym q)))
                (subst (Now false f' v') (sym answered_is) (somebody true refl (λ z. kf) hf us));
            start = λ z e. absurd (true_false z o);
            grows = grows_so (suc j ∷ []) false s;
            only = λ z. ap (times 0) (kinds_after (suc j ∷ []) false s) ∙ times_snoc K (suc j) nz ∙ ap (times 0) (sym kinds_before);
            fate = λ t z e x.
                ap (λ (l : SessionList). l.current) (sessions_are (suc j ∷ []) false s (with_fate f' b) (told_old r))
                ∙ answered_is ∙ ap (λ (c : Bool). journaled_session f' c ∷ []) (sym kf);
          }
        where
          answered_is : map (λ (t : JournaledSession). journaled_session t.fate true) (map (λ (t : JournaledSession). journaled_session f' t.answered) b.current) ≡ journaled_session f' true ∷ []
          answered_is = ap (λ (l : List JournaledSession). map (λ (t : JournaledSession). journaled_session t.fate true) (map (λ (t : JournaledSession). journaled_session f' t.answered) l)) q

    -- ---- what is due

    abbrev due_now : DueEntry
    due_now = due_fate I.flag (fate_of x'.outcome) x'.sides

    due_new : Renewed f' v' → ByFate I.flag (fate_of x'.outcome) x'.sides → due_now ≡ new_session
    due_new z (without e d) = d
    due_new (by_open z u) (still e d) = d ∙ opening_sides (far_start (next st k).connection) x'.sides (take x'.waiting (slot m (next st k).queue)) x'.outbound x'.finish ((sends_at_lem n n1 n128 m hm setup hh queue ks k) ∙ u)
    due_new (by_data z u) (still e d) = not_fate no_fate running refl refl (sym z ∙ sym (fate_at n n1 n128 m hm setup hh queue ks k) ∙ e)
    due_new (by_open z u) (known j kf kk nz d) = absurd (true_false kf (ap is_known ((fate_at n n1 n128 m hm setup hh queue ks k) ∙ z)))
    due_new (by_data z u) (known j kf kk nz d) = absurd (true_false kf (ap is_known ((fate_at n n1 n128 m hm setup hh queue ks k) ∙ z)))

    -- where no start is stored, nothing is
    due_none : I.flag ≡ false → ByFate I.flag (fate_of x'.outcome) x'.sides → Done n n1 n128 m hm due_now K I.flag w' → Stands n n1 n128 m hm K false w'
    unfolding pick
    due_none p (without e d) w = subst (λ (x : DueEntry). Done n n1 n128 m hm x K I.flag w') d w
    due_none p (still e d) w = go x'.sides (subst (λ (x : DueEntry). Done n n1 n128 m hm x K I.flag w') d w)
      where
        go : (s : Sides) → Done n n1 n128 m hm (due_running s) K I.flag w' → Stands n n1 n128 m hm K false w'
        go sides.Idle w = subst (λ (c : Bool). Stands n n1 n128 m hm K c w') p w
        go (sides.Opening c) w = w
        go (sides.Live c t) w = subst (λ (c : Bool). Stands n n1 n128 m hm K c w') p w
    due_none p (known j kf kk nz d) w =
        subst (λ (c : Bool). Stands n n1 n128 m hm K c w') p
        (subst (λ (x : DueEntry). Done n n1 n128 m hm x K I.flag w') (d ∙ no I.flag (entry_due j) nothing_due p) w)

    -- a session whose start was stored
    due_some : (b₀ : Bool) → b.current ≡ journaled_session f b₀ ∷ [] → I.flag ≡ not b₀ → begins_session m en ≡ false → is_opening m en.answer en.wrote ≡ false
        → (b₀ ≡ true → is_known f ≡ true) → has_fate f' ≡ true → is_unsent v' ≡ false → ByFate I.flag (fate_of x'.outcome) x'.sides
        → Done n n1 n128 m hm due_now K I.flag w' → After
    due_some b₀ q p r o kn hf us (without e d) w = not_fate no_fate f' refl hf (sym e ∙ (fate_at n n1 n128 m hm setup hh queue ks k))
    due_some b₀ q p r o kn hf us (still e d) w =
        waits b₀ q r o kn hf us I.flag p (λ z. unknown b₀ refl)
        (subst (λ (x : DueEntry). Done n n1 n128 m hm x K I.flag w')
        (d ∙ live_sides (far_start (next st k).connection) x'.sides (take x'.waiting (slot m (next st k).queue)) x'.outbound x'.finish ((sends_at_lem n n1 n128 m hm setup hh queue ks k) ∙ us)) w)
      where
        unknown : (c : Bool) → b₀ ≡ c → is_known f' ≡ b₀
        unknown true z = absurd (true_false (known_still b₀ q r o kn hf us z) (ap is_known (sym (fate_at n n1 n128 m hm setup hh queue ks k) ∙ e)))
        unknown false z = ap is_known (sym (fate_at n n1 n128 m hm setup hh queue ks k) ∙ e) ∙ sym z
    due_some true q p r o kn hf us (known j kf kk nz d) w =
        waits true q r o kn hf us I.flag p (λ z. ap is_known (sym (fate_at n n1 n128 m hm setup hh queue ks k)) ∙ kf)
        (subst (λ (x : DueEntry). Done n n1 n128 m hm x K I.flag w') (d ∙ no I.flag (entry_due j) nothing_due p) w)
    due_some false q p r o kn hf us (known j kf kk nz d) w =
        go (subst (λ (x : DueEntry). Done n n1 n128 m hm x K I.flag w') (d ∙ yes I.flag (entry_due j) nothing_due p) w)
      where
        go : Left n n1 n128 m hm j K w' → After
        go (left_stored s) =
            answers q r o hf us (ap is_known (sym (fate_at n n1 n128 m hm setup hh queue ks k)) ∙ kf) j (ap fate_kind (sym (fate_at n n1 n128 m hm setup hh queue ks k)) ∙ kk) nz
            (subst (λ (c : Bool). Stands n n1 n128 m hm (K ++ j ∷ []) c w') nz s)
        go (left_due s x) =
            waits false q r o kn hf us true refl (λ z. absurd (x z)) (subst (λ (c : Bool). Stands n n1 n128 m hm K c w') (ap not nz) s)

    by_now : (cur : List JournaledSession) → b.current ≡ cur → Now I.flag f v cur → After
    unfolding pick
    by_now cur q w = go (is_opening m en.answer en.wrote) refl w
      where
        same : (account_of st m).seen.sends ≡ (observed setup m (log.log setup queue ks)).seen.sends
        same = ap (λ (a : Account). a.seen.sends) (sym (observed_is setup hh queue ks m hm))

        first : is_opening m en.answer en.wrote ≡ true → is_unsent v ≡ true
        first o = ap is_unsent same ∙ was_unsent setup hh queue ks k m o

        gone : is_opening m en.answer en.wrote ≡ true → is_unsent v' ≡ false
        gone o =
            ap is_unsent (sends_is n n1 n128 m hm setup hh queue ks k)
            ∙ ap (λ (u : Sending). is_unsent (fold (sends_after (far_of (account_of st m).line)) u (events_by_answer setup.role m en.call en.wrote en.answer))) same
            ∙ is_sent setup hh queue ks k m (far_of (account_of st m).line) o

        due_is : (t : Bool) → is_opening m en.answer en.wrote ≡ t → Done n n1 n128 m hm (due_for t I.flag x') K I.flag w'
        due_is t o = subst (λ (t : Bool). Done n n1 n128 m hm (due_for t I.flag x') K I.flag w') o keep

        old : is_opening m en.answer en.wrote ≡ false → begins_session m en ≡ false → (c : List JournaledSession) → Now I.flag f v c → b.current ≡ c → After
        old o r c (nobody p) q = none_kept q r o (due_none p (by_fate I.flag (fate_of x'.outcome) x'.sides) (due_is false o))
        old o r c (somebody b₀ p kn hf us) q =
            due_some b₀ q p r o kn ((has_so n n1 n128 m hm setup hh queue ks k) r hf) ((sent_so n n1 n128 m hm setup hh queue ks k) r us) (by_fate I.flag (fate_of x'.outcome) x'.sides) (due_is false o)

        new : is_opening m en.answer en.wrote ≡ false → (t : Bool) → begins_session m en ≡ t → After
        new o true r =
            renew r o
            (subst (λ (x : DueEntry). Done n n1 n128 m hm x K I.flag w')
            (due_new ((renewed_so n n1 n128 m hm setup hh queue ks k) r) (by_fate I.flag (fate_of x'.outcome) x'.sides)) (due_is false o))
        new o false r = old o r cur w q

        open_now : is_opening m en.answer en.wrote ≡ true → (c : List JournaledSession) → Now I.flag f v c → b.current ≡ c → After
        open_now o c (nobody p) q = opened q o ((has_so n n1 n128 m hm setup hh queue ks k) (opening_tells setup hh queue ks k m o) (I.unsent (first o))) (gone o) (due_is true o)
        open_now o c (somebody b₀ p kn hf us) q = absurd (true_false (first o) us)

        go : (t : Bool) → is_opening m en.answer en.wrote ≡ t → Now I.flag f v cur → After
        go true o w = open_now o cur w q
        go false o w = new o (begins_session m en) refl

    pub call_does : After
    call_does = by_now b.current refl I.now

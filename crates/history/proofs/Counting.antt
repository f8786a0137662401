-- ration-ledger and put-stream, for every list of calls: from the sums that track the state, and what each call's step lets happen.
use mathlib.Core.Path.{◌≡◌, refl, sym, ap, ◌∙◌, subst}
use mathlib.Core.Bool.{Bool, true, false, false≢true}
use mathlib.Core.List.{List, [], ◌∷◌, ◌++◌}
use Prim.Native.Nat.{ℕ, ◌<◌}
use native.Mathlib.Omega.{arith}
use lib.ListN.{take, drop}
use Rattle.laws.specs.Result.{ok}
use Rattle.laws.specs.Runs.{fold, gather}
use Rattle.laws.proofs.Results.{ok_same, refused_not_ok, violation_not_ok}
use Rattle.ration.specs.declared.Ration.{Ration}
use Rattle.ration.specs.Ration.{from_header}
use Rattle.wire.specs.declared.Message.TheVariants as msg
use Rattle.state.specs.declared.Side.{Side}
use Rattle.state.specs.declared.Side.TheVariants as side
use Rattle.state.specs.declared.Before.TheVariants as before
use Rattle.state.specs.declared.Sides.{Sides}
use Rattle.state.specs.declared.Sides.TheVariants as sides
use Rattle.state.specs.declared.Session.{Session}
use Rattle.state.specs.declared.Setup.{Setup}
use Rattle.protocol.specs.Queue.{slot}
use Rattle.protocol.specs.Message.{data_of, scope}
use Rattle.protocol.specs.Connection.{at, role_of, far_start}
use Rattle.protocol.specs.Judge.{message, Output, sent, Effect, Decision, refuse, violate, accept}
use Rattle.protocol.specs.Observed.{Event, received, wrote, Sending, silent, sending, Ends, unused, ends, Seen, established, unfinished, may_arrive, late_for}
use Rattle.protocol.specs.Totals.{blank_ledger, Balanced, Covers, Totals, add_up}
use Rattle.protocol.proofs.Views.{start_told_lem, ends_of, sends_of, look}
use Rattle.protocol.proofs.Legal.{Writes, AllLegal}
use Rattle.protocol.proofs.Ledgers.{OutFair, InFair, out_covers, in_covers, open_covers}
use Rattle.protocol.proofs.Streams.{Flows, Fair, eof_flows}
use Rattle.history.specs.Log.{Call, State, Entry, out, Proper}
use Rattle.history.specs.Log as log
use Rattle.history.proofs.Decisions.{decide, out_by, out_is}
use Rattle.history.specs.Written.{all_written}
use Rattle.history.specs.Meaning.{only}
use Rattle.history.specs.Account.{Account, events, reported, reported_of, far_of, observed, output_seen}
use Rattle.history.specs.Sums.{Sum, blank_sum, sum_after, summed}
use Rattle.history.specs.Claims.{data_number, late_of, RationLedger, PutStream}
use Rattle.history.proofs.InOrder.{reads_alone}
use Rattle.history.proofs.Good.{is_turn, Good, setup_of, line_of, holds, own_of, one}
use Rattle.history.proofs.Written.{only_own}
use Rattle.history.proofs.Violations.{broken_no_data}
use Rattle.history.proofs.Receives.{GoodBy}
use Rattle.history.proofs.Simulation.{decide_good, same_setup, own_ok, run_made, observed_is}
use Rattle.history.proofs.Fair.{nothing_data}
use Rattle.history.proofs.Entries.{of_entries}
use Rattle.history.proofs.Balances.{Tracks, tracks}

-- ---- the fields of a session that balances

-- our end is unfinished
abbrev sends_on : Ends → Bool
sends_on unused = false
sends_on (ends o t) = unfinished o

abbrev sends_any : Sending → Bool
sends_any silent = false
sends_any (sending u w r f) = true

module _ (own far : Ration) (x : Session) (sl : List ℕ) (t : Totals) (q : t.seen ≡ look far x sl) (f : Fair own far t) where
  out_fair : OutFair far (ends_of x.sides) (look far x sl).sends t.sending
  out_fair = subst (λ (v : Seen). OutFair far v.standing v.sends t.sending) q f.out

  out_balance : sends_on (ends_of x.sides) ≡ true → Balanced far t.sending x.outbound
  out_balance h = go x.sides h out_fair
    where
      go : (z : Sides) → sends_on (ends_of z) ≡ true → OutFair far (ends_of z) (sends_of far z (take x.waiting sl) x.outbound x.finish) t.sending → Balanced far t.sending x.outbound
      go sides.Idle e k = absurd (false≢true e)
      go (sides.Opening before.Idle) e k = absurd (false≢true e)
      go (sides.Opening before.Finished) e k = absurd (false≢true e)
      go (sides.Opening before.Ended) e k = absurd (false≢true e)
      go (sides.Live side.Open u) e k = k.0
      go (sides.Live side.Finished u) e k = absurd (false≢true e)
      go (sides.Live side.Ended u) e k = absurd (false≢true e)

  in_balance : (o : Side) → established o ≡ true → ends_of x.sides ≡ ends o side.Open → Balanced own t.receiving x.inbound
  in_balance o h e = go o h (subst (λ (v : Ends). InFair own v x.inbound t.receiving) e (subst (λ (v : Seen). InFair own v.standing v.inbound t.receiving) q f.into))
    where
      go : (o : Side) → established o ≡ true → InFair own (ends o side.Open) x.inbound t.receiving → Balanced own t.receiving x.inbound
      go side.Open h k = k
      go side.Finished h k = k
      go side.Ended h k = absurd (false≢true h)

  flow_kept : sends_any (look far x sl).sends ≡ true → t.payloads ++ take x.waiting sl ≡ t.put
  flow_kept h = go x.sides h (subst (λ (v : Seen). Flows v.sends t.put t.payloads) q f.flows)
    where
      go : (z : Sides) → sends_any (sends_of far z (take x.waiting sl) x.outbound x.finish) ≡ true
          → Flows (sends_of far z (take x.waiting sl) x.outbound x.finish) t.put t.payloads → t.payloads ++ take x.waiting sl ≡ t.put
      go sides.Idle e k = absurd (false≢true e)
      go (sides.Opening b) e k = k
      go (sides.Live side.Open u) e k = k
      go (sides.Live side.Finished u) e k = absurd (false≢true e)
      go (sides.Live side.Ended u) e k = absurd (false≢true e)

-- ---- what an entry that writes or takes Data does

none_some : {n : ℕ} {A : Type 0} → ◌≡◌ {A = List ℕ} [] (n ∷ []) → A
none_some e = absurd (let z : ◌≡◌ {A = ℕ} 0 1 = cc in omega arith)

-- a Data message among outputs has its number among theirs
some_data : (before after : List Output) (b close eof ack : Bool) (n size : ℕ) → gather data_number (before ++ (sent (msg.Data b close eof ack n size) ∷ after)) ≡ [] → ⊥
unfolding gather
some_data [] after b close eof ack n size e = let z : ◌≡◌ {A = ℕ} 0 1 = cc in omega arith
some_data (o ∷ before) after b close eof ack n size e = some_data before after b close eof ack n size (rest (data_number o) _ e)
  where
    rest : (x y : List ℕ) → x ++ y ≡ [] → y ≡ []
    rest [] y e = e
    rest (i ∷ x) y e = absurd (let z : ◌≡◌ {A = ℕ} 0 1 = cc in omega arith)

module _ (s : State) (k : Call) (n : ℕ) where
  -- a Data message that is written is written alone, by a turn, and may be written then
  abbrev WritesData : Setup → Decision → Type 0
  WritesData z d =
      (before after : List Output) (b close eof ack : Bool) (size : ℕ)
      → all_written z.role (out_by s k d).wrote ≡ before ++ (sent (msg.Data b close eof ack n size) ∷ after)
      → (events z.role n (out_by s k d) ≡ wrote (data_of size b close eof ack) ∷ [])
      × Writes z.role (far_start s.connection) (drop 4 (out_by s k d).wrote) (holds s n) (data_of size b close eof ack)

  abbrev TakesData : Setup → Decision → Type 0
  TakesData z d =
      (b close eof ack late : Bool) (size : ℕ) → (out_by s k d).answer ≡ ok (message (msg.Data b close eof ack n size) late)
      → may_arrive z.role (own_of z) (holds s n) (data_of size b close eof ack) ≡ true

  module _ (e : Effect) (g : Good (setup_of s.connection) s k e) where
    -- it is a turn, and the number is the one that it serves
    is_turn_lem : (b : Bool) → is_turn k ≡ b → one b e.number ≡ n ∷ [] → (is_turn k ≡ true) × (e.number ≡ n)
    is_turn_lem true z p = (z, cc)
    is_turn_lem false z p = none_some p

    writes_data : WritesData (setup_of s.connection) (accept e)
    unfolding gather
    writes_data before after b close eof ack size q =
        let r = role_of s.connection.stage in
        let bytes = (out_by s k (accept e)).wrote in
        let alone = reads_alone r k bytes e.outs before after (sent (msg.Data b close eof ack n size)) g.reads g.single q in
        let w = is_turn_lem (is_turn k) refl (sym g.by_turn ∙ ap (gather data_number) alone) in
        let x : Event = wrote (data_of size b close eof ack) in
        let read : events (role_of s.connection.stage) e.number (out_by s k (accept e)) ≡ wrote (data_of size b close eof ack) ∷ [] =
        ap (λ (l : List Event). l ++ gather (output_seen e.number) (all_written r bytes)) (g.untold w.0)
        ∙ ap (gather (output_seen e.number)) alone ∙ ap (λ (i : ℕ). only i n x ++ []) w.1 ∙ ap (λ (l : List Event). l ++ []) (only_own n x) in
        let legal =
        subst (λ (es : List Event). AllLegal (role_of s.connection.stage) (own_of (setup_of s.connection)) (far_start s.connection) (drop 4 (out_by s k (accept e)).wrote) (holds s e.number) es) read g.legal in (
          subst (λ (i : ℕ). events (role_of s.connection.stage) i (out_by s k (accept e)) ≡ wrote (data_of size b close eof ack) ∷ []) w.1 read,
          subst (λ (i : ℕ). Writes (role_of s.connection.stage) (far_start s.connection) (drop 4 (out_by s k (accept e)).wrote) (holds s i) (data_of size b close eof ack)) w.1 legal.0,
        )

    takes_data : TakesData (setup_of s.connection) (accept e)
    takes_data b close eof ack late size q =
        let rep : e.report ≡ message (msg.Data b close eof ack n size) late = ok_same q in
        let num : n ≡ e.number = sym (ap (reported_of k) rep) ∙ g.concerns in
        let x : Event = received (data_of size b close eof ack) in
        let told : reported e.number k e.report ≡ received (data_of size b close eof ack) ∷ [] =
        ap (reported e.number k) rep ∙ ap (λ (i : ℕ). only i n x) (sym num) ∙ only_own n x in
        let legal =
        subst (λ (es : List Event). AllLegal (role_of s.connection.stage) (own_of (setup_of s.connection)) (far_start s.connection) (drop 4 (out_by s k (accept e)).wrote) (holds s e.number)
        (es ++ gather (output_seen e.number) (all_written (role_of s.connection.stage) (out_by s k (accept e)).wrote))) told g.legal in
        subst (λ (i : ℕ). may_arrive (role_of s.connection.stage) (own_of (setup_of s.connection)) (holds s i) (data_of size b close eof ack) ≡ true) (sym num) legal.0

  writes_by : (d : Decision) → GoodBy s k d → WritesData (setup_of s.connection) d
  writes_by (refuse j) g before after b close eof ack size q =
      absurd (some_data before after b close eof ack n size (sym (ap (gather data_number) q) ∙ nothing_data (role_of s.connection.stage)))
  writes_by (violate x) g before after b close eof ack size q =
      absurd (some_data before after b close eof ack n size (sym (ap (gather data_number) q) ∙ broken_no_data s k x g.told))
  writes_by (accept e) g before after b close eof ack size q = writes_data e g before after b close eof ack size q

  takes_by : (d : Decision) → GoodBy s k d → TakesData (setup_of s.connection) d
  takes_by (refuse j) g b close eof ack late size q = absurd (refused_not_ok q)
  takes_by (violate x) g b close eof ack late size q = absurd (violation_not_ok q)
  takes_by (accept e) g b close eof ack late size q = takes_data e g b close eof ack late size q

-- ---- for a log

module _ (setup : Setup) (hh : Proper setup) (queue : List ℕ) (n : ℕ) (h : n < 128) where
  -- for the calls ks, and one more
  module _ (ks : List Call) (k : Call) where
    tracked : Tracks setup n (log.run setup queue ks) (summed setup n (log.log setup queue ks))
    tracked = tracks setup n h hh queue ks

    line_is : (observed setup n (log.log setup queue ks)).line ≡ line_of (log.run setup queue ks).connection
    line_is = ap (λ (a : Account). a.line) (observed_is setup hh queue ks n h)

    stands_as : (observed setup n (log.log setup queue ks)).seen ≡ holds (log.run setup queue ks) n
    stands_as = ap (λ (a : Account). a.seen) (observed_is setup hh queue ks n h)

    writes_here : WritesData (log.run setup queue ks) k n setup (decide (log.run setup queue ks).connection (log.run setup queue ks).queue k)
    writes_here =
        let s = log.run setup queue ks in
        let o = run_made setup hh queue ks in
        subst (λ (z : Setup). WritesData s k n z (decide s.connection s.queue k)) (same_setup setup s o)
        (writes_by s k n (decide s.connection s.queue k) (decide_good s (own_ok setup s o) k))

    takes_here : TakesData (log.run setup queue ks) k n setup (decide (log.run setup queue ks).connection (log.run setup queue ks).queue k)
    takes_here =
        let s = log.run setup queue ks in
        let o = run_made setup hh queue ks in
        subst (λ (z : Setup). TakesData s k n z (decide s.connection s.queue k)) (same_setup setup s o)
        (takes_by s k n (decide s.connection s.queue k) (decide_good s (own_ok setup s o) k))

    -- the totals, as the state holds the number
    out_here : OutFair (far_start (log.run setup queue ks).connection) (holds (log.run setup queue ks) n).standing (holds (log.run setup queue ks) n).sends
        (summed setup n (log.log setup queue ks)).totals.sending
    out_here =
        subst (λ (v : Seen). OutFair (far_start (log.run setup queue ks).connection) v.standing v.sends (summed setup n (log.log setup queue ks)).totals.sending)
        tracked.seen tracked.fair.out

    in_here : InFair (own_of setup) (holds (log.run setup queue ks) n).standing (holds (log.run setup queue ks) n).inbound (summed setup n (log.log setup queue ks)).totals.receiving
    in_here =
        subst (λ (v : Seen). InFair (own_of setup) v.standing v.inbound (summed setup n (log.log setup queue ks)).totals.receiving) tracked.seen tracked.fair.into

    flows_here : Flows (holds (log.run setup queue ks) n).sends (summed setup n (log.log setup queue ks)).totals.put (summed setup n (log.log setup queue ks)).totals.payloads
    flows_here =
        subst (λ (v : Seen). Flows v.sends (summed setup n (log.log setup queue ks)).totals.put (summed setup n (log.log setup queue ks)).totals.payloads) tracked.seen tracked.fair.flows

    -- one more entry
    flows_whole : (before after : List Output) (b close ack : Bool) (size : ℕ)
        → all_written setup.role (out (log.run setup queue ks) k).wrote ≡ before ++ (sent (msg.Data b close true ack n size) ∷ after)
        → (sum_after setup n (summed setup n (log.log setup queue ks)) (out (log.run setup queue ks) k)).totals.payloads
        ≡ (sum_after setup n (summed setup n (log.log setup queue ks)) (out (log.run setup queue ks) k)).totals.put
    unfolding sum_after fold
    flows_whole before after b close ack size =
        rw out_is
        (λ q. let s = log.run setup queue ks in
        let z = summed setup n (log.log setup queue ks) in
        let d = decide s.connection s.queue k in
        let p = drop 4 (out_by s k d).wrote in
        let w = writes_here before after b close true ack size q in
        let add : Totals → Event → Totals = add_up (own_of setup) (far_of z.line) p in
        ap (λ (es : List Event). (fold add z.totals es).payloads) w.0
        ∙ eof_flows setup.role (own_of setup) (far_start s.connection) p size b close ack (holds s n).sends z.totals.put z.totals.payloads w.1.bears flows_here
        ∙ sym (ap (λ (es : List Event). (fold add z.totals es).put) w.0))

  -- the facts about one entry
  record Counted (a : List Entry) (e : Entry) : Type 0 where
    written : (before after : List Output) (b close eof ack : Bool) (size : ℕ)
        → all_written setup.role e.wrote ≡ before ++ (sent (msg.Data b close eof ack n size) ∷ after)
        → Covers (far_of (observed setup n a).line) (summed setup n a).totals.sending size
    begun : (close eof ack late : Bool) (size : ℕ) → e.answer ≡ ok (message (msg.Data true close eof ack n size) late) → Covers (from_header setup.header) blank_ledger size
    taken : (close eof ack late : Bool) (size : ℕ) → e.answer ≡ ok (message (msg.Data false close eof ack n size) late)
        → late_of setup a (scope (msg.Data false close eof ack n size)) ≡ false → Covers (from_header setup.header) (summed setup n a).totals.receiving size
    whole : (before after : List Output) (b close ack : Bool) (size : ℕ)
        → all_written setup.role e.wrote ≡ before ++ (sent (msg.Data b close true ack n size) ∷ after)
        → (sum_after setup n (summed setup n a) e).totals.payloads ≡ (sum_after setup n (summed setup n a) e).totals.put

  counted_calls : (ks : List Call) (k : Call) → Counted (log.log setup queue ks) (out (log.run setup queue ks) k)
  counted_calls ks k =
      let s = log.run setup queue ks in
      let z = summed setup n (log.log setup queue ks) in
      let v = holds s n in
      let far = far_start s.connection in
      let p = drop 4 (out_by s k (decide s.connection s.queue k)).wrote in
      record {
        written =
            λ before after b close eof ack size q. subst (λ (r : Ration). Covers r z.totals.sending size) (sym (ap far_of (line_is ks k) ∙ start_told_lem s.connection.stage))
            (out_covers setup.role (own_of setup) far p b close eof ack size v.standing v.sends v.inbound z.totals.sending (writes_here ks k before after b close eof ack size (rw out_is at q)).1 (out_here ks k));
        begun = λ close eof ack late size q. open_covers setup.role (own_of setup) far p close eof ack size v (takes_here ks k true close eof ack late size (rw out_is at q));
        taken =
            λ close eof ack late size q l. in_covers setup.role (own_of setup) far p close eof ack size v.standing v.sends v.inbound z.totals.receiving
            (takes_here ks k false close eof ack late size (rw out_is at q)) (sym (ap (λ (y : Seen). late_for y.standing (data_of size false close eof ack)) (stands_as ks k)) ∙ l) (in_here ks k);
        whole = flows_whole ks k;
      }

  counted : (calls : List Call) (a c : List Entry) (e : Entry) → log.log setup queue calls ≡ a ++ (e ∷ c) → Counted a e
  counted calls a c e z = of_entries setup queue Counted counted_calls calls a c e z

  sum_last : (a : List Entry) (e : Entry) → summed setup n (a ++ (e ∷ [])) ≡ sum_after setup n (summed setup n a) e
  unfolding summed fold
  sum_last a e = go a (blank_sum setup)
    where
      go : (l : List Entry) (w : Sum) → fold (sum_after setup n) w (l ++ (e ∷ [])) ≡ sum_after setup n (fold (sum_after setup n) w l) e
      go [] w = refl
      go (x ∷ l) w = go l (sum_after setup n w x)

  -- for every role, header number, queue, list of calls and session number
  pub ration_ledger : (calls : List Call) → RationLedger setup queue calls n
  ration_ledger calls =
      let s = log.run setup queue calls in
      let z = summed setup n (log.log setup queue calls) in
      let w = tracks setup n h hh queue calls in
      let x = at s.connection n in
      let told = observed_is setup hh queue calls n h in
      let far = far_start s.connection in
      let stands : (observed setup n (log.log setup queue calls)).seen.standing ≡ ends_of (at (log.run setup queue calls).connection n).sides = ap (λ (a : Account). a.seen.standing) told in
      record {
        outbound =
            λ t e. subst (λ (r : Ration). Balanced r z.totals.sending x.outbound) (sym (ap (λ (a : Account). far_of a.line) told ∙ start_told_lem s.connection.stage))
            (out_balance (own_of setup) far x (slot n s.queue) z.totals w.seen w.fair (ap sends_on (sym stands ∙ e)));
        inbound = λ o q e. in_balance (own_of setup) far x (slot n s.queue) z.totals w.seen w.fair o q (sym stands ∙ e);
        written = λ a c e before after b close eof ack size l q. (counted calls a c e l).written before after b close eof ack size q;
        begun = λ a c e close eof ack late size l q. (counted calls a c e l).begun close eof ack late size q;
        taken = λ a c e close eof ack late size l q f. (counted calls a c e l).taken close eof ack late size q f;
      }

  pub put_stream : (calls : List Call) → PutStream setup queue calls n
  put_stream calls =
      let s = log.run setup queue calls in
      let z = summed setup n (log.log setup queue calls) in
      let w = tracks setup n h hh queue calls in
      let told = observed_is setup hh queue calls n h in
      record {
        kept =
            λ u bytes r end e. flow_kept (own_of setup) (far_start s.connection) (at s.connection n) (slot n s.queue) z.totals w.seen w.fair
            (ap sends_any (sym (ap (λ (a : Account). a.seen.sends) told) ∙ e));
        whole =
            λ a c e before after b close ack size l q. ap (λ (y : Sum). y.totals.payloads) (sum_last a e) ∙ (counted calls a c e l).whole before after b close ack size q
            ∙ sym (ap (λ (y : Sum). y.totals.put) (sum_last a e));
      }

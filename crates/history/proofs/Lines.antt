-- The calls that concern the connection as a whole keep what is observed: no session number sees anything happen.
use Rattle.std.specs.Prelude.{Option, Some}
use mathlib.Core.Path.{◌≡◌, refl, sym, ap, ◌∙◌, subst}
use mathlib.Core.Logic.{◌⊎◌, inl, inr}
use mathlib.Core.Bool.{Bool, true, false, not, false≢true, true≢false, and-false}
use mathlib.Core.List.{List, [], ◌∷◌, ◌++◌}
use Prim.Native.Nat.{ℕ, ◌≤◌, ◌<◌}
use native.Mathlib.Omega.{arith}
use lib.ListN.{length, take, drop}
use lib.Dec.{ltb}
use borrow.Author.Tests.{ltb-true, ltb-false}
use Rattle.laws.specs.Pick.{pick}
use Rattle.laws.specs.Result.{ok}
use Rattle.laws.specs.Runs.{fold, Every, gather}
use Rattle.laws.proofs.Tests.{true_false, and_both, not_false}
use Rattle.ration.specs.declared.Ration.{Ration}
use Rattle.wire.specs.declared.Role.{Role}
use Rattle.wire.specs.declared.Role.TheVariants as role
use Rattle.wire.specs.declared.Message.TheVariants as msg
use Rattle.wire.specs.FirstByte.{kind_of}
use Rattle.wire.specs.Message.{is_client, is_server, read_message, parse_header, typed, allowed}
use Rattle.wire.specs.Connection.{read_connection_header}
use Rattle.state.specs.declared.Sides.{Sides}
use Rattle.state.specs.declared.Sides.TheVariants as sides
use Rattle.state.specs.declared.Session.{Session}
use Rattle.state.specs.declared.Stage.{Stage}
use Rattle.state.specs.declared.Stage.TheVariants as stage
use Rattle.protocol.specs.Queue.{slot}
use Rattle.protocol.specs.Message.{ConnectionMessage, whole, scope}
use Rattle.protocol.specs.Connection.{own_shutdown, line_lost, at, role_of, exchanged, far_number, far_start, placed}
use Rattle.protocol.specs.Judge.{Report, done, Output, header_out, sent, Ending, goes_on, ends, Effect, accept, commit}
use Rattle.protocol.specs.Call.{start_rule, ping_rule, shutdown_rule, lost_rule, is_fresh}
use Rattle.protocol.specs.Result.{bytes_of_all}
use Rattle.protocol.specs.Observed.{Event, observe, Seen, is_ready}
use Rattle.protocol.proofs.Plans.{Takes}
use Rattle.protocol.specs.Asked.{is_unsent}
use Rattle.protocol.specs.Fate.{fate_of, fate_after}
use Rattle.protocol.proofs.Legal.{AllLegal}
use Rattle.protocol.proofs.Views.{greeting_of, greeted_is, sends_of, look, seen_path, Formed}
use Rattle.history.specs.Log.{Call, start, shutdown, lost, State}
use Rattle.history.specs.Log as log
use Rattle.history.proofs.Decisions.{queue_after, out_by}
use Rattle.history.specs.Written.{written_up_to, all_written}
use Rattle.history.specs.Account.{line_after, events, reported, reported_of, output_seen}
use Rattle.history.specs.Fates.{end_told}
use Rattle.history.specs.Meant.{ungreeted, meant_by, may_go}
use Rattle.history.proofs.InOrder.{Reads, in_order_lem, other_cookie, reads_seen, reads_data}
use Rattle.history.proofs.Good.{is_turn, Ok, Good, ended_as, setup_of, line_of, holds, account_of, own_of, far_by, one}
use Rattle.history.proofs.Written.{Sendable, sent_read_back, opening_read_back, nothing_read_back}
use Rattle.history.specs.Claims.{data_number, data_written}
use Rattle.laws.proofs.Runs.{still}

-- ---- what is written is for no session

-- a connection header, a message of the connection as a whole, or nothing
abbrev pub OfLine : List Output → Type 0
OfLine [] = Unit {0}
OfLine (header_out n ∷ []) = Unit {0}
OfLine (sent m ∷ []) = (w : ConnectionMessage) × (scope m ≡ whole w)
OfLine (o ∷ p ∷ outs) = ⊥

line_seen : (n : ℕ) (outs : List Output) → OfLine outs → gather (output_seen n) outs ≡ []
unfolding gather
line_seen n [] h = refl
line_seen n (header_out own ∷ []) h = refl
line_seen n (sent m ∷ []) h = rw h.1
line_seen n (o ∷ p ∷ outs) h = absurd h

line_data : (outs : List Output) → OfLine outs → gather data_number outs ≡ []
unfolding gather
line_data [] h = refl
line_data (header_out own ∷ []) h = refl
line_data (sent m ∷ []) h = rw h.1
line_data (o ∷ p ∷ outs) h = absurd h

line_single : (outs : List Output) → OfLine outs → length outs ≤ 1
line_single [] h = omega arith
line_single (header_out own ∷ []) h = omega arith
line_single (sent m ∷ []) h = omega arith
line_single (o ∷ p ∷ outs) h = absurd h

-- the bytes of a Ping are read as one Ping alone, whatever its cookie
ping_alone : (r : Role) (cookie : ℕ) → (told : ℕ) × (all_written r (bytes_of_all [] (sent (msg.Ping cookie) ∷ [])) ≡ sent (msg.Ping told) ∷ [])
unfolding bytes_of_all written_up_to read_message read_connection_header parse_header typed allowed kind_of pick
ping_alone r cookie = (_, refl)

ping_reads : (r : Role) (cookie : ℕ) (room : List ℕ) → Reads r (log.ping cookie room) (bytes_of_all [] (sent (msg.Ping cookie) ∷ [])) (sent (msg.Ping cookie) ∷ [])
ping_reads r cookie room = go (ltb cookie 65_536) refl
  where
    go : (b : Bool) → ltb cookie 65_536 ≡ b → Reads r (log.ping cookie room) (bytes_of_all [] (sent (msg.Ping cookie) ∷ [])) (sent (msg.Ping cookie) ∷ [])
    go true e =
        in_order_lem
        (sent_read_back r (msg.Ping cookie) []
        (record { shift = omega arith; session = omega arith; number = ltb-true _ _ e; sender = refl; flags = refl; body = omega arith }))
    go false e =
        let large : 65_536 ≤ cookie = ltb-false _ _ e in
        other_cookie cookie (ping_alone r cookie).0 (λ small. omega (arith, small cookie room refl)) refl (ping_alone r cookie).1

-- ---- before the headers are exchanged no number is used

idle_formed : {r : Role} {x : Session} (b : Bool) → Formed r false x → Formed r b x
idle_formed {r} {x} b f =
    record {
      outbound = f.outbound;
      inbound = f.inbound;
      waiting = f.waiting;
      none = f.none;
      finish = f.finish;
      place = go x.sides f.place;
      pair = f.pair;
    }
  where
    go : (z : Sides) → placed r false z ≡ true → placed r b z ≡ true
    go sides.Idle e = refl
    go (sides.Opening w) e = absurd (false≢true (sym (and-false (is_client r)) ∙ e))
    go (sides.Live o t) e = absurd (false≢true e)

idle_look : {r : Role} (x : Session) (s : List ℕ) (far far' : Ration) → Formed r false x → look far x s ≡ look far' x s
idle_look {r} x s far far' f = seen_path refl (go x.sides f.place) refl
  where
    go : (z : Sides) → placed r false z ≡ true → sends_of far z (take x.waiting s) x.outbound x.finish ≡ sends_of far' z (take x.waiting s) x.outbound x.finish
    go sides.Idle e = refl
    go (sides.Opening b) e = absurd (false≢true (sym (and-false (is_client r)) ∙ e))
    go (sides.Live o t) e = absurd (false≢true e)

module _ (s : State) (o : Ok (setup_of s.connection) s) where
  -- an effect that concerns no session
  abbrev line_effect : Stage → Option ℕ → Ending → Report → List Output → Effect
  line_effect st p en rep outs =
      record { number = 0; session = at s.connection 0; stage = st; last = s.connection.last; ping = p; ending = en; report = rep; outs = outs }

  pub stage_formed : (st : Stage) → (st ≡ s.connection.stage) ⊎ (exchanged s.connection.stage ≡ false) → (n : ℕ) → n < 128
      → Formed (role_of s.connection.stage) (exchanged st) (at s.connection n)
  stage_formed st (inl e) n h = subst (λ (z : Stage). Formed (role_of s.connection.stage) (exchanged z) (at s.connection n)) (sym e) (o.formed n h)
  stage_formed st (inr e) n h =
      idle_formed (exchanged st) (subst (λ (b : Bool). Formed (role_of s.connection.stage) b (at s.connection n)) e (o.formed n h))

  pub stage_look : (st : Stage) → (st ≡ s.connection.stage) ⊎ (exchanged s.connection.stage ≡ false) → (n : ℕ) → n < 128 → (sl : List ℕ)
      → look (far_by st) (at s.connection n) sl ≡ look (far_start s.connection) (at s.connection n) sl
  stage_look st (inl e) n h sl = ap (λ (z : Stage). look (far_by z) (at s.connection n) sl) e
  stage_look st (inr e) n h sl =
      idle_look (at s.connection n) sl (far_by st) (far_start s.connection)
      (subst (λ (b : Bool). Formed (role_of s.connection.stage) b (at s.connection n)) e (o.formed n h))

  pub line_good : (k : Call) (st : Stage) (p : Option ℕ) (en : Ending) (rep : Report) (outs : List Output) → is_turn k ≡ false
      → queue_after s.connection s.queue k (accept (line_effect st p en rep outs)) ≡ s.queue → role_of st ≡ role_of s.connection.stage → far_number st < 65_536
      → (st ≡ s.connection.stage) ⊎ (exchanged s.connection.stage ≡ false)
      → ((m : ℕ) → reported m k rep ≡ []) → OfLine outs
      → line_after (line_of s.connection) (out_by s k (accept (line_effect st p en rep outs))) ≡ line_of (commit s.connection (line_effect st p en rep outs))
      → s.connection.over ≡ false → reported_of k rep ≡ 0 → outs ≡ meant_by (setup_of s.connection) (account_of s 0) k (ok rep)
      → Reads (role_of s.connection.stage) k (out_by s k (accept (line_effect st p en rep outs))).wrote outs
      → Every (may_go (setup_of s.connection) (account_of s 0) (out_by s k (accept (line_effect st p en rep outs)))) outs
      → end_told k (ok rep) ≡ ended_as en → Good (setup_of s.connection) s k (line_effect st p en rep outs)
  unfolding fold
  line_good k st p en rep outs ht hq hr hf stages unsaid of_line line live concerns means reads allowed ended =
      record {
        inside = omega arith;
        last = o.last;
        role = hr;
        far = hf;
        stages = stages;
        formed = stage_formed st stages 0 (omega arith);
        fits = subst (λ (q : List ℕ). (at s.connection 0).waiting ≤ length (slot 0 q)) (sym hq) (o.fits 0 (omega arith));
        seen =
            ap (λ (q : List ℕ). look (far_by st) (at s.connection 0) (slot 0 q)) hq ∙ stage_look st stages 0 (omega arith) (slot 0 s.queue)
            ∙ ap (λ (es : List Event). fold (observe (own_of (setup_of s.connection)) (far_start s.connection)) (holds s 0) es) (sym (none 0));
        others = λ m _. none m;
        frame = λ m _ _. ap (slot m) hq;
        long = ap length hq;
        line = line;
        moves = still silent_line refl;
        by_turn = silent_line ∙ sym (ap (λ (b : Bool). one b 0) ht);
        lasts =
            λ hr _ _. ap (λ (q : List ℕ). is_ready (look (far_by st) (at s.connection 0) (slot 0 q)).sends) hq
            ∙ ap (λ (v : Seen). is_ready v.sends) (stage_look st stages 0 (omega arith) (slot 0 s.queue)) ∙ hr;
        fated = sym (ap (λ (es : List Event). fold (fate_after (is_unsent (holds s 0).sends)) (fate_of (at s.connection 0).outcome) es) (unsaid 0));
        ends_so = ended;
        end_alone = λ cause z. (refl, unsaid 0);
        unmoved = λ _. none 0;
        untold = λ z. absurd (true_false z ht);
        live = live;
        concerns = concerns;
        means = means;
        reads = reads;
        single = line_single outs of_line;
        allowed = allowed;
        legal =
            subst (λ (es : List Event). AllLegal (role_of s.connection.stage) (own_of (setup_of s.connection)) (far_start s.connection) (drop 4 (out_by s k (accept (line_effect st p en rep outs))).wrote) (holds s 0) es)
            (sym (none 0)) tt;
      }
    where
      r : Role
      r = role_of s.connection.stage

      bytes : List ℕ
      bytes = (out_by s k (accept (line_effect st p en rep outs))).wrote

      none : (m : ℕ) → events (role_of s.connection.stage) m (out_by s k (accept (line_effect st p en rep outs))) ≡ []
      none m =
          ap (λ (es : List Event). es ++ gather (output_seen m) (all_written r bytes)) (unsaid m) ∙ reads_seen r k bytes outs m reads ∙ line_seen m outs of_line

      silent_line : data_written (setup_of s.connection) (out_by s k (accept (line_effect st p en rep outs))) ≡ []
      silent_line = reads_data r k bytes outs reads ∙ line_data outs of_line

  client_is : (r : Role) → is_server r ≡ false → role.Client ≡ r
  client_is role.Client e = refl
  client_is role.Server e = absurd (true≢false e)

  server_is : (r : Role) → is_client r ≡ false → is_server r ≡ true
  server_is role.Client e = absurd (true≢false e)
  server_is role.Server e = refl

  fresh_not_up : (st : Stage) → is_fresh st ≡ true → exchanged st ≡ false
  fresh_not_up (stage.Fresh r) e = refl
  fresh_not_up stage.Started e = refl
  fresh_not_up (stage.Up r far) e = absurd (false≢true e)

  fresh_ungreeted : (st : Stage) → is_fresh st ≡ true → ungreeted (greeting_of st) ≡ true
  fresh_ungreeted (stage.Fresh r) e = refl
  fresh_ungreeted stage.Started e = e
  fresh_ungreeted (stage.Up r far) e = e

  pub start_good : (room : List ℕ) → Takes (Good (setup_of s.connection) s (start room)) (start_rule s.connection (length room))
  unfolding start_rule Every
  start_good room _ live _ server fresh =
      line_good (start room) stage.Started s.connection.ping goes_on done (header_out s.connection.own ∷ []) refl refl
      (client_is (role_of s.connection.stage) server) (omega arith) (inr (fresh_not_up s.connection.stage (not_false _ fresh)))
      (λ m. refl) tt refl live refl refl
      (in_order_lem (opening_read_back (role_of s.connection.stage) s.connection.own [] [] o.proper (nothing_read_back (role_of s.connection.stage) [])))
      (and_both (and_both (ap not live) (fresh_ungreeted s.connection.stage (not_false _ fresh))) (ap is_client (sym (client_is (role_of s.connection.stage) server))), tt) refl

  pub ping_good : (cookie : ℕ) (room : List ℕ)
      → Takes (Good (setup_of s.connection) s (log.ping cookie room)) (ping_rule s.connection cookie (length room))
  unfolding ping_rule Every
  ping_good cookie room _ live up _ _ =
      line_good (log.ping cookie room) s.connection.stage (Some cookie) goes_on done (sent (msg.Ping cookie) ∷ []) refl refl refl o.far (inl refl)
      (λ m. refl) (_, refl) refl live refl refl (ping_reads (role_of s.connection.stage) cookie room)
      (and_both (ap not live) (greeted_is s.connection.stage ∙ not_false (exchanged s.connection.stage) up), tt) refl

  pub shutdown_good : (room : List ℕ) → Takes (Good (setup_of s.connection) s (shutdown room)) (shutdown_rule s.connection (length room))
  unfolding shutdown_rule Every
  shutdown_good room _ live up _ client =
      let server = server_is (role_of s.connection.stage) client in
      let sendable : Sendable (role_of s.connection.stage) (msg.Shutdown 0) [] =
      record { shift = omega arith; session = omega arith; number = omega arith; sender = server; flags = refl; body = omega arith } in
      line_good (shutdown room) s.connection.stage s.connection.ping (ends own_shutdown) done (sent (msg.Shutdown 0) ∷ []) refl refl refl o.far (inl refl)
      (λ m. refl) (_, refl) refl live refl refl (in_order_lem (sent_read_back (role_of s.connection.stage) (msg.Shutdown 0) [] sendable))
      (and_both (ap not live) (and_both (greeted_is s.connection.stage ∙ not_false (exchanged s.connection.stage) up) server), tt) refl

  pub lost_good : Takes (Good (setup_of s.connection) s lost) (lost_rule s.connection)
  unfolding lost_rule Every
  lost_good _ live =
      line_good lost s.connection.stage s.connection.ping (ends line_lost) done [] refl refl refl o.far (inl refl)
      (λ m. refl) tt refl live refl refl (in_order_lem (nothing_read_back (role_of s.connection.stage) [])) tt refl

-- A call about one session does all that Good says, from the lemma about that session: what is written is read back as what is meant.
use mathlib.Core.Path.{◌≡◌, refl, sym, ap, ◌∙◌, subst}
use mathlib.Core.Logic.{inl}
use mathlib.Core.Bool.{Bool, true, false, not, ◌||◌, or-false}
use mathlib.Core.List.{List, [], ◌∷◌, ◌++◌, append-nil, map}
use native.Mathlib.Omega.{arith}
use Prim.Native.Nat.{ℕ, ◌≤◌, ◌<◌}
use lib.ListN.{length, drop}
use borrow.Author.Tests.{eq-eqb}
use Rattle.laws.specs.Result.{ok}
use Rattle.laws.specs.Runs.{fold, Every, gather}
use Rattle.laws.proofs.Runs.{Move, still, serves}
use Rattle.laws.proofs.Tests.{true_false, and_both}
use Rattle.ration.specs.declared.Ration.{Ration}
use Rattle.wire.specs.declared.Role.{Role}
use Rattle.state.specs.declared.Session.{Session}
use Rattle.state.specs.declared.Setup.{Setup}
use Rattle.protocol.specs.Queue.{slot}
use Rattle.protocol.specs.Message.{SessionMessage, data_of, increment_of, abort_of, close_of, acknowledgment_of, numbered}
use Rattle.protocol.specs.Receipt.{Taken}
use Rattle.protocol.specs.Connection.{Cause, at, far_start}
use Rattle.protocol.specs.Judge.{Report, Output, sent, goes_on, ends, accept, setting_session}
use Rattle.protocol.specs.Result.{bytes_of_all}
use Rattle.protocol.specs.Observed.{Event, observe, Sending, silent, sending, Seen, is_ready, lapses, any_lapse, start_told, may_write, from_role}
use Rattle.protocol.specs.Asked.{is_unsent}
use Rattle.protocol.specs.Fate.{fate_of, fate_after}
use Rattle.protocol.proofs.Views.{greeting_of, greeted_is, start_told_lem, look, Formed}
use Rattle.protocol.proofs.Sound.{AllLawful, Carries, writes, is_data, any_data}
use Rattle.protocol.proofs.Legal.{Bears, AllLegal}
use Rattle.history.specs.Log.{Call, State}
use Rattle.history.proofs.Decisions.{queue_after, payload_of, out_by}
use Rattle.history.specs.Written.{all_written}
use Rattle.history.specs.Account.{events, reported, reported_of, output_seen}
use Rattle.history.specs.Meant.{meant_for, meant_by, ReadInOrder, message_may_go, may_go}
use Rattle.history.specs.Claims.{data_number, data_written, has}
use Rattle.history.proofs.Good.{Ok, Good, ForSession, holds, account_of, own_of, ready_at, one}
use Rattle.history.proofs.InOrder.{in_order_lem, written_is}
use Rattle.history.proofs.Written.{numbered_read_back, nothing_read_back, sent_payload, scope_numbered, written_own, written_other}

module _ (r : Role) (own far : Ration) (x : Session) (sl : List ℕ) (h : List Event) (n : ℕ) (hn : n < 128) (payload : List ℕ) where
  reads_own : (ms : List SessionMessage) → AllLawful r own far x sl h payload ms
      → ReadInOrder r (bytes_of_all payload (map (λ m. sent (numbered n m)) ms)) (map (λ m. sent (numbered n m)) ms)
  reads_own [] l = nothing_read_back r payload
  reads_own (m ∷ []) l = numbered_read_back r n m payload hn l.ours l.fits l.body
  reads_own (m ∷ j ∷ ms) l = absurd l

  -- what is written for a session is read as those events, and as none of another number
  wrote_own : (ms : List SessionMessage) → AllLawful r own far x sl h payload ms
      → gather (output_seen n) (all_written r (bytes_of_all payload (map (λ m. sent (numbered n m)) ms))) ≡ writes ms
  unfolding gather
  wrote_own ms l = ap (gather (output_seen n)) (written_is r _ _ (reads_own ms l)) ∙ go ms
    where
      go : (ms : List SessionMessage) → gather (output_seen n) (map (λ m. sent (numbered n m)) ms) ≡ writes ms
      go [] = refl
      go (m ∷ ms) = rw (written_own n m, go ms)

  wrote_other : (i : ℕ) → (n ≡ i → ⊥) → (ms : List SessionMessage) → AllLawful r own far x sl h payload ms
      → gather (output_seen i) (all_written r (bytes_of_all payload (map (λ m. sent (numbered n m)) ms))) ≡ []
  unfolding gather
  wrote_other i d ms l = ap (gather (output_seen i)) (written_is r _ _ (reads_own ms l)) ∙ go ms
    where
      go : (ms : List SessionMessage) → gather (output_seen i) (map (λ m. sent (numbered n m)) ms) ≡ []
      go [] = refl
      go (m ∷ ms) = rw (written_other i n m d, go ms)

  -- and it is at most one message
  one_own : (ms : List SessionMessage) → AllLawful r own far x sl h payload ms → length (map (λ m. sent (numbered n m)) ms) ≤ 1
  one_own [] l = omega arith
  one_own (m ∷ []) l = omega arith
  one_own (m ∷ j ∷ ms) l = absurd l

  -- what follows the header is what the message carries
  bears : (m : SessionMessage) (v : Sending) → Carries payload v m → Bears (drop 4 (bytes_of_all payload (sent (numbered n m) ∷ []))) v m
  bears (data_of k b close eof ack) silent c = c
  bears (data_of k b close eof ack) (sending u w q f) c = (sent_payload (numbered n (data_of k b close eof ack)) payload ∙ c.0, c.1)
  bears (increment_of k) v c = tt
  bears (abort_of p) v c = tt
  bears close_of v c = tt
  bears acknowledgment_of v c = tt

  legal_written : (ms : List SessionMessage) → AllLawful r own far x sl h payload ms
      → AllLegal r own far (drop 4 (bytes_of_all payload (map (λ m. sent (numbered n m)) ms))) (fold (observe own far) (look far x sl) h) (writes ms)
  legal_written [] l = tt
  legal_written (m ∷ []) l =
      (record { now = l.now; ours = l.ours; bears = bears m (fold (observe own far) (look far x sl) h).sends l.carries }, tt)
  legal_written (m ∷ j ∷ ms) l = absurd l

legal_append : (r : Role) (own far : Ration) (p : List ℕ) (es ws : List Event) (v : Seen) → AllLegal r own far p v es → AllLegal r own far p (fold (observe own far) v es) ws
    → AllLegal r own far p v (es ++ ws)
unfolding fold
legal_append r own far p [] ws v a b = b
legal_append r own far p (e ∷ es) ws v a b = (a.0, legal_append r own far p es ws (observe own far v e) a.1 b)

data_of_numbered : (n : ℕ) (m : SessionMessage) → data_number (sent (numbered n m)) ≡ one (is_data m) n
data_of_numbered n (data_of k b c e a) = refl
data_of_numbered n (increment_of k) = refl
data_of_numbered n (abort_of p) = refl
data_of_numbered n close_of = refl
data_of_numbered n acknowledgment_of = refl

data_sent : (r : Role) (own far : Ration) (x : Session) (sl : List ℕ) (h : List Event) (n : ℕ) → n < 128 → (payload : List ℕ) (ms : List SessionMessage) (d : Bool)
    → AllLawful r own far x sl h payload ms → any_data ms ≡ d → gather data_number (all_written r (bytes_of_all payload (map (λ m. sent (numbered n m)) ms))) ≡ one d n
unfolding gather
data_sent r own far x sl h n hn payload ms d l e =
    ap (gather data_number) (written_is r _ _ (reads_own r own far x sl h n hn payload ms l)) ∙ go ms l ∙ ap (λ (b : Bool). one b n) e
  where
    go : (ms : List SessionMessage) → AllLawful r own far x sl h payload ms → gather data_number (map (λ m. sent (numbered n m)) ms) ≡ one (any_data ms) n
    go [] l = refl
    go (m ∷ []) l = append-nil (data_number (sent (numbered n m))) ∙ data_of_numbered n m ∙ ap (λ (b : Bool). one b n) (sym (or-false (is_data m)))
    go (m ∷ j ∷ ms) l = absurd l

lapse_first : (h k : List Event) → any_lapse (h ++ k) ≡ false → any_lapse h ≡ false
lapse_first [] k e = refl
lapse_first (a ∷ h) k e = go (lapses a) (lapse_first h k) e
  where
    go : (b : Bool) → (any_lapse (h ++ k) ≡ false → any_lapse h ≡ false) → (b || any_lapse (h ++ k)) ≡ false → (b || any_lapse h) ≡ false
    go true rest z = z
    go false rest z = rest z

pub own_has : (n : ℕ) → has n (n ∷ []) ≡ true
own_has n = ap (λ (b : Bool). b || false) (eq-eqb n n refl)

module _ (setup : Setup) (s : State) (k : Call) (n last : ℕ) (rep : Report) (h : List Event) (t : Taken) (o : Ok setup s) where
  written_data : (d : Bool) → ForSession setup s k n last rep h d t → data_written setup (out_by s k (accept (setting_session s.connection n last rep t))) ≡ one d n
  written_data d g =
      data_sent setup.role (own_of setup) (far_start s.connection) (at s.connection n) (slot n s.queue) h n g.inside
      (payload_of s.queue k (accept (setting_session s.connection n last rep t))) t.sent d g.sound.lawful g.sound.sends_data

  moved : (d : Bool) → ForSession setup s k n last rep h d t
      → Move (ready_at s) s.connection.last last (data_written setup (out_by s k (accept (setting_session s.connection n last rep t))))
  moved true g = serves n (written_data true g) g.mark.0 g.inside g.mark.1
  moved false g = still (written_data false g) g.mark

  lasting : (d : Bool) (g : ForSession setup s k n last rep h d t) (es : List Event) → es ≡ h ++ writes t.sent → ready_at s n ≡ true → any_lapse es ≡ false
      → has n (data_written setup (out_by s k (accept (setting_session s.connection n last rep t)))) ≡ false
      → is_ready (look (far_start s.connection) t.session (slot n (queue_after s.connection s.queue k (accept (setting_session s.connection n last rep t))))).sends ≡ true
  lasting true g es e hr hl hd = absurd (true_false (own_has n) (sym (ap (has n) (written_data true g)) ∙ hd))
  lasting false g es e hr hl hd = g.sound.lasts hr (lapse_first h (writes t.sent) (sym (ap any_lapse e) ∙ hl)) g.sound.sends_data

  -- what is written is what is meant, is read back, and may be written then
  wrote_means : (d : Bool) → ForSession setup s k n last rep h d t → map (λ m. sent (numbered n m)) t.sent ≡ meant_by setup (account_of s n) k (ok rep)
  wrote_means d g =
      ap (λ (ms : List SessionMessage). map (λ m. sent (numbered n m)) ms) g.sends
      ∙ sym (ap (λ (i : ℕ). map (λ m. sent (numbered i m)) (meant_for setup.role k rep (holds s n))) g.concerns)
      ∙ sym (ap (λ (os : List Output). os ++ map (λ m. sent (numbered (reported_of k rep) m)) (meant_for setup.role k rep (holds s n))) g.quiet)

  -- every message that is written may be sent then
  may_own : (d : Bool) → ForSession setup s k n last rep h d t → (m : SessionMessage)
      → may_write setup.role (far_start s.connection) (fold (observe (own_of setup) (far_start s.connection)) (holds s n) h) m ≡ true → from_role setup.role m ≡ true
      → may_go setup (account_of s n) (out_by s k (accept (setting_session s.connection n last rep t))) (sent (numbered n m)) ≡ true
  may_own d g m now ours =
      let e = out_by s k (accept (setting_session s.connection n last rep t)) in
      let same : reported (reported_of k rep) k rep ≡ h = ap (λ (i : ℕ). reported i k rep) g.concerns ∙ g.told in
      let far : start_told (greeting_of s.connection.stage) ≡ far_start s.connection = start_told_lem s.connection.stage in
      let here : may_write setup.role (start_told (greeting_of s.connection.stage)) (fold (observe (own_of setup) (start_told (greeting_of s.connection.stage))) (holds s n) (reported (reported_of k rep) k rep)) m ≡ true =
      ap (λ (q : Ration). may_write setup.role q (fold (observe (own_of setup) q) (holds s n) (reported (reported_of k rep) k rep)) m) far
      ∙ ap (λ (es : List Event). may_write setup.role (far_start s.connection) (fold (observe (own_of setup) (far_start s.connection)) (holds s n) es) m) same ∙ now in
      and_both (ap not g.live)
      (ap (message_may_go setup (account_of s n) e) (scope_numbered n m)
      ∙ and_both (and_both (and_both (eq-eqb n (reported_of k rep) (sym g.concerns)) (greeted_is s.connection.stage ∙ g.up)) ours) here)

  allows_own : (d : Bool) → ForSession setup s k n last rep h d t → (payload : List ℕ) (ms : List SessionMessage)
      → AllLawful setup.role (own_of setup) (far_start s.connection) (at s.connection n) (slot n s.queue) h payload ms
      → Every (may_go setup (account_of s n) (out_by s k (accept (setting_session s.connection n last rep t)))) (map (λ m. sent (numbered n m)) ms)
  unfolding Every
  allows_own d g payload [] l = tt
  allows_own d g payload (m ∷ []) l = (may_own d g m l.now l.ours, tt)
  allows_own d g payload (m ∷ j ∷ ms) l = absurd l

pub session_good : (setup : Setup) (s : State) (k : Call) (n last : ℕ) (rep : Report) (h : List Event) (d : Bool) (t : Taken) → Ok setup s
    → ForSession setup s k n last rep h d t → Good setup s k (setting_session s.connection n last rep t)
session_good setup s k n last rep h d t o g =
    let e = setting_session s.connection n last rep t in
    let x = at s.connection n in
    let sl = slot n s.queue in
    let far = far_start s.connection in
    let payload = payload_of s.queue k (accept e) in
    let own-events =
    wrote_own setup.role (own_of setup) far x sl h n g.inside payload t.sent g.sound.lawful in
    record {
      inside = g.inside;
      last = g.last_inside;
      role = o.role;
      far = o.far;
      stages = inl refl;
      formed = subst (λ (b : Bool). Formed setup.role b t.session) (sym g.up) g.sound.formed;
      fits = g.sound.room (o.fits n g.inside);
      seen =
          g.sound.seen
          ∙ ap (λ (es : List Event). fold (observe (own_of setup) far) (look far x sl) es) (sym (append_path g.told own-events));
      others =
          λ m d. append_path (g.not_told m d)
          (wrote_other setup.role (own_of setup) far x sl h n g.inside payload m d t.sent g.sound.lawful);
      frame = g.frame;
      long = g.long;
      line = g.line;
      moves = moved setup s k n last rep h t o d g;
      by_turn = written_data setup s k n last rep h t o d g ∙ ap (λ (b : Bool). one b n) g.turns;
      fated = g.fated ∙ ap (λ (es : List Event). fold (fate_after (is_unsent (holds s n).sends)) (fate_of x.outcome) es) (sym g.told);
      ends_so = g.goes_on;
      end_alone = λ cause z. absurd (goes_ends z);
      unmoved = λ z. absurd (true_false g.up z);
      untold = λ z. g.told ∙ g.untold z;
      live = g.live;
      concerns = g.concerns;
      means = wrote_means setup s k n last rep h t o d g;
      reads = in_order_lem (reads_own setup.role (own_of setup) far x sl h n g.inside payload t.sent g.sound.lawful);
      single = one_own setup.role (own_of setup) far x sl h n g.inside payload t.sent g.sound.lawful;
      allowed = allows_own setup s k n last rep h t o d g payload t.sent g.sound.lawful;
      legal =
          subst (λ (es : List Event). AllLegal setup.role (own_of setup) far (drop 4 (out_by s k (accept e)).wrote) (holds s n) es)
          (sym (append_path g.told own-events))
          (legal_append setup.role (own_of setup) far (drop 4 (out_by s k (accept e)).wrote) h (writes t.sent) (holds s n) (g.heard (drop 4 (out_by s k (accept e)).wrote))
          (legal_written setup.role (own_of setup) far x sl h n g.inside payload t.sent g.sound.lawful));
      lasts = lasting setup s k n last rep h t o d g (events setup.role n (out_by s k (accept e))) (append_path g.told own-events);
    }
  where
    goes_ends : {cause : Cause} → goes_on ≡ ends cause → ⊥
    goes_ends z = let w : ◌≡◌ {A = ℕ} 0 1 = cc in omega arith

    append_path : {a b c d : List Event} → a ≡ b → c ≡ d → a ++ c ≡ b ++ d
    append_path p q = rw (p, q)

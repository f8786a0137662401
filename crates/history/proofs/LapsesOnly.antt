-- An entry is a lapse of a number's wait exactly in the ways that are named: for every entry, whether a run has it or not.
use mathlib.Core.Path.{◌≡◌, refl, sym, ap, subst, ◌∙◌}
use mathlib.Core.Logic.{◌↔◌}
use mathlib.Core.Bool.{Bool, true, false, ◌||◌, false≢true}
use mathlib.Core.List.{List, [], ◌∷◌, ◌++◌}
use Prim.Native.Nat.{ℕ}
use lib.Dec.{eqb}
use borrow.Author.Tests.{eqb-true}
use Rattle.laws.specs.Pick.{pick}
use Rattle.laws.specs.Result.{Result, ok, refused, violation}
use Rattle.laws.specs.Runs.{gather}
use Rattle.wire.specs.declared.Message.{Message}
use Rattle.wire.specs.declared.Message.TheVariants as msg
use Rattle.state.specs.declared.Setup.{Setup}
use Rattle.protocol.specs.Message.{data_of, abort_of, close_of, Scope, whole, of_session, scope}
use Rattle.protocol.specs.Judge.{Report, done, served, header_received, message, Output, header_out, sent}
use Rattle.protocol.specs.Observed.{Event, opens, finishes, aborts, puts, received, wrote, lapses, any_lapse}
use Rattle.history.specs.Log.{Call, start, open_session, put, finish, turn, grant, abort, close, shutdown, lost, receive, Entry}
use Rattle.history.specs.Log as log
use Rattle.history.specs.Meaning.{only}
use Rattle.history.specs.Account.{in_scope, output_seen, events_by_answer, line_by_answer, blank_account}
use Rattle.history.specs.Written.{all_written}
use Rattle.history.specs.Claims.{lapse}
use Rattle.history.proofs.Written.{only_own}
use Rattle.history.specs.Lapsed.{Lapsed, own_abort_lapses, abort_lapses, close_lapses, close_flag_lapses, lost_line_lapses, own_shutdown_lapses, shutdown_lapses, error_lapses, violation_lapses}

any_append : (a b : List Event) → any_lapse (a ++ b) ≡ (any_lapse a || any_lapse b)
any_append [] b = refl
any_append (x ∷ a) b = go (lapses x) (any_append a b)
  where
    go : (c : Bool) → any_lapse (a ++ b) ≡ (any_lapse a || any_lapse b) → (c || any_lapse (a ++ b)) ≡ ((c || any_lapse a) || any_lapse b)
    go true e = refl
    go false e = e

-- an event by which a wait does not lapse
only_quiet : (n i : ℕ) (x : Event) → lapses x ≡ false → any_lapse (only n i x) ≡ false
unfolding pick
only_quiet n i x e = go (eqb i n)
  where
    go : (b : Bool) → any_lapse (pick b (x ∷ []) []) ≡ false
    go true = ap (λ (c : Bool). c || false) e
    go false = refl

-- nothing that is written is a lapse
output_quiet : (n : ℕ) (o : Output) → any_lapse (output_seen n o) ≡ false
output_quiet n (header_out own) = refl
output_quiet n (sent m) = go (scope m)
  where
    go : (z : Scope) → any_lapse (in_scope n wrote z) ≡ false
    go (whole w) = refl
    go (of_session i x) = only_quiet n i (wrote x) refl

outputs_quiet : (n : ℕ) (outs : List Output) → any_lapse (gather (output_seen n) outs) ≡ false
unfolding gather
outputs_quiet n [] = refl
outputs_quiet n (o ∷ os) = any_append (output_seen n o) (gather (output_seen n) os) ∙ rw (output_quiet n o) (outputs_quiet n os)

over : (es : List Event) → (any_lapse es || true) ≡ true
over es = or_true (any_lapse es)
  where
    or_true : (b : Bool) → (b || true) ≡ true
    or_true true = refl
    or_true false = refl

module _ (s : Setup) (n : ℕ) (e : Entry) where
  abbrev seen : List Event
  seen = gather (output_seen n) (all_written s.role e.wrote)

  -- what is told is not a lapse, and so nothing is
  none : {A : Type 0} (es : List Event) → any_lapse es ≡ false → (any_lapse (es ++ seen) || false) ≡ true → A
  none es q h =
      let quiet : any_lapse (es ++ seen) ≡ false = any_append es seen ∙ rw q (outputs_quiet n (all_written s.role e.wrote)) in
      absurd (false≢true (sym (ap (λ (b : Bool). b || false) quiet) ∙ h))

  -- what is told of the number itself
  own : {A : Type 0} (i : ℕ) (x : Event) → (i ≡ n → A) → (any_lapse (only n i x ++ seen) || false) ≡ true → A
  unfolding pick
  own {A = A} i x f h = go (eqb i n) refl h
    where
      go : (b : Bool) → eqb i n ≡ b → (any_lapse (pick b (x ∷ []) [] ++ seen) || false) ≡ true → A
      go true q z = f (eqb-true i n q)
      go false q z = none [] refl z

  by_call : (k : Call) → e.call ≡ k → e.answer ≡ ok done
      → (any_lapse (events_by_answer s.role n k e.wrote (ok done)) || (line_by_answer (blank_account s).line k (ok done)).over) ≡ true → Lapsed n e
  by_call (start room) p q h = none [] refl h
  by_call (open_session i) p q h = none (only n i opens) (only_quiet n i opens refl) h
  by_call (put i bytes) p q h = none (only n i (puts bytes)) (only_quiet n i (puts bytes) refl) h
  by_call (finish i) p q h = none (only n i finishes) (only_quiet n i finishes refl) h
  by_call (turn room) p q h = none [] refl h
  by_call (grant i amount room) p q h = none [] refl h
  by_call (abort i partial room) p q h = own i aborts (λ z. own_abort_lapses partial room (p ∙ ap (λ (j : ℕ). abort j partial room) z) q) h
  by_call (close i room) p q h = none [] refl h
  by_call (log.ping cookie room) p q h = none [] refl h
  by_call (shutdown room) p q h = own_shutdown_lapses room p q
  by_call lost p q h = lost_line_lapses p q
  by_call (receive input room) p q h = none [] refl h

  by_message : (k : Call) (m : Message) (late : Bool) → e.answer ≡ ok (message m late)
      → (any_lapse (events_by_answer s.role n k e.wrote (ok (message m late))) || (line_by_answer (blank_account s).line k (ok (message m late))).over) ≡ true → Lapsed n e
  by_message k (msg.NoOperation d) late q h = none [] refl h
  by_message k (msg.Shutdown d) late q h = shutdown_lapses late d q
  by_message k (msg.Ping c) late q h = none [] refl h
  by_message k (msg.PingAck c) late q h = none [] refl h
  by_message k (msg.Error d) late q h = error_lapses late d q
  by_message k (msg.IncrementRation t i a) late q h = none (only n i _) (only_quiet n i _ refl) h
  by_message k (msg.Abort partial i d) late q h = own i _ (λ z. abort_lapses partial late d (q ∙ ap (λ (j : ℕ). ok (message (msg.Abort partial j d) late)) z)) h
  by_message k (msg.Close i) late q h = own i _ (λ z. close_lapses late (q ∙ ap (λ (j : ℕ). ok (message (msg.Close j) late)) z)) h
  by_message k (msg.Acknowledgment i) late q h = none (only n i _) (only_quiet n i _ refl) h
  by_message k (msg.Data begins true eof ack i size) late q h =
      own i _ (λ z. close_flag_lapses begins eof ack late size (q ∙ ap (λ (j : ℕ). ok (message (msg.Data begins true eof ack j size) late)) z)) h
  by_message k (msg.Data begins false eof ack i size) late q h = none (only n i _) (only_quiet n i _ refl) h

  by_answer : (k : Call) (a : Result Report) → e.call ≡ k → e.answer ≡ a
      → (any_lapse (events_by_answer s.role n k e.wrote a) || (line_by_answer (blank_account s).line k a).over) ≡ true → Lapsed n e
  by_answer k (ok done) p q h = by_call k p q h
  by_answer k (ok (served i)) p q h = none [] refl h
  by_answer k (ok (header_received far)) p q h = none [] refl h
  by_answer k (ok (message m late)) p q h = by_message k m late q h
  by_answer k (refused j) p q h = absurd (false≢true h)
  by_answer k (violation f) p q h = violation_lapses f q

  lapses_so : lapse s n e ≡ true → Lapsed n e
  lapses_so h = by_answer e.call e.answer refl refl h

  -- what an entry of a call and an answer is
  abbrev Is : Call → Result Report → Type 0
  Is k a = (any_lapse (events_by_answer s.role n k e.wrote a) || (line_by_answer (blank_account s).line k a).over) ≡ true

  -- what is told of the number itself is a lapse
  first : (x : Event) → lapses x ≡ true → (any_lapse (only n n x ++ seen) || false) ≡ true
  first x q =
      ap (λ (es : List Event). any_lapse (es ++ seen) || false) (only_own n x)
      ∙ ap (λ (b : Bool). (b || any_lapse seen) || false) q

  is_lapse : Lapsed n e → lapse s n e ≡ true
  is_lapse (own_abort_lapses partial room p q) = subst (λ (k : Call). Is k e.answer) (sym p) (subst (Is (abort n partial room)) (sym q) (first aborts refl))
  is_lapse (abort_lapses partial late detail q) = subst (Is e.call) (sym q) (first (received (abort_of partial)) refl)
  is_lapse (close_lapses late q) = subst (Is e.call) (sym q) (first (received close_of) refl)
  is_lapse (close_flag_lapses begins eof ack late size q) = subst (Is e.call) (sym q) (first (received (data_of size begins true eof ack)) refl)
  is_lapse (lost_line_lapses p q) = subst (λ (k : Call). Is k e.answer) (sym p) (subst (Is lost) (sym q) (over seen))
  is_lapse (own_shutdown_lapses room p q) = subst (λ (k : Call). Is k e.answer) (sym p) (subst (Is (shutdown room)) (sym q) (over seen))
  is_lapse (shutdown_lapses late detail q) = subst (Is e.call) (sym q) (over seen)
  is_lapse (error_lapses late detail q) = subst (Is e.call) (sym q) (over seen)
  is_lapse (violation_lapses f q) = subst (Is e.call) (sym q) refl

  pub lapse_only : (lapse s n e ≡ true) ↔ Lapsed n e
  lapse_only = (lapses_so, is_lapse)

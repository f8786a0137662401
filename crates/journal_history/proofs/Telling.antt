-- What one entry of a log tells of a number: whether its open is unsent, and its fate, before it is used anew and as it is.
use mathlib.Core.Path.{◌≡◌, refl, sym, ap, subst, ◌∙◌}
use mathlib.Core.Bool.{Bool, true, false, ◌||◌}
use mathlib.Core.List.{List, [], ◌∷◌, ◌++◌}
use Prim.Native.Nat.{ℕ}
use native.Mathlib.Omega.{arith}
use lib.Dec.{eqb}
use borrow.Author.Tests.{eq-eqb}
use Rattle.laws.specs.Pick.{pick}
use Rattle.laws.specs.Result.{Result, ok, refused, violation}
use Rattle.laws.specs.Runs.{fold, gather}
use Rattle.laws.proofs.Pick.{yes}
use Rattle.laws.proofs.Tests.{or_first, or_second, true_false}
use Rattle.ration.specs.declared.Ration.{Ration}
use Rattle.wire.specs.declared.Role.{Role}
use Rattle.wire.specs.declared.Message.{Message}
use Rattle.protocol.specs.Message.{SessionMessage, data_of, increment_of, abort_of, close_of, acknowledgment_of, Scope, whole, of_session, scope}
use Rattle.protocol.specs.Judge.{Report, done, served, header_received, message, Output, header_out, sent}
use Rattle.protocol.specs.Observed.{Event, opens, finishes, aborts, puts, received, wrote, Sending, silent, sending, sends_after, Seen}
use Rattle.protocol.specs.Asked.{is_unsent}
use Rattle.protocol.specs.Fate.{Fate, no_fate, running, complete, may_be_retried, must_not_be_retried, fate_after, if_running, by_partial, unless_unsent, far_finished, Ended, not_ended, by_shutdown, by_error, by_own_shutdown, by_lost_line, fate_ended}
use Rattle.history.specs.Log.{Call, start, open_session, put, finish, turn, grant, abort, close, ping, shutdown, lost, receive}
use Rattle.history.specs.Meaning.{meaning, only}
use Rattle.history.specs.Account.{in_scope, reported, output_seen, told_by, events_by_answer}
use Rattle.history.specs.Written.{all_written, written_up_to}
use Rattle.history.specs.Fates.{end_told, ended_by_message}
use Rattle.history.specs.Claims.{data_number, data_in}
use Rattle.journal_history.specs.Sessions.{begins_new, any_begins, is_known}

-- ---- an event that does not begin a session

abbrev pub has_fate : Fate → Bool
has_fate no_fate = false
has_fate running = true
has_fate complete = true
has_fate may_be_retried = true
has_fate must_not_be_retried = true

module _ (far : Ration) where
  sends_one : (v : Sending) (x : Event) → begins_new x ≡ false → is_unsent v ≡ false → is_unsent (sends_after far v x) ≡ false
  sends_one v opens h u = absurd (true_false refl h)
  sends_one silent finishes h u = refl
  sends_one (sending a b r d) finishes h u = u
  sends_one v aborts h u = refl
  sends_one silent (puts bytes) h u = refl
  sends_one (sending a b r d) (puts bytes) h u = u
  sends_one v (received (data_of n true c eof ack)) h u = refl
  sends_one v (received (data_of n false c eof ack)) h u = u
  sends_one silent (received (increment_of n)) h u = refl
  sends_one (sending a b r d) (received (increment_of n)) h u = u
  sends_one v (received (abort_of partial)) h u = u
  sends_one v (received close_of) h u = u
  sends_one v (received acknowledgment_of) h u = u
  sends_one silent (wrote (data_of n begin c eof ack)) h u = refl
  sends_one (sending a b r d) (wrote (data_of n begin c true ack)) h u = refl
  sends_one (sending a b r d) (wrote (data_of n begin c false ack)) h u = refl
  sends_one v (wrote (increment_of n)) h u = u
  sends_one v (wrote (abort_of partial)) h u = refl
  sends_one v (wrote close_of) h u = u
  sends_one v (wrote acknowledgment_of) h u = u

  sends_all : (v : Sending) (xs : List Event) → any_begins xs ≡ false → is_unsent v ≡ false → is_unsent (fold (sends_after far) v xs) ≡ false
  unfolding fold
  sends_all v [] h u = u
  sends_all v (x ∷ xs) h u = sends_all (sends_after far v x) xs (or_second (begins_new x) (any_begins xs) h) (sends_one v x (or_first (begins_new x) (any_begins xs) h) u)

-- only a running fate changes

known_if : (f g : Fate) → is_known f ≡ true → if_running f g ≡ f
known_if no_fate g k = refl
known_if running g k = absurd (true_false k refl)
known_if complete g k = refl
known_if may_be_retried g k = refl
known_if must_not_be_retried g k = refl

has_if : (f g : Fate) → has_fate g ≡ true → has_fate f ≡ true → has_fate (if_running f g) ≡ true
has_if no_fate g a h = h
has_if running g a h = a
has_if complete g a h = refl
has_if may_be_retried g a h = refl
has_if must_not_be_retried g a h = refl

partial_fate : (p : Bool) → has_fate (by_partial p) ≡ true
partial_fate true = refl
partial_fate false = refl

unsent_fate : (b : Bool) → has_fate (unless_unsent b) ≡ true
unsent_fate true = refl
unsent_fate false = refl

module _ (u : Bool) where
  known_one : (f : Fate) (x : Event) → begins_new x ≡ false → is_known f ≡ true → fate_after u f x ≡ f
  known_one f opens h k = absurd (true_false refl h)
  known_one f finishes h k = refl
  known_one f aborts h k = known_if f (unless_unsent u) k
  known_one f (puts bytes) h k = refl
  known_one f (received (data_of n true c eof ack)) h k = absurd (true_false refl h)
  known_one f (received (data_of n false true eof ack)) h k = known_if f complete k
  known_one f (received (data_of n false false eof ack)) h k = refl
  known_one f (received (increment_of n)) h k = refl
  known_one f (received (abort_of partial)) h k = known_if f (by_partial partial) k
  known_one f (received close_of) h k = known_if f complete k
  known_one f (received acknowledgment_of) h k = refl
  known_one f (wrote m) h k = refl

  known_all : (f : Fate) (xs : List Event) → any_begins xs ≡ false → is_known f ≡ true → fold (fate_after u) f xs ≡ f
  unfolding fold
  known_all f [] h k = refl
  known_all f (x ∷ xs) h k =
      ap (λ (g : Fate). fold (fate_after u) g xs) (known_one f x (or_first (begins_new x) (any_begins xs) h) k)
      ∙ known_all f xs (or_second (begins_new x) (any_begins xs) h) k

  has_one : (f : Fate) (x : Event) → begins_new x ≡ false → has_fate f ≡ true → has_fate (fate_after u f x) ≡ true
  has_one f opens h a = refl
  has_one f finishes h a = a
  has_one f aborts h a = has_if f (unless_unsent u) (unsent_fate u) a
  has_one f (puts bytes) h a = a
  has_one f (received (data_of n true c eof ack)) h a = absurd (true_false refl h)
  has_one f (received (data_of n false true eof ack)) h a = has_if f complete refl a
  has_one f (received (data_of n false false eof ack)) h a = a
  has_one f (received (increment_of n)) h a = a
  has_one f (received (abort_of partial)) h a = has_if f (by_partial partial) (partial_fate partial) a
  has_one f (received close_of) h a = has_if f complete refl a
  has_one f (received acknowledgment_of) h a = a
  has_one f (wrote m) h a = a

  has_all : (f : Fate) (xs : List Event) → any_begins xs ≡ false → has_fate f ≡ true → has_fate (fold (fate_after u) f xs) ≡ true
  unfolding fold
  has_all f [] h a = a
  has_all f (x ∷ xs) h a =
      has_all (fate_after u f x) xs (or_second (begins_new x) (any_begins xs) h) (has_one f x (or_first (begins_new x) (any_begins xs) h) a)

-- ---- the end of the connection

known_ended : (v : Seen) (w : Ended) (f : Fate) → is_known f ≡ true → fate_ended v w f ≡ f
known_ended v not_ended f k = refl
known_ended v by_shutdown f k = known_if f may_be_retried k
known_ended v by_error f k = known_if f (pick (far_finished v.standing) complete (unless_unsent (is_unsent v.sends))) k
known_ended v by_own_shutdown f k = refl
known_ended v by_lost_line f k = known_if f (unless_unsent (is_unsent v.sends)) k

has_ended : (v : Seen) (w : Ended) (f : Fate) → has_fate f ≡ true → has_fate (fate_ended v w f) ≡ true
unfolding pick
has_ended v not_ended f a = a
has_ended v by_shutdown f a = has_if f may_be_retried refl a
has_ended v by_error f a = has_if f (pick (far_finished v.standing) complete (unless_unsent (is_unsent v.sends))) (go (far_finished v.standing)) a
  where
    go : (b : Bool) → has_fate (pick b complete (unless_unsent (is_unsent v.sends))) ≡ true
    go true = refl
    go false = unsent_fate (is_unsent v.sends)
has_ended v by_own_shutdown f a = a
has_ended v by_lost_line f a = has_if f (unless_unsent (is_unsent v.sends)) (unsent_fate (is_unsent v.sends)) a

-- ---- what is written begins no session

new_append : (a b : List Event) → any_begins b ≡ false → any_begins a ≡ false → any_begins (a ++ b) ≡ false
new_append [] b q p = q
new_append (x ∷ a) b q p = go (begins_new x) (or_first (begins_new x) (any_begins a) p) (new_append a b q (or_second (begins_new x) (any_begins a) p))
  where
    go : (c : Bool) → c ≡ false → any_begins (a ++ b) ≡ false → (c || any_begins (a ++ b)) ≡ false
    go true e r = e
    go false e r = r

only_old : (n i : ℕ) (x : Event) → begins_new x ≡ false → any_begins (only n i x) ≡ false
unfolding pick
only_old n i x e = go (eqb i n)
  where
    go : (b : Bool) → any_begins (pick b (x ∷ []) []) ≡ false
    go true = ap (λ (c : Bool). c || false) e
    go false = refl

output_old : (n : ℕ) (o : Output) → any_begins (output_seen n o) ≡ false
output_old n (header_out own) = refl
output_old n (sent m) = go (scope m)
  where
    go : (z : Scope) → any_begins (in_scope n wrote z) ≡ false
    go (whole w) = refl
    go (of_session i x) = only_old n i (wrote x) refl

outputs_old : (n : ℕ) (outs : List Output) → any_begins (gather (output_seen n) outs) ≡ false
unfolding gather
outputs_old n [] = refl
outputs_old n (o ∷ os) = new_append (output_seen n o) (gather (output_seen n) os) (outputs_old n os) (output_old n o)

-- ---- a whole entry

module _ (far : Ration) (r : Role) (n : ℕ) (k : Call) (bytes : List ℕ) where
  abbrev sends_by : Sending → Result Report → Sending
  sends_by v a = fold (sends_after far) v (events_by_answer r n k bytes a)

  pub sent_stays : (a : Result Report) (v : Sending) → any_begins (told_by n k a) ≡ false → is_unsent v ≡ false → is_unsent (sends_by v a) ≡ false
  unfolding fold
  sent_stays (ok p) v h u =
      sends_all far v (reported n k p ++ gather (output_seen n) (all_written r bytes))
      (new_append (reported n k p) (gather (output_seen n) (all_written r bytes)) (outputs_old n (all_written r bytes)) h) u
  sent_stays (refused j) v h u = u
  sent_stays (violation f) v h u = u

module _ (n : ℕ) (k : Call) (a : Result Report) (v : Seen) where
  abbrev pub fate_by : Fate → Fate
  fate_by f = fate_ended v (end_told k a) (fold (fate_after (is_unsent v.sends)) f (told_by n k a))

  pub known_stays : (f : Fate) → any_begins (told_by n k a) ≡ false → is_known f ≡ true → fate_by f ≡ f
  known_stays f h q =
      let e : fold (fate_after (is_unsent v.sends)) f (told_by n k a) ≡ f = known_all (is_unsent v.sends) f (told_by n k a) h q in
      ap (fate_ended v (end_told k a)) e ∙ known_ended v (end_told k a) f q

  pub fate_stays : (f : Fate) → any_begins (told_by n k a) ≡ false → has_fate f ≡ true → has_fate (fate_by f) ≡ true
  fate_stays f h q = has_ended v (end_told k a) (fold (fate_after (is_unsent v.sends)) f (told_by n k a)) (has_all (is_unsent v.sends) f (told_by n k a) h q)

-- ---- an entry that makes a number's session a new one

-- an open that is taken writes nothing and stays unsent, with a running fate; an open Data message that is taken leaves no fate
pub data Renewed (f : Fate) (v : Sending) : Type 0 where
  by_open : f ≡ running → is_unsent v ≡ true → Renewed f v
  by_data : f ≡ no_fate → is_unsent v ≡ false → Renewed f v

module _ (far : Ration) (r : Role) (n : ℕ) (v : Seen) (f : Fate) where
  opened : (i : ℕ) → any_begins (only n i opens) ≡ true
      → Renewed (fold (fate_after (is_unsent v.sends)) f (only n i opens)) (fold (sends_after far) v.sends (only n i opens ++ []))
  unfolding pick fold
  opened i = go (eqb i n)
    where
      go : (b : Bool) → any_begins (pick b (opens ∷ []) []) ≡ true
          → Renewed (fold (fate_after (is_unsent v.sends)) f (pick b (opens ∷ []) [])) (fold (sends_after far) v.sends (pick b (opens ∷ []) [] ++ []))
      go true h = by_open refl refl
      go false h = absurd (true_false h refl)

  received_new : (i : ℕ) (x : SessionMessage) (outs : List Output) → any_begins (only n i (received x)) ≡ true
      → Renewed (fold (fate_after (is_unsent v.sends)) f (only n i (received x)))
      (fold (sends_after far) v.sends (only n i (received x) ++ gather (output_seen n) outs))
  unfolding pick fold
  received_new i x outs = go (eqb i n) x
    where
      go : (b : Bool) (x : SessionMessage) → any_begins (pick b (received x ∷ []) []) ≡ true
          → Renewed (fold (fate_after (is_unsent v.sends)) f (pick b (received x ∷ []) []))
          (fold (sends_after far) v.sends (pick b (received x ∷ []) [] ++ gather (output_seen n) outs))
      go false x h = absurd (true_false h refl)
      go true (data_of s true c eof ack) h = by_data refl (sends_all far (sending false [] far false) (gather (output_seen n) outs) (outputs_old n outs) refl)
      go true (data_of s false c eof ack) h = absurd (true_false h refl)
      go true (increment_of s) h = absurd (true_false h refl)
      go true (abort_of partial) h = absurd (true_false h refl)
      go true close_of h = absurd (true_false h refl)
      go true acknowledgment_of h = absurd (true_false h refl)

  by_scope : (k : Call) (m : Message) (late : Bool) (outs : List Output) (z : Scope) → scope m ≡ z → any_begins (in_scope n received z) ≡ true
      → Renewed (fate_ended v (ended_by_message z) (fold (fate_after (is_unsent v.sends)) f (in_scope n received z)))
      (fold (sends_after far) v.sends (in_scope n received z ++ gather (output_seen n) outs))
  by_scope k m late outs (whole w) q h = absurd (true_false h refl)
  by_scope k m late outs (of_session i x) q h = received_new i x outs h

  by_done : (k : Call) (bytes : List ℕ) → ((i : ℕ) → k ≡ open_session i → bytes ≡ []) → any_begins ((meaning k).told n) ≡ true
      → Renewed (fate_by n k (ok done) v f) (fold (sends_after far) v.sends (events_by_answer r n k bytes (ok done)))
  unfolding written_up_to gather
  by_done (start room) bytes w h = absurd (true_false h refl)
  by_done (open_session i) bytes w h =
      subst (λ (x : List ℕ). Renewed (fate_by n (open_session i) (ok done) v f) (fold (sends_after far) v.sends (events_by_answer r n (open_session i) x (ok done))))
      (sym (w i refl)) (opened i h)
  by_done (put i x) bytes w h = absurd (true_false h (only_old n i (puts x) refl))
  by_done (finish i) bytes w h = absurd (true_false h (only_old n i finishes refl))
  by_done (turn room) bytes w h = absurd (true_false h refl)
  by_done (grant i x room) bytes w h = absurd (true_false h refl)
  by_done (abort i x room) bytes w h = absurd (true_false h (only_old n i aborts refl))
  by_done (close i room) bytes w h = absurd (true_false h refl)
  by_done (ping x room) bytes w h = absurd (true_false h refl)
  by_done (shutdown room) bytes w h = absurd (true_false h refl)
  by_done lost bytes w h = absurd (true_false h refl)
  by_done (receive x room) bytes w h = absurd (true_false h refl)

  pub renewed : (k : Call) (a : Result Report) (bytes : List ℕ) → ((i : ℕ) → k ≡ open_session i → bytes ≡ []) → any_begins (told_by n k a) ≡ true
      → Renewed (fate_by n k a v f) (fold (sends_after far) v.sends (events_by_answer r n k bytes a))
  renewed k (ok done) bytes w h = by_done k bytes w h
  renewed k (ok (served i)) bytes w h = absurd (true_false h refl)
  renewed k (ok (header_received x)) bytes w h = absurd (true_false h refl)
  renewed k (ok (message m late)) bytes w h = by_scope k m late (all_written r bytes) (scope m) refl h
  renewed k (refused j) bytes w h = absurd (true_false h refl)
  renewed k (violation x) bytes w h = absurd (true_false h refl)

-- ---- a Data message that is written leaves no open unsent

module _ (far : Ration) (n : ℕ) where
  data_sent : (v : Sending) (s : ℕ) (begin c eof ack : Bool) → is_unsent (sends_after far v (wrote (data_of s begin c eof ack))) ≡ false
  data_sent silent s begin c eof ack = refl
  data_sent (sending a b r d) s begin c true ack = refl
  data_sent (sending a b r d) s begin c false ack = refl

  other : (v : Sending) (os : List Output)
      → ((u : Sending) → gather data_number os ≡ n ∷ [] → is_unsent (fold (sends_after far) u (gather (output_seen n) os)) ≡ false)
      → (i : ℕ) (x : SessionMessage) → gather data_number os ≡ n ∷ [] → is_unsent (fold (sends_after far) v (only n i (wrote x) ++ gather (output_seen n) os)) ≡ false
  unfolding fold pick
  other v os ih i x h = go (eqb i n)
    where
      go : (b : Bool) → is_unsent (fold (sends_after far) v (pick b (wrote x ∷ []) [] ++ gather (output_seen n) os)) ≡ false
      go true = ih (sends_after far v (wrote x)) h
      go false = ih v h

  -- what one message of the scope leaves, with what the rest does after it
  by_message : (v : Sending) (os : List Output)
      → ((u : Sending) → gather data_number os ≡ n ∷ [] → is_unsent (fold (sends_after far) u (gather (output_seen n) os)) ≡ false) → (z : Scope)
      → data_in z ++ gather data_number os ≡ n ∷ [] → is_unsent (fold (sends_after far) v (in_scope n wrote z ++ gather (output_seen n) os)) ≡ false
  unfolding fold
  by_message v os ih (whole w) h = ih v h
  by_message v os ih (of_session i (data_of s begin c eof ack)) h =
      let q : i ≡ n = cc in
      subst (λ (es : List Event). is_unsent (fold (sends_after far) v (es ++ gather (output_seen n) os)) ≡ false)
      (sym (yes (eqb i n) (wrote (data_of s begin c eof ack) ∷ []) [] (eq-eqb i n q)))
      (sends_all far (sends_after far v (wrote (data_of s begin c eof ack))) (gather (output_seen n) os) (outputs_old n os) (data_sent v s begin c eof ack))
  by_message v os ih (of_session i (increment_of s)) h = other v os ih i (increment_of s) h
  by_message v os ih (of_session i (abort_of partial)) h = other v os ih i (abort_of partial) h
  by_message v os ih (of_session i close_of) h = other v os ih i close_of h
  by_message v os ih (of_session i acknowledgment_of) h = other v os ih i acknowledgment_of h

  -- the Data message of the number is among what is written
  pub data_leaves_lem : (v : Sending) (outs : List Output) → gather data_number outs ≡ n ∷ [] → is_unsent (fold (sends_after far) v (gather (output_seen n) outs)) ≡ false
  unfolding gather fold
  data_leaves_lem v [] h = absurd (let z : ◌≡◌ {A = ℕ} 0 1 = cc in omega arith)
  data_leaves_lem v (header_out own ∷ os) h = data_leaves_lem v os h
  data_leaves_lem v (sent m ∷ os) h = by_message v os (λ u. data_leaves_lem u os) (scope m) h

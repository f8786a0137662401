-- The words of a connection that is ended: the outcomes change in the column of statuses, and the connection is over.
use mathlib.Core.Path.{◌≡◌, refl, sym, ap, ◌∙◌}
use mathlib.Core.Bool.{true}
use mathlib.Core.List.{List, [], ◌∷◌, ◌++◌, map, append_assoc}
use Prim.Native.Nat.{ℕ, ◌+◌, ◌*◌, ◌/◌}
use native.Mathlib.Omega.{arith}
use lib.ListN.{length, set, take, drop, length-map, length-append}
use lib.Seq.{take_at, drop_at}
use Rattle.state.specs.declared.Session.{Session}
use Rattle.state.specs.declared.Connection.{Connection}
use Rattle.state.specs.New.{blank}
use Rattle.state.specs.With.{with_sides, with_outcome, with_sessions}
use Rattle.protocol.specs.Connection.{well_formed, Cause, shutdown_received, error_received, own_shutdown, line_lost, ending, ended}
use Rattle.words.specs.Session.{outcome_cases, outcome_number, phase_of, phase_number, held_number, held_in, outbound_word, inbound_word, status_word, session_of}
use Rattle.words.specs.State.{inbound_at, status_at, head_at, over_at, word_count, head_words, words_of, zipped, connection_of}
use Rattle.words.proofs.Sessions.{held_number_lem, phase_number_lem}
use Rattle.words.proofs.States.{first_long, second_long, third_long, sessions_long, canonical}
use Rattle.words.proofs.Updates.{over_words}
use Rattle.words_access.specs.Access.{ended_status, ended_column, ended_words}

-- ---- one session

module _ (cause : Cause) where
  -- what the end does depends on the sides and the outcome alone
  by_parts : (cause : Cause) (x : Session) → (ending cause x).outcome ≡ (ending cause (with_outcome x.outcome (with_sides x.sides blank))).outcome
  by_parts shutdown_received x = refl
  by_parts error_received x = refl
  by_parts own_shutdown x = refl
  by_parts line_lost x = refl

  -- and changes the outcome alone
  others_stay : (cause : Cause) (x : Session) → ending cause x ≡ with_outcome (ending cause x).outcome x
  others_stay shutdown_received x = refl
  others_stay error_received x = refl
  others_stay own_shutdown x = refl
  others_stay line_lost x = refl

  outbound_stays : (x : Session) → outbound_word (ending cause x) ≡ outbound_word x
  outbound_stays x = ap outbound_word (others_stay cause x)

  inbound_stays : (x : Session) → inbound_word (ending cause x) ≡ inbound_word x
  inbound_stays x = ap inbound_word (others_stay cause x)

  same_phase : (a b s : ℕ)
      → outcome_number (ending cause (session_of a b s)).outcome + outcome_cases * phase_number (session_of a b s).sides (held_number (session_of a b s).waiting (session_of a b s).finish)
      ≡ ended_status cause s
  unfolding session_of ended_status
  same_phase a b s =
      rw (by_parts cause (session_of a b s), held_number_lem (held_in (phase_of (s / outcome_cases))), phase_number_lem (s / outcome_cases))

  status_ends : (a b s : ℕ) → status_word (ending cause (session_of a b s)) ≡ ended_status cause s
  unfolding status_word
  status_ends a b s =
      ap (λ (x : Session). outcome_number x.outcome + outcome_cases * phase_number x.sides (held_number x.waiting x.finish)) (others_stay cause (session_of a b s))
      ∙ same_phase a b s

  -- ---- all sessions

  all_outbound : (l : List Session) → map outbound_word (map (ending cause) l) ≡ map outbound_word l
  all_outbound [] = refl
  all_outbound (x ∷ l) = rw (outbound_stays x) (ap (λ (t : List ℕ). outbound_word x ∷ t) (all_outbound l))

  all_inbound : (l : List Session) → map inbound_word (map (ending cause) l) ≡ map inbound_word l
  all_inbound [] = refl
  all_inbound (x ∷ l) = rw (inbound_stays x) (ap (λ (t : List ℕ). inbound_word x ∷ t) (all_inbound l))

  all_status : (a b s : List ℕ) → length a ≡ length b → length a ≡ length s → map status_word (map (ending cause) (zipped a b s)) ≡ map (ended_status cause) s
  all_status [] b [] p q = refl
  all_status [] b (z ∷ s) p q = absurd (omega arith)
  all_status (x ∷ a) [] s p q = absurd (omega arith)
  all_status (x ∷ a) (y ∷ b) [] p q = absurd (omega arith)
  all_status (x ∷ a) (y ∷ b) (z ∷ s) p q =
      let e : length a ≡ length b = omega arith in
      let f : length a ≡ length s = omega arith in
      rw (status_ends x y z) (ap (λ (t : List ℕ). ended_status cause z ∷ t) (all_status a b s e f))

  -- ---- the connection

  module _ (w : List ℕ) (long : length w ≡ word_count) (formed : well_formed (connection_of w) ≡ true) where
    abbrev c : Connection
    c = connection_of w

    abbrev over : Connection
    over = with_sessions (map (ending cause) c.sessions) c

    statuses : map status_word (map (ending cause) c.sessions) ≡ map (ended_status cause) (take 128 (drop status_at w))
    unfolding connection_of
    statuses =
        all_status (take 128 w) (take 128 (drop inbound_at w)) (take 128 (drop status_at w))
        (first_long w long ∙ sym (second_long w long)) (first_long w long ∙ sym (third_long w long))

    abbrev a : List ℕ
    a = map outbound_word c.sessions

    abbrev b : List ℕ
    b = map inbound_word c.sessions

    abbrev s : List ℕ
    s = map status_word c.sessions

    both_long : length (a ++ b) ≡ status_at
    both_long = simp (length-append, length-map c.sessions outbound_word, length-map c.sessions inbound_word, sessions_long w long)

    all_long : length (a ++ b ++ s) ≡ head_at
    all_long = simp (length-append, length-map c.sessions outbound_word, length-map c.sessions inbound_word, length-map c.sessions status_word, sessions_long w long)

    first_two : take status_at w ≡ a ++ b
    unfolding words_of
    first_two =
        ap (take status_at) (sym (canonical w long formed) ∙ sym (append_assoc a b (s ++ head_words c)))
        ∙ take_at (a ++ b) (s ++ head_words c) status_at both_long

    the_head : drop head_at w ≡ head_words c
    unfolding words_of
    the_head =
        ap (drop head_at) (sym (canonical w long formed) ∙ sym (append_assoc a b (s ++ head_words c)) ∙ sym (append_assoc (a ++ b) s (head_words c)))
        ∙ drop_at (a ++ b ++ s) (head_words c) head_at all_long

    column_is : ended_column cause w ≡ words_of over
    unfolding words_of
    column_is =
        rw (first_two, the_head, ← statuses, all_outbound c.sessions, all_inbound c.sessions)
        (append_assoc a b (map status_word (map (ending cause) c.sessions) ++ head_words c))

    pub ended_is : ended_words cause w ≡ words_of (ended cause c)
    unfolding ended_words
    ended_is =
        ap (λ (l : List ℕ). set l over_at 1) column_is
        ∙ over_words over (length-map c.sessions (ending cause) ∙ sessions_long w long) true

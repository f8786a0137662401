-- In the words of a connection that is well formed the session of a number is read and set, the parts of the head are read, and the connection
-- is ended, as in the connection.
use Rattle.std.specs.Prelude.{Option}
use mathlib.Core.Path.{◌≡◌, sym, ap, ◌∙◌}
use mathlib.Core.Bool.{Bool, true, false, ◌&&◌}
use mathlib.Core.List.{List, [], ◌∷◌}
use Prim.Native.Nat.{ℕ, zero, suc, ◌+◌, ◌*◌, ◌%◌, ◌<◌, ◌≤◌}
use native.Mathlib.Nat.{not-suc-le-zero, le_of_suc-le-suc}
use native.Mathlib.Omega.{arith}
use lib.ListN.{length, get_or, set, length-set}
use lib.Seq.{set_out}
use Rattle.std.proofs.lemmas.List.{get_or_past}
use lib.Dec.{eqb, ltb}
use borrow.Author.Tests.{lt-ltb, ltb-true, ltb-false}
use Rattle.laws.specs.Pick.{pick}
use Rattle.laws.proofs.Pick.{yes, no}
use Rattle.laws.proofs.Tests.{and_first, and_second, and_both}
use Rattle.wire.specs.declared.Role.{Role}
use Rattle.wire.specs.declared.Role.TheVariants as role
use Rattle.state.specs.declared.Session.{Session}
use Rattle.state.specs.declared.Connection.{Connection}
use Rattle.state.specs.New.{blank}
use Rattle.state.specs.declared.Stage.{Stage}
use Rattle.state.specs.With.{with_sessions, with_session, with_stage, with_ping, with_last}
use Rattle.protocol.specs.Connection.{at, role_of, exchanged, far_number, session_formed, all_formed, well_formed}
use Rattle.words.specs.Session.{endless_number, outcome_cases, phases_end, status_limit, words_fit, outbound_word, inbound_word, status_word}
use Rattle.words.specs.State.{inbound_at, status_at, stage_at, last_at, ping_at, word_count, numbers16, stage_number, stage_of, ping_number, words_of, connection_of}
use Rattle.words.proofs.Sessions.{by_test, formed_words}
use Rattle.words.proofs.States.{sessions_long, session_at_lem, last_fits, stage_small, own_small, last_word, canonical}
use Rattle.words.proofs.Updates.{session_words, stage_words, last_words, ping_words}
use Rattle.words_access.specs.Access.{session_read, session_at_words, session_set}

-- ---- three words in their ranges

abbrev any_limit : ℕ
any_limit = outcome_cases * phases_end

-- ---- a session is read

limit_most : (r : Role) (up : Bool) → status_limit r up ≤ any_limit
unfolding status_limit pick
limit_most role.Client true = omega arith
limit_most role.Server true = omega arith
limit_most r false = omega arith

-- words below a limit are below the largest
fit_more : (r : Role) (up : Bool) (a b s : ℕ) → words_fit a b s (status_limit r up) ≡ true → words_fit a b s any_limit ≡ true
fit_more r up a b s e =
    let F = ltb a (1 + endless_number) && ltb b (1 + endless_number) in
    let l = ltb-true s (status_limit r up) (and_second F (ltb s (status_limit r up)) e) in
    and_both (and_first F (ltb s (status_limit r up)) e) (lt-ltb s any_limit (omega (arith, limit_most r up)))

pub each_formed : (r : Role) (up : Bool) (l : List Session) (i : ℕ) → all_formed r up l ≡ true → i < length l → session_formed r up (get_or l i blank) ≡ true
unfolding all_formed
each_formed r up [] i e h = absurd (not-suc-le-zero h)
each_formed r up (x ∷ l) zero e h = and_first (session_formed r up x) (all_formed r up l) e
each_formed r up (x ∷ l) (suc i) e h = each_formed r up l i (and_second (session_formed r up x) (all_formed r up l) e) (le_of_suc-le-suc h)

all_formed_lem : (c : Connection) → well_formed c ≡ true → all_formed (role_of c.stage) (exchanged c.stage) c.sessions ≡ true
unfolding well_formed
all_formed_lem c e = and_second (ltb c.last 128) (all_formed (role_of c.stage) (exchanged c.stage) c.sessions) e

module _ (w : List ℕ) (long : length w ≡ word_count) (formed : well_formed (connection_of w) ≡ true) where
  abbrev c : Connection
  c = connection_of w

  -- the words of a number are in their ranges
  pub words_fit_lem : (n : ℕ) → n < 128 → words_fit (get_or w n 0) (get_or w (inbound_at + n) 0) (get_or w (status_at + n) 0) (status_limit (role_of c.stage) (exchanged c.stage)) ≡ true
  words_fit_lem n h =
      sym (formed_words (role_of c.stage) (exchanged c.stage) (get_or w n 0) (get_or w (inbound_at + n) 0) (get_or w (status_at + n) 0))
      ∙ ap (session_formed (role_of c.stage) (exchanged c.stage)) (sym (session_at_lem w long n h))
      ∙ each_formed (role_of c.stage) (exchanged c.stage) c.sessions n (all_formed_lem c formed) (omega (arith, sessions_long w long))

  -- the session that is read is that of the connection
  pub read_is : (n : ℕ) → n < 128 → session_at_words w n ≡ at c n
  unfolding session_at_words session_read
  read_is n h =
      yes (ltb n 128) _ blank (lt-ltb n 128 h)
      ∙ yes (words_fit (get_or w n 0) (get_or w (inbound_at + n) 0) (get_or w (status_at + n) 0) any_limit) _ blank
      (fit_more (role_of c.stage) (exchanged c.stage) (get_or w n 0) (get_or w (inbound_at + n) 0) (get_or w (status_at + n) 0) (words_fit_lem n h))
      ∙ sym (session_at_lem w long n h)

  -- the words after a session is set are those of the connection with that session
  pub set_is : (n : ℕ) (x : Session) → n < 128 → session_set w n x ≡ words_of (with_session n x c)
  unfolding session_set
  set_is n x h =
      yes (ltb n 128) _ w (lt-ltb n 128 h)
      ∙ ap (λ (l : List ℕ). set (set (set l n (outbound_word x)) (inbound_at + n) (inbound_word x)) (status_at + n) (status_word x)) (sym (canonical w long formed))
      ∙ session_words c (sessions_long w long) n x h

  -- both hold for every number: past the table a blank session is read, and nothing is set
  pub read_any : (n : ℕ) → session_at_words w n ≡ at c n
  unfolding session_at_words
  read_any n =
      by_test (ltb n 128)
      (λ t. read_is n (ltb-true n 128 t))
      (λ f. no (ltb n 128) _ blank f ∙ sym (get_or_past c.sessions n blank (omega (arith, ltb-false n 128 f, sessions_long w long))))

  pub set_any : (n : ℕ) (x : Session) → session_set w n x ≡ words_of (with_session n x c)
  unfolding session_set
  set_any n x =
      by_test (ltb n 128)
      (λ t. set_is n x (ltb-true n 128 t))
      (λ f. no (ltb n 128) _ w f ∙ sym (canonical w long formed)
      ∙ ap (λ (l : List Session). words_of (with_sessions l c)) (sym (set_out c.sessions n x (omega (arith, ltb-false n 128 f, sessions_long w long)))))

  -- ---- the head is read and set

  pub own_is : c.own % numbers16 ≡ c.own
  unfolding connection_of
  own_is = let l = own_small w long formed in omega arith

  pub far_is : far_number c.stage % numbers16 ≡ far_number c.stage
  unfolding connection_of stage_of pick
  far_is =
      let l = stage_small w long formed in
      let n = get_or w stage_at 0 in
      by_test (ltb n 2)
      (λ t. rw t)
      (λ f. rw f (by_test (eqb n 2) (λ t. rw t) (λ g. rw g (omega arith))))

  pub last_is : get_or w last_at 0 % 256 ≡ c.last
  last_is =
      let e = last_word w long formed in
      let l = ltb-true c.last 128 (last_fits w long formed) in omega arith

  pub stage_is : (s : Stage) → set w stage_at (stage_number s) ≡ words_of (with_stage s c)
  stage_is s = ap (λ (l : List ℕ). set l stage_at (stage_number s)) (sym (canonical w long formed)) ∙ stage_words c (sessions_long w long) s

  pub ping_is : (p : Option ℕ) → set w ping_at (ping_number p) ≡ words_of (with_ping p c)
  ping_is p = ap (λ (l : List ℕ). set l ping_at (ping_number p)) (sym (canonical w long formed)) ∙ ping_words c (sessions_long w long) p

  -- the session of a number is set, and the number is that served last
  pub served_is : (n : ℕ) (x : Session) → n < 128 → set (session_set w n x) last_at n ≡ words_of (with_last n (with_session n x c))
  served_is n x h =
      ap (λ (l : List ℕ). set l last_at n) (set_is n x h)
      ∙ last_words (with_session n x c) (length-set c.sessions n x ∙ sessions_long w long) n

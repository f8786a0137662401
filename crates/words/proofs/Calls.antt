-- What a call leaves in words: those of the connection that its rule leaves, or, if it is refused, the words as they were.
use mathlib.Core.Path.{◌≡◌, sym, ap, ◌∙◌}
use mathlib.Core.Bool.{true}
use mathlib.Core.List.{List, []}
use Prim.Native.Nat.{ℕ}
use lib.ListN.{length}
use Rattle.laws.specs.Pick.{pick}
use Rattle.laws.proofs.Pick.{yes}
use Rattle.state.specs.declared.Connection.{Connection}
use Rattle.protocol.specs.Connection.{well_formed}
use Rattle.protocol.specs.Judge.{refuse}
use Rattle.protocol.specs.Result.{Given, given}
use Rattle.words.specs.State.{word_count, words_of, connection_of}
use Rattle.words.specs.Calls.{Told, told_of, words_after, on_words, on_words_with, on_words_both}
use Rattle.words.proofs.Sessions.{by_test}
use Rattle.words.proofs.States.{Typed, canonical, connection_back}

module _ (w : List ℕ) where
  -- the words of the connection that the rule leaves
  pub after_formed : (c : Connection) → well_formed (connection_of w) ≡ true → words_after w c ≡ words_of c
  unfolding words_after
  after_formed c e = yes (well_formed (connection_of w)) (words_of c) w e

  -- words stay if the rule leaves the connection as it is
  pub after_same : length w ≡ word_count → words_after w (connection_of w) ≡ w
  unfolding words_after pick
  after_same long = by_test (well_formed (connection_of w)) (λ t. rw t (canonical w long t)) (λ f. rw f)

  -- a call that is taken
  pub on_taken : {t : Told} {last : List ℕ} (g : Given) → well_formed (connection_of w) ≡ true → t ≡ told_of g → last ≡ words_of g.connection
      → (t, last) ≡ on_words w g
  on_taken g e p q = rw (p, q ∙ sym (after_formed g.connection e))

  pub on_taken_with : {B : Type 0} {t : Told} {last : List ℕ} {b : B} (g : Given × B) → well_formed (connection_of w) ≡ true → t ≡ told_of g.0
      → last ≡ words_of g.0.connection → b ≡ g.1 → (t, last, b) ≡ on_words_with w g
  on_taken_with g e p q u = rw (p, q ∙ sym (after_formed g.0.connection e), u)

  pub on_taken_both : {t : Told} {last q r : List ℕ} (g : Given × List ℕ × List ℕ) → well_formed (connection_of w) ≡ true → t ≡ told_of g.0
      → last ≡ words_of g.0.connection → q ≡ g.1 → r ≡ g.2 → (t, last, q, r) ≡ on_words_both w g
  on_taken_both g e p q u v = rw (p, q ∙ sym (after_formed g.0.connection e), u, v)

  -- a call that is refused
  pub on_refused : (n : ℕ) → length w ≡ word_count → {t : Told} → t ≡ told_of (given (connection_of w) [] (refuse n))
      → (t, w) ≡ on_words w (given (connection_of w) [] (refuse n))
  on_refused n long {t} e = rw e (ap (λ (l : List ℕ). (told_of (given (connection_of w) [] (refuse n)), l)) (sym (after_same long)))

  pub on_refused_with : {B : Type 0} (b : B) (n : ℕ) → length w ≡ word_count → {t : Told} → t ≡ told_of (given (connection_of w) [] (refuse n))
      → (t, w, b) ≡ on_words_with w (given (connection_of w) [] (refuse n), b)
  on_refused_with {B} b n long {t} e =
      rw e (ap (λ (l : List ℕ). (told_of (given (connection_of w) [] (refuse n)), l, b)) (sym (after_same long)))

  pub on_refused_both : (q r : List ℕ) (n : ℕ) → length w ≡ word_count → {t : Told} → t ≡ told_of (given (connection_of w) [] (refuse n))
      → (t, w, q, r) ≡ on_words_both w (given (connection_of w) [] (refuse n), q, r)
  on_refused_both q r n long {t} e =
      rw e (ap (λ (l : List ℕ). (told_of (given (connection_of w) [] (refuse n)), l, q, r)) (sym (after_same long)))

  -- what the next call finds is what the rule leaves, if that is well formed
  pub carried : (c : Connection) → well_formed (connection_of w) ≡ true → Typed c → well_formed c ≡ true → connection_of (words_after w c) ≡ c
  carried c e t f = ap connection_of (after_formed c e) ∙ connection_back c t f

-- The claims of the calls on words.
use mathlib.Core.Path.{◌≡◌, refl, sym, ap, ◌∙◌}
use mathlib.Core.List.{List}
use Prim.Native.Nat.{ℕ}
use lib.ListN.{length}
use Rattle.state.specs.declared.Setup.{Setup}
use Rattle.history.specs.Log.{Call, State, Proper, made, next, out}
use Rattle.history.proofs.Simulation.{made_ok}
use Rattle.history.proofs.Never.{refuses_14}
use Rattle.history.proofs.Leaves.{refused_leaves}
use Rattle.words.specs.State.{word_count}
use Rattle.words.specs.Calls.{Told, words_after}
use Rattle.words.proofs.Calls.{after_same}
use Rattle.words_history.specs.Machine.{WordState, called_on, made_on, AllHoldable}
use Rattle.words_history.specs.Claims.{RunsAlike, AnyWords, WordClaims}
use Rattle.words_history.proofs.Alike.{state_of, called_on_lem, connection_is, Held, held_run, same_logs}

runs_alike : (setup : Setup) → Proper setup → (queue : List ℕ) (ks : List Call) → AllHoldable ks → RunsAlike setup queue ks
runs_alike setup hh queue ks p =
    let h : Held setup (made_on setup queue) (made setup queue) = record { words = refl; queue = refl; ok = made_ok setup hh queue; small = tt } in
    let r = held_run setup (made_on setup queue) (made setup queue) ks p h in
    record {
      same_log = same_logs setup (made_on setup queue) (made setup queue) ks p h;
      same_queue = r.queue;
      words = r.words;
      connection = connection_is setup _ _ r;
    }

answer_is : (s : WordState) (k : Call) → (called_on s k).0.answer ≡ (out (state_of s) k).answer
unfolding out
answer_is s k = ap (λ (g : Told × List ℕ × List ℕ × List ℕ). g.0.answer) (called_on_lem s k)

any_words : (s : WordState) → length s.words ≡ word_count → (k : Call) → AnyWords s k
unfolding next
any_words s long k =
    record {
      exactly_14 = (λ e. (refuses_14 (state_of s) k).0 (sym (answer_is s k) ∙ e), λ ill. answer_is s k ∙ (refuses_14 (state_of s) k).1 ill);
      leaves =
          λ n e. let z = (refused_leaves (state_of s) k).refusal n (sym (answer_is s k) ∙ e) in (
            z.0,
            ap (λ (g : Told × List ℕ × List ℕ × List ℕ). g.1) (called_on_lem s k)
                ∙ ap (λ (t : State). words_after s.words t.connection) z.1 ∙ after_same s.words long,
            ap (λ (g : Told × List ℕ × List ℕ × List ℕ). g.2) (called_on_lem s k) ∙ ap (λ (t : State). t.queue) z.1,
            ap (λ (g : Told × List ℕ × List ℕ × List ℕ). g.3) (called_on_lem s k) ∙ z.3,
          );
    }

pub word_claims : WordClaims
word_claims = record { runs_alike = runs_alike; any_words = any_words }

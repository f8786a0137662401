-- No two answers of the code stand for the same answer in the numbers and values of docs/PROTOCOL.md, and no two results for the same
-- result: each is given back.
use mathlib.Core.Path.{◌≡◌, refl, sym, ap, ◌∙◌}
use Rattle.std.specs.Prelude as prelude
use Rattle.std.specs.Prelude.{Ok, Err}
use Rattle.laws.specs.Result.{Result, ok, refused, violation}
use Rattle.refusal.specs.declared.Refusal.{Refusal}
use Rattle.refusal.specs.declared.Fault.{Fault}
use Rattle.refusal.specs.declared.Failure.{Failure}
use Rattle.refusal.specs.declared.Failure.TheVariants as failure
use Rattle.refusal.specs.Number.{violation_number}
use Rattle.refusal.proofs.Distinct.{refusal_of, refusal_back, fault_for, fault_back}
use Rattle.state.specs.declared.Answer.{Answer}
use Rattle.state.specs.declared.Answer.TheVariants as answer
use Rattle.state.specs.declared.Called.{Called}
use Rattle.protocol.specs.Judge.{Report, done, served, header_received, message}
use Rattle.protocol.specs.Result.{Given, answer_as, called_as}

-- the answer that a result stands for
abbrev answer_of : Result Report → prelude.Result Answer Failure
answer_of (ok done) = Ok answer.Done
answer_of (ok (served n)) = Ok (answer.Served n)
answer_of (ok (header_received n)) = Ok (answer.Header n)
answer_of (ok (message m late)) = Ok (answer.Message m late)
answer_of (refused n) = Err (failure.Refused (refusal_of n))
answer_of (violation f) = Err (failure.Violated (fault_for f))

given_back : (a : prelude.Result Answer Failure) → answer_of (answer_as a) ≡ a
given_back (Ok answer.Done) = refl
given_back (Ok (answer.Served n)) = refl
given_back (Ok (answer.Header n)) = refl
given_back (Ok (answer.Message m late)) = refl
given_back (Err (failure.Refused r)) = ap (λ (x : Refusal). Err (failure.Refused x)) (refusal_back r)
given_back (Err (failure.Violated f)) = ap (λ (x : Fault). Err (failure.Violated x)) (fault_back f)

pub same_answer : (a b : prelude.Result Answer Failure) → answer_as a ≡ answer_as b → a ≡ b
same_answer a b e = sym (given_back a) ∙ ap answer_of e ∙ given_back b

-- a violation is told by the number and the place that its fault holds
pub answer_says : (f : Fault) → answer_as (Err (failure.Violated f)) ≡ violation (record { number = violation_number f.violation; place = f.offset })
answer_says f = refl

called_path : {x y : Called} → x.connection ≡ y.connection → x.answer ≡ y.answer → x.used ≡ y.used → x.wrote ≡ y.wrote → x.start ≡ y.start
    → x.end ≡ y.end → x ≡ y
called_path c a u w s e i = record { connection = c i; answer = a i; used = u i; wrote = w i; start = s i; end = e i }

pub same_called : (x y : Called) → called_as x ≡ called_as y → x ≡ y
same_called x y e =
    called_path
    (ap (λ (g : Given). g.connection) e)
    (same_answer x.answer y.answer (ap (λ (g : Given). g.answer) e))
    (ap (λ (g : Given). g.used) e)
    (ap (λ (g : Given). g.wrote) e)
    (ap (λ (g : Given). g.start) e)
    (ap (λ (g : Given). g.end) e)

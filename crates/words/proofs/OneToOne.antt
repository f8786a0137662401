-- No two results of a call with the same connection stand for the same result in the numbers and values of docs/PROTOCOL.md.
use mathlib.Core.Path.{◌≡◌, ap}
use Rattle.state.specs.declared.Called.{Called}
use Rattle.protocol.proofs.OneToOne.{same_answer}
use Rattle.words.specs.Calls.{Told, told_as}

called_path : {x y : Called} → x.connection ≡ y.connection → x.answer ≡ y.answer → x.used ≡ y.used → x.wrote ≡ y.wrote → x.start ≡ y.start
    → x.end ≡ y.end → x ≡ y
called_path c a u w s e i = record { connection = c i; answer = a i; used = u i; wrote = w i; start = s i; end = e i }

pub same_called : (x y : Called) → x.connection ≡ y.connection → told_as x ≡ told_as y → x ≡ y
same_called x y c e =
    called_path c
    (same_answer x.answer y.answer (ap (λ (g : Told). g.answer) e))
    (ap (λ (g : Told). g.used) e)
    (ap (λ (g : Told). g.wrote) e)
    (ap (λ (g : Told). g.start) e)
    (ap (λ (g : Told). g.end) e)

-- What a violation that the reader finds says: the number and the place that its fault holds, as they are; and how long a message is.
use Rattle.std.specs.Prelude.{Err}
use mathlib.Core.Path.{◌≡◌, refl, ap, ◌∙◌}
use mathlib.Core.List.{List, ◌++◌}
use Prim.Native.Nat.{ℕ, ◌+◌, ◌≤◌}
use native.Mathlib.Omega.{arith}
use lib.ListN.{length, length-append}
use Rattle.laws.specs.Result.{Result, ok, refused, violation}
use Rattle.refusal.specs.declared.Fault.{Fault}
use Rattle.refusal.specs.Number.{violation_number}
use Rattle.wire.specs.declared.Role.{Role}
use Rattle.wire.specs.declared.Message.{Message}
use Rattle.wire.specs.Message.{body_length, header, read_message}
use Rattle.wire.proofs.Laws.{message_holds}
use Rattle.refusal.specs.declared.ReadError.TheVariants.{Violated}
use Rattle.wire_read.specs.Answer.{parsed_as, read_as, size_in}

pub parsed_says : (f : Fault) → parsed_as (Err f) ≡ violation (record { number = violation_number f.violation; place = f.offset })
parsed_says f = refl

pub read_says : (f : Fault) → read_as (Err (Violated f)) ≡ violation (record { number = violation_number f.violation; place = f.offset })
read_says f = refl

-- a message is no longer than the input that it is read from
pub size_within : (from : Role) (s : List ℕ) → size_in (read_message from s) ≤ length s
size_within from s = go (read_message from s) refl
  where
    go : (r : Result Message) → read_message from s ≡ r → size_in r ≤ length s
    go (ok m) e = (message_holds from s m e).long
    go (refused n) e = omega arith
    go (violation f) e = omega arith

-- its size is that of its bytes as they are written, header and body
pub size_is : (m : Message) (body : List ℕ) → length body ≡ body_length m → length (header m ++ body) ≡ size_in (ok m)
size_is m body e = length-append (header m) body ∙ ap (λ (n : ℕ). 4 + n) e

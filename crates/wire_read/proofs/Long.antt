-- The message of an input that has its four header bytes.
use Rattle.std.proofs.Common.{◌≡◌, ℕ, ◌<◌, List, [], ◌∷◌, length, get_or, ap, refl, ◌∙◌, arith}
use Rattle.std.specs.Array.{IsFirstChunk}
use Rattle.std.proofs.lemmas.List.{get_or-take}
use Rattle.laws.specs.Result.{Result}
use Rattle.wire.specs.declared.Role.{Role}
use Rattle.wire.specs.declared.Message.{Message}
use Rattle.wire.specs.Message.{parse_header, with_body, read_message}
use Rattle.wire.proofs.Reading.{message_long}

pub long : (from : Role) {s bytes : List ℕ} {p : Result Message} → IsFirstChunk s bytes 4
    → p ≡ parse_header from (get_or bytes 0 0 ∷ get_or bytes 1 0 ∷ get_or bytes 2 0 ∷ get_or bytes 3 0 ∷ [])
    → with_body (length s) p ≡ read_message from s
long from {s} {bytes} h e = message_long from s h.enough (e ∙ ap (parse_header from) same) refl
  where
    at : (i : ℕ) → i < 4 → get_or bytes i 0 ≡ get_or s i 0
    at i below = rw h.same (get_or-take 4 s i 0 below)

    same : (get_or bytes 0 0 ∷ get_or bytes 1 0 ∷ get_or bytes 2 0 ∷ get_or bytes 3 0 ∷ []) ≡ (get_or s 0 0 ∷ get_or s 1 0 ∷ get_or s 2 0 ∷ get_or s 3 0 ∷ [])
    same = rw (at 0 (omega arith), at 1 (omega arith), at 2 (omega arith), at 3 (omega arith))

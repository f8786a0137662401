-- The definition in numbers: the powers of G(x), and the published values, those of RFC 3720 from its section B.4.
use mathlib.Core.Path.{◌≡◌, refl}
use mathlib.Core.Bool.{true, false, xor}
use mathlib.Core.List.{List, [], ◌∷◌}
use Prim.Native.Nat.{ℕ, zero, suc}
use lib.ListN.{length, replicate}
use Rattle.laws.specs.Codes.{codes}
use Rattle.crc.specs.Crc.{Polynomial, lowest_first, message_bits, generator, difference, divided, complemented, bits_as_number, remainder, crc_of}

-- the powers of a polynomial whose coefficient is 1, the highest first
abbrev powers : Polynomial → List ℕ
powers [] = []
powers (true ∷ p) = length p ∷ powers p
powers (false ∷ p) = powers p

pub generator_powers : powers generator
    ≡ 32 ∷ 28 ∷ 27 ∷ 26 ∷ 25 ∷ 23 ∷ 22 ∷ 20 ∷ 19 ∷ 18 ∷ 14 ∷ 13 ∷ 11 ∷ 10 ∷ 9 ∷ 8 ∷ 6 ∷ 0 ∷ []
unfolding generator lowest_first
generator_powers = refl

-- n bytes, each one more than the one before
abbrev rising : ℕ → ℕ → List ℕ
rising zero b = []
rising (suc n) b = b ∷ rising n (suc b)

-- the n numbers below n, the highest first
abbrev falling : ℕ → List ℕ
falling zero = []
falling (suc n) = n ∷ falling n

-- the check value
pub digits_1_to_9 : crc_of (codes "123456789") ≡ 0xe306_9283
unfolding crc_of remainder divided complemented difference generator message_bits lowest_first bits_as_number xor
digits_1_to_9 = refl

pub no_byte : crc_of [] ≡ 0
unfolding crc_of remainder divided complemented difference generator message_bits lowest_first bits_as_number xor
no_byte = refl

pub all_00 : crc_of (replicate 32 0) ≡ 0x8a91_36aa
unfolding crc_of remainder divided complemented difference generator message_bits lowest_first bits_as_number xor
all_00 = refl

pub all_ff : crc_of (replicate 32 0xff) ≡ 0x62a8_ab43
unfolding crc_of remainder divided complemented difference generator message_bits lowest_first bits_as_number xor
all_ff = refl

pub from_00_to_1f : crc_of (rising 32 0) ≡ 0x46dd_794e
unfolding crc_of remainder divided complemented difference generator message_bits lowest_first bits_as_number xor
from_00_to_1f = refl

pub from_1f_to_00 : crc_of (falling 32) ≡ 0x113f_db5c
unfolding crc_of remainder divided complemented difference generator message_bits lowest_first bits_as_number xor
from_1f_to_00 = refl

-- an iSCSI read command
abbrev read_command : List ℕ
read_command =
    0x01 ∷ 0xc0 ∷ 0 ∷ 0 ∷ 0 ∷ 0 ∷ 0 ∷ 0 ∷ 0 ∷ 0 ∷ 0 ∷ 0 ∷ 0 ∷ 0 ∷ 0 ∷ 0
    ∷ 0x14 ∷ 0 ∷ 0 ∷ 0 ∷ 0 ∷ 0 ∷ 0x04 ∷ 0 ∷ 0 ∷ 0 ∷ 0 ∷ 0x14 ∷ 0 ∷ 0 ∷ 0 ∷ 0x18
    ∷ 0x28 ∷ 0 ∷ 0 ∷ 0 ∷ 0 ∷ 0 ∷ 0 ∷ 0 ∷ 0x02 ∷ 0 ∷ 0 ∷ 0 ∷ 0 ∷ 0 ∷ 0 ∷ 0 ∷ []

pub read_command_lem : crc_of read_command ≡ 0xd996_3a56
unfolding crc_of remainder divided complemented difference generator message_bits lowest_first bits_as_number xor
read_command_lem = refl

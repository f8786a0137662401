-- The layout of a block, and numbers that only the definitions fix, in rows.
use mathlib.Core.Path.{◌≡◌, refl, sym, ap, ◌∙◌}
use mathlib.Core.Bool.{true, false, xor}
use mathlib.Core.List.{List, [], ◌∷◌, ◌++◌}
use Prim.Native.Nat.{ℕ, suc, ◌-◌, ◌≤◌}
use native.Mathlib.Omega.{arith}
use lib.ListN.{get_or, replicate, get_or-replicate, get_or-append}
use Rattle.crc.specs.Crc.{lowest_first, message_bits, generator, difference, divided, complemented, bits_as_number, remainder, crc_of}
use Rattle.journal_rules.specs.Block.{JournalEntry, journal_entry, storable, four_bytes, checked_bytes, block_of}
use Rattle.laws.specs.Pick.{pick}
use Rattle.laws.specs.Result.{ok, refused}
use Rattle.journal_rules.specs.Region.{equal_bytes, good, first_bad_from, entries_from, store_refusal, stored, repaired}
use Rattle.journal_rules.specs.Listing.{is_answered, not_to_retry}
use Rattle.journal_rules.specs.Calls.{written_whole, cut_after, store_call, repair_call, read_call, list_call}
use Rattle.journal_rules.specs.Claims.{BlockLayout}

pub layout : (serial : ℕ) (e : JournalEntry) → BlockLayout serial e
unfolding block_of checked_bytes
layout serial e =
    record {
      size = refl;
      serial_first = refl;
      number = refl;
      kind = refl;
      zeros = zero_at;
      checksum = refl;
      last = refl;
    }
  where
    rest : List ℕ
    rest = four_bytes (crc_of (checked_bytes serial e)) ++ (0xa5 ∷ [])

    zero_at : (i : ℕ) → 6 ≤ i → i ≤ 506 → get_or (block_of serial e) i 0 ≡ 0
    zero_at i a b =
        let j : ℕ = i - 6 in
        let q : suc (suc (suc (suc (suc (suc j))))) ≡ i = omega arith in
        ap (λ (k : ℕ). get_or (block_of serial e) k 0) (sym q)
        ∙ get_or-append (replicate 501 0) rest 0 j (omega arith)
        ∙ get_or-replicate 501 j 0 0 (omega arith)

-- the bytes of a number, high byte first
pub row_bytes : four_bytes 0x0102_0304 ≡ 1 ∷ 2 ∷ 3 ∷ 4 ∷ []
row_bytes = refl

-- the last number and kind that are stored, and the first ones that are not
pub row_last : storable (journal_entry 127 3) ≡ true
row_last = refl

pub row_number : storable (journal_entry 128 0) ≡ false
row_number = refl

pub row_kind : storable (journal_entry 0 4) ≡ false
row_kind = refl

-- the start of session 5 as the first entry: its block, checksum 346c5e94
pub row_block : block_of 1 (journal_entry 5 0) ≡ (0 ∷ 0 ∷ 0 ∷ 1 ∷ 5 ∷ 0 ∷ replicate 501 0) ++ (0x34 ∷ 0x6c ∷ 0x5e ∷ 0x94 ∷ 0xa5 ∷ [])
unfolding block_of checked_bytes crc_of remainder divided complemented difference generator message_bits lowest_first bits_as_number xor
row_block = refl

-- ---- the calls in rows

-- 8 before 3 and 12, 3 before 12
pub row_refused : (store_refusal (replicate 513 0) (journal_entry 128 4) ≡ 8) × (store_refusal (replicate 512 0) (journal_entry 128 4) ≡ 3)
    × (store_refusal (replicate 512 0) (journal_entry 127 4) ≡ 12)
unfolding store_refusal pick
row_refused = (refl, refl, refl)

pub row_8 : (repair_call [] 512 ≡ (refused 8, [])) × (read_call [] ≡ refused 8) × (list_call [] ≡ refused 8)
unfolding repair_call read_call list_call repaired pick
row_8 = (refl, refl, refl)

-- a store that is cut after 6 byte stores, and a repair whose byte stores are all made
pub row_cut : store_call (replicate 1024 0) (journal_entry 5 0) 6 ≡ (ok (cut_after 6), 0 ∷ 0 ∷ 0 ∷ 1 ∷ 5 ∷ replicate 1019 0)
unfolding store_call stored store_refusal first_bad_from good equal_bytes block_of checked_bytes pick crc_of remainder divided complemented difference generator message_bits lowest_first
    bits_as_number xor
row_cut = refl

pub row_repair : repair_call (replicate 1024 7) 512 ≡ (ok (written_whole 1), replicate 512 0 ++ replicate 512 7)
unfolding repair_call repaired first_bad_from good equal_bytes block_of checked_bytes pick crc_of remainder divided complemented difference generator message_bits lowest_first
    bits_as_number xor
row_repair = refl

-- an entry that is read, and a start that is listed
pub row_read : read_call (block_of 1 (journal_entry 5 3)) ≡ ok (journal_entry 5 3 ∷ [])
unfolding read_call entries_from good equal_bytes block_of checked_bytes pick crc_of remainder divided complemented difference generator message_bits lowest_first bits_as_number xor
row_read = refl

pub row_list : list_call (block_of 1 (journal_entry 5 0)) ≡ ok (1 ∷ [])
unfolding list_call not_to_retry is_answered entries_from good equal_bytes block_of checked_bytes pick crc_of remainder divided complemented difference generator message_bits lowest_first
    bits_as_number xor
row_list = refl

-- starts of 5, 7, 5, 9 and 5, with a 1 for the first, a 3 for 7 and a 2 for 9
pub row_starts : not_to_retry 0
    (journal_entry 5 0 ∷ journal_entry 7 0 ∷ journal_entry 5 1 ∷ journal_entry 5 0 ∷ journal_entry 7 3 ∷ journal_entry 9 0 ∷ journal_entry 9 2 ∷ journal_entry 5 0 ∷ [])
    ≡ 2 ∷ 4 ∷ 8 ∷ []
unfolding not_to_retry is_answered pick
row_starts = refl

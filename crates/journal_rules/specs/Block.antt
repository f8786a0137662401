-- An entry of the journal, and the block of 512 bytes that holds it, byte by byte (docs/JOURNAL.md, "The block").
use Rattle.std.specs.Prelude.{ℕ, ◌/◌, ◌%◌, Bool, ◌&&◌, List, [], ◌∷◌, ◌++◌, leb, replicate}
use Rattle.crc.specs.Crc.{crc_of}

-- a session number and a kind: 0 start, 1 complete, 2 may be retried, 3 must not
pub record JournalEntry : Type 0 where
  pub number : ℕ
  pub kind : ℕ

abbrev pub journal_entry : ℕ → ℕ → JournalEntry
journal_entry number kind = record { number = number; kind = kind }

-- a session number up to 127 and a kind up to 3
abbrev pub storable : JournalEntry → Bool
storable e = leb e.number 127 && leb e.kind 3

-- four bytes, high byte first
abbrev pub four_bytes : ℕ → List ℕ
four_bytes n = n / 16_777_216 % 256 ∷ n / 65_536 % 256 ∷ n / 256 % 256 ∷ n % 256 ∷ []

-- bytes 0 to 506: the serial, the session number, the kind, zeros
unfoldable pub checked_bytes : ℕ → JournalEntry → List ℕ
checked_bytes serial e = four_bytes serial ++ (e.number ∷ e.kind ∷ replicate 501 0)

-- the whole block: bytes 0 to 506, their CRC-32C in 507 to 510, and A5 hex in 511
unfoldable pub block_of : ℕ → JournalEntry → List ℕ
block_of serial e = checked_bytes serial e ++ four_bytes (crc_of (checked_bytes serial e)) ++ (0xa5 ∷ [])

-- A block of the black tape, byte for byte, as document 02 lays it out: what is written. Assumes nothing.
use Rattle.std.specs.Prelude.{Bool, ◌&&◌, List, [], ◌∷◌, ◌++◌, ℕ, suc, ◌+◌, ◌-◌, ◌*◌, ◌%◌, leb, ltb, ℤ, pos, negsuc, length, replicate}
use Rattle.big_endian.specs.BigEndian.{bytes}
use Rattle.tape.specs.declared.Record.{Record}

-- ---- sizes

-- Blocks of 512 bytes.
abbrev pub block_size : ℕ
block_size = 512

-- Bytes 0 to 3 are the block number, 4 and 5 the record count, 1 to 31; then records of 16 bytes.
abbrev pub count_at : ℕ
count_at = 4

abbrev pub first_at : ℕ
first_at = 6

abbrev pub record_size : ℕ
record_size = 16

abbrev pub most_records : ℕ
most_records = 31

-- Bytes 510 and 511 are the check.
abbrev pub check_at : ℕ
check_at = 510

-- Where record i stands.
abbrev pub record_at : ℕ → ℕ
record_at i = first_at + record_size * i

-- Bytes with room for a block have a place for record i where a block has.
abbrev pub has_place : List ℕ → ℕ → Bool
has_place b i = leb block_size (length b) && ltb i most_records

-- ---- a record

-- Numbers in 4 bytes are below this one.
abbrev pub four_bytes : ℕ
four_bytes = 4294967296

-- A number in 4 bytes of two's complement.
abbrev pub complement : ℤ → ℕ
complement (pos n) = n % four_bytes
complement (negsuc n) = four_bytes - suc (n % four_bytes)

-- A record: verb (1 byte), two arguments of 4 bytes, answer in 4 bytes of two's complement, running task (1 byte), clock's remainder (2 bytes).
unfoldable pub record_bytes : Record → List ℕ
record_bytes r =
    bytes 1 r.verb
    ++ (bytes 4 r.first
    ++ (bytes 4 r.second
    ++ (bytes 4 (complement r.answer)
    ++ (bytes 1 r.running
    ++ bytes 2 r.clock))))

-- Records one behind the other.
unfoldable pub all_bytes : List Record → List ℕ
all_bytes [] = []
all_bytes (r ∷ rs) = record_bytes r ++ all_bytes rs

-- ---- a block

-- The sum of weight x byte, where the weights rise by 1 from w on.
unfoldable pub weighed : ℕ → List ℕ → ℕ
weighed w [] = 0
weighed w (b ∷ bs) = w * b + weighed (suc w) bs

-- The check: the sum of (position + 1) x byte, remainder by 65,521.
abbrev pub check : List ℕ → ℕ
check bs = weighed 1 bs % 65521

-- Bytes 0 to 509: number, count, records; unused bytes are 0.
unfoldable pub unchecked : ℕ → List Record → List ℕ
unchecked number rs = bytes 4 number ++ (bytes 2 (length rs) ++ (all_bytes rs ++ replicate (check_at - record_at (length rs)) 0))

-- The block of this number with these records.
unfoldable pub written : ℕ → List Record → List ℕ
written number rs = unchecked number rs ++ bytes 2 (check (unchecked number rs))

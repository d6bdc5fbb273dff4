-- A block that is written record by record, and closed with its number, count and check. Assumes nothing.
use Rattle.std.specs.Prelude.{Bool, cond, ◌&&◌, List, ◌++◌, ℕ, ◌-◌, ◌*◌, leb, length, drop, replicate}
use Rattle.big_endian.specs.BigEndian.{bytes, part}
use Rattle.kernel.specs.Channels.{over}
use Rattle.kernel.specs.Sizes.{within}
use Rattle.tape.specs.declared.Record.{Record}
use Rattle.tape.specs.Block.{block_size, first_at, record_size, most_records, check_at, record_at, has_place, record_bytes, check}

-- The bytes with record i put in its place; without a place they stay.
abbrev pub placed : List ℕ → ℕ → Record → List ℕ
placed b i r = cond (has_place b i) (over b (record_at i) (record_bytes r)) b

-- A block is closed where there is room for it and its count is 1 to 31.
abbrev pub may_close : List ℕ → ℕ → Bool
may_close b n = leb block_size (length b) && within 1 n most_records

-- Bytes 0 to 509 of the block of this number with the n records that stand in their places.
unfoldable pub closing : ℕ → ℕ → List ℕ → List ℕ
closing number n b = bytes 4 number ++ (bytes 2 n ++ (part first_at (record_size * n) b ++ replicate (check_at - record_at n) 0))

-- The bytes with that block closed; what is behind it stays, and all stays where it may not be closed.
unfoldable pub closed : List ℕ → ℕ → ℕ → List ℕ
closed b number n =
    cond (may_close b n)
    (closing number n b ++ (bytes 2 (check (closing number n b)) ++ drop block_size b))
    b

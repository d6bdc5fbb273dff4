-- What a block says, and the reader's tests in the order in which it refuses. Assumes nothing.
use Rattle.std.specs.Prelude.{Bool, true, cond, ◌&&◌, ◌||◌, Result, Ok, Err, List, [], ◌∷◌, ℕ, zero, suc, ◌-◌, eqb, leb, ltb, ℤ, pos, negsuc, length, get_or, take, drop}
use Rattle.std.specs.List.{list_all}
use Rattle.big_endian.specs.BigEndian.{value, part}
use Rattle.kernel.specs.Sizes.{within}
use Rattle.tape.specs.declared.Record.{Record}
use Rattle.tape.specs.declared.Fault.{Fault}
use Rattle.tape.specs.declared.Fault.TheVariants.{Short, Check, Count, Verb, Spare}
use Rattle.tape.specs.declared.Accepted.{Accepted}
use Rattle.tape.specs.Block.{block_size, count_at, first_at, record_size, most_records, check_at, record_at, has_place, four_bytes, check}

-- ---- what stands in a block

abbrev pub number_of : List ℕ → ℕ
number_of b = value (part 0 4 b)

abbrev pub count_of : List ℕ → ℕ
count_of b = value (part count_at 2 b)

abbrev pub check_of : List ℕ → ℕ
check_of b = value (part check_at 2 b)

-- The number that 4 bytes of two's complement mean.
abbrev pub signed : ℕ → ℤ
signed v = cond (ltb v 2147483648) (pos v) (negsuc (four_bytes - suc v))

-- The record that these bytes begin with.
unfoldable pub record_of : List ℕ → Record
record_of bs =
    record {
      verb = value (part 0 1 bs);
      first = value (part 1 4 bs);
      second = value (part 5 4 bs);
      answer = signed (value (part 9 4 bs));
      running = value (part 13 1 bs);
      clock = value (part 14 2 bs);
    }

-- So many records, one behind the other.
unfoldable pub records_of : ℕ → List ℕ → List Record
records_of zero bs = []
records_of (suc n) bs = record_of bs ∷ records_of n (drop record_size bs)

-- Record i of a block. Where there is no room for a block, or a block has no such place, a record of zeros.
abbrev pub blank : Record
blank = record { verb = 0; first = 0; second = 0; answer = pos 0; running = 0; clock = 0 }

abbrev pub nth : List ℕ → ℕ → Record
nth b i = cond (has_place b i) (record_of (drop (record_at i) b)) blank

-- The records of a block.
abbrev pub records : List ℕ → List Record
records b = records_of (count_of b) (drop first_at b)

-- ---- the tests

-- How many arguments each verb has, in the order of document 01's list: tick, hard, nrt, activate, sleep, cycle, end, kill, newsem, delsem, wait, signal.
abbrev pub arities : List ℕ
arities = 0 ∷ 2 ∷ 1 ∷ 1 ∷ 0 ∷ 0 ∷ 0 ∷ 1 ∷ 1 ∷ 1 ∷ 1 ∷ 1 ∷ []

-- A verb of that list, from 1.
abbrev pub known : Record → Bool
known r = within 1 r.verb (length arities)

-- Arguments that the verb does not have are 0.
abbrev pub spare : Record → Bool
spare r = let n = get_or arities (r.verb - 1) 0 in (leb 1 n || eqb r.first 0) && (leb 2 n || eqb r.second 0)

abbrev pub every : (Record → Bool) → List Record → Bool
every f [] = true
every f (r ∷ rs) = f r && every f rs

unfoldable pub zeros : List ℕ → Bool
zeros bs = list_all (λ b. eqb b 0) bs

-- Unused bytes: those behind the records, up to 509.
abbrev pub unused : List ℕ → List ℕ
unused b = part (record_at (count_of b)) (check_at - record_at (count_of b)) b

-- A test by the name of what is refused where it fails.
pub record Test : Type 0 where
  pub name : Fault
  pub holds : Bool

abbrev pub test : Fault → Bool → Test
test f b = record { name = f; holds = b }

-- The reader's tests, in the document's order: a short block, bad check, count, verb or spare byte.
abbrev pub tests : List ℕ → List Test
tests b =
    test Short (leb block_size (length b))
    ∷ test Check (eqb (check_of b) (check (take check_at b)))
    ∷ test Count (within 1 (count_of b) most_records)
    ∷ test Verb (every known (records b))
    ∷ test Spare (every spare (records b) && zeros (unused b))
    ∷ []

-- What the reader makes of a block: a refusal, or its number and how many records it has.
abbrev pub Reading : Type 0
Reading = Result Accepted Fault

-- It is accepted with this number and so many records.
abbrev pub accepts : ℕ → ℕ → Reading
accepts number n = Ok (record { number = number; count = n })

-- The first that fails names the refusal; else it is accepted.
abbrev pub judged : List Test → Reading → Reading
judged [] accepted = accepted
judged (t ∷ ts) accepted = cond t.holds (judged ts accepted) (Err t.name)

-- What the reader makes of bytes: a block is their first 512.
unfoldable pub reading : List ℕ → Reading
reading b = judged (tests b) (accepts (number_of b) (count_of b))

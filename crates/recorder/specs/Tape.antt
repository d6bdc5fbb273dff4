-- The tape of a script: a function of the bytes that are read. Assumes nothing.
use Rattle.std.specs.Prelude.{cond, Option, Some, None, List, [], ◌∷◌, ◌++◌, ℕ, ◌+◌, ◌%◌, eqb, length}
use Rattle.kernel.specs.Kernel.{Kernel}
use Rattle.kernel.specs.Fresh.{fresh}
use Rattle.verbs.specs.declared.Verb.{Verb}
use Rattle.verbs.specs.Verbs.{verb_of}
use Rattle.language.specs.Meaning.{meaning}
use Rattle.pieces.specs.Program.{lines, pieces, Turned, Program}
use Rattle.tape.specs.declared.Record.{Record}
use Rattle.tape.specs.Block.{most_records, four_bytes, written}
use Rattle.records.specs.Records.{outcome, record_of}

-- ---- the records of a script

-- What a line comes to: the kernel then, and its record, if its line is a call. Any other line is not recorded.
pub record Made : Type 0 where
  pub kernel : Kernel
  pub records : List Record

abbrev pub by_line : Option Verb → Kernel → Made
by_line None k = record { kernel = k; records = [] }
by_line (Some v) k = record { kernel = (outcome (verb_of v) k).kernel; records = record_of (verb_of v) k ∷ [] }

-- The records of lines, one behind the other.
unfoldable pub records : List (List ℕ) → Kernel → List Record
records [] k = []
records (line ∷ more) k = let m = by_line (meaning line) k in m.records ++ records more m.kernel

-- ---- blocks

-- Block numbers have 4 bytes: behind the last of them comes 0.
abbrev pub next : ℕ → ℕ
next number = (number + 1) % four_bytes

-- The last block; without records there is none.
abbrev pub last_block : ℕ → List Record → List ℕ
last_block number [] = []
last_block number (r ∷ rs) = written number (r ∷ rs)

-- Records in blocks from this number on, where some are in the block that is begun: every block but the last has 31.
unfoldable pub in_blocks : ℕ → List Record → List Record → List ℕ
in_blocks number begun [] = last_block number begun
in_blocks number begun (r ∷ rs) =
    cond (eqb (length begun + 1) most_records)
    (written number (begun ++ (r ∷ [])) ++ in_blocks (next number) [] rs)
    (in_blocks number (begun ++ (r ∷ [])) rs)

-- The tape of a script.
unfoldable pub tape : List ℕ → List ℕ
tape script = in_blocks 0 [] (records (pieces lines script) fresh)

-- ---- the recorder, line by line

-- The kernel, the records of the block that is begun, and its number.
pub record Recording : Type 0 where
  pub kernel : Kernel
  pub begun : List Record
  pub number : ℕ

-- A record more; a block that is full is written.
abbrev pub more_recorded : Kernel → List Record → ℕ → Record → Turned Recording
more_recorded k begun number r =
    cond (eqb (length begun + 1) most_records)
    (record { state = record { kernel = k; begun = []; number = next number }; text = written number (begun ++ (r ∷ [])) })
    (record { state = record { kernel = k; begun = begun ++ (r ∷ []); number = number }; text = [] })

abbrev pub recording : Option Verb → Recording → Turned Recording
recording None s = record { state = s; text = [] }
recording (Some v) s = more_recorded (outcome (verb_of v) s.kernel).kernel s.begun s.number (record_of (verb_of v) s.kernel)

unfoldable pub turn : List ℕ → Recording → Turned Recording
turn line s = recording (meaning line) s

-- The program `record`.
abbrev pub recorder : Program
recorder =
    record {
      State = Recording;
      cut = lines;
      title = [];
      start = record { kernel = fresh; begun = []; number = 0 };
      turn = turn;
      finish = λ s. last_block s.number s.begun;
    }

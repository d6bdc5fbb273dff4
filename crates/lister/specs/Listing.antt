-- The program `tape`: a line for each block. Assumes nothing.
use Rattle.std.specs.Prelude.{Ok, Err, List, [], ◌++◌, ℕ}
use Rattle.text.specs.Text.{bytes, decimal}
use Rattle.pieces.specs.Program.{blocks, next_index, Turned, Program}
use Rattle.tape.specs.declared.Fault.{Fault}
use Rattle.tape.specs.declared.Fault.TheVariants.{Short, Check, Count, Verb, Spare}
use Rattle.tape.specs.Reader.{Reading, reading}

-- A refusal's name.
abbrev pub name : Fault → List ℕ
name Short = bytes "short"
name Check = bytes "check"
name Count = bytes "count"
name Verb = bytes "verb"
name Spare = bytes "spare"

-- `block N records K`, or `refused NAME`.
abbrev pub told : Reading → List ℕ
told (Ok a) = bytes "block " ++ (decimal a.number ++ (bytes " records " ++ decimal a.count))
told (Err f) = bytes "refused " ++ name f

-- The line of block i: its index first.
abbrev pub line : ℕ → Reading → List ℕ
line i r = decimal i ++ (bytes " " ++ (told r ++ bytes "\n"))

unfoldable pub turn : List ℕ → ℕ → Turned ℕ
turn b i = record { state = next_index i; text = line i (reading b) }

-- The program counts the blocks from 0.
abbrev pub lister : Program
lister = record { State = ℕ; cut = blocks; title = []; start = 0; turn = turn; finish = λ i. [] }

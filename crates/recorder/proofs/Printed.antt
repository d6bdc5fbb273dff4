-- What the recorder prints is the tape of the script. Assumes nothing.
use mathlib.Core.Path.{◌≡◌, refl, ap, ◌∙◌}
use mathlib.Core.List.{List, [], ◌∷◌, ◌++◌}
use Prim.Native.Nat.{ℕ, ◌+◌}
use lib.Dec.{eqb}
use lib.ListN.{length}
use Rattle.std.proofs.Common.{Option, Some, None}
use Rattle.kernel.proofs.Decided.{either}
use Rattle.verbs.specs.declared.Verb.{Verb}
use Rattle.verbs.specs.Verbs.{verb_of}
use Rattle.language.specs.Meaning.{meaning}
use Rattle.pieces.specs.Program.{lines, pieces, Turned, prints, output}
use Rattle.tape.specs.Block.{most_records}
use Rattle.records.specs.Records.{outcome, record_of}
use Rattle.recorder.specs.Tape.{by_line, records, in_blocks, tape, Recording, recording, turn, recorder}

-- What a turn prints, and the blocks of the records of more lines behind it.
abbrev on_tape : List (List ℕ) → Turned Recording → List ℕ
on_tape ls t = t.text ++ in_blocks t.state.number t.state.begun (records ls t.state.kernel)

one_turn : (ls : List (List ℕ)) (l : Option Verb) (s : Recording)
    → on_tape ls (recording l s) ≡ in_blocks s.number s.begun ((by_line l s.kernel).records ++ records ls (by_line l s.kernel).kernel)
unfolding in_blocks
one_turn ls None s = refl
one_turn ls (Some v) s =
    let k = (outcome (verb_of v) s.kernel).kernel in
    let r = record_of (verb_of v) s.kernel in
    either (λ (t : Turned Recording). on_tape ls t ≡ in_blocks s.number s.begun (r ∷ records ls k)) (eqb (length s.begun + 1) most_records)
    (λ t. rw t)
    (λ t. rw t)

lines_print : (ls : List (List ℕ)) (s : Recording) → prints recorder ls s ≡ in_blocks s.number s.begun (records ls s.kernel)
unfolding in_blocks prints records turn
lines_print [] s = refl
lines_print (l ∷ ls) s = ap (λ (x : List ℕ). (turn l s).text ++ x) (lines_print ls (turn l s).state) ∙ one_turn ls (meaning l) s

-- **tape_printed**: what the recorder prints is the tape of the script.
pub tape_printed : (script : List ℕ) → output recorder script ≡ tape script
unfolding output tape
tape_printed script = lines_print (pieces lines script) recorder.start

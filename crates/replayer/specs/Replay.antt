-- The replay of a tape on a fresh kernel, up to the first refused or out-of-turn block. Assumes nothing.
use Rattle.std.specs.Prelude.{Ok, Err, Bool, true, false, cond, List, [], ◌∷◌, ◌++◌, ◌≡◌, ℕ, suc, eqb}
use Rattle.std.proofs.Math.Option.{Option, none, some}
use Rattle.kernel.specs.Answer.{same_number}
use Rattle.kernel.specs.Kernel.{Kernel}
use Rattle.kernel.specs.Fresh.{fresh}
use Rattle.kernel.specs.Seen.{seen}
use Rattle.text.specs.Text.{bytes, decimal}
use Rattle.pieces.specs.Program.{blocks, pieces, next_index, Turned, Program}
use Rattle.tape.specs.declared.Record.{Record}
use Rattle.tape.specs.Reader.{Reading, records, reading}
use Rattle.records.specs.Records.{outcome, asked}
use Rattle.recorder.specs.Tape.{next}
use Rattle.replayer.specs.declared.Course.{Course}
use Rattle.replayer.specs.declared.Course.TheVariants.{GoesOn, GoesOnDiffered, Stopped, Differed}
use Rattle.replayer.specs.declared.Replayed.{Replayed}

-- ---- what a replay finds

-- Blocks are in turn where their numbers are 0, 1, 2, ..: this one is accepted, and has this number.
abbrev pub in_turn : ℕ → Reading → Bool
in_turn number (Err f) = false
in_turn number (Ok a) = eqb a.number number

-- The records of blocks from this number on, up to the first that is refused or out of turn.
unfoldable pub told : ℕ → List (List ℕ) → List Record
told number [] = []
told number (b ∷ bs) = cond (in_turn number (reading b)) (records b ++ told (next number) bs) []

-- The index of the first record, counted from i on, whose answer is not the kernel's.
unfoldable pub differs : ℕ → List Record → Kernel → Option ℕ
differs i [] k = none
differs i (r ∷ rs) k =
    let o = outcome (asked r) k in
    cond (same_number o.answer.number r.answer) (differs (next_index i) rs o.kernel) (some i)

-- The index of the first differing answer of a tape, from 0.
unfoldable pub replayed : List ℕ → Option ℕ
replayed tape = differs 0 (told 0 (pieces blocks tape)) fresh

-- Each record's answer is that of a kernel that is run through the records' calls.
unfoldable pub AsAnswered : List Record → Kernel → Type 0
AsAnswered [] k = Unit
AsAnswered (r ∷ rs) k = let o = outcome (asked r) k in (r.answer ≡ o.answer.number) × AsAnswered rs o.kernel

-- The record of this index is the first whose answer is another.
pub data FirstDiffers : List Record → Kernel → ℕ → Type 0 where
  here : {r : Record} {rs : List Record} {k : Kernel} → (r.answer ≡ (outcome (asked r) k).answer.number → ⊥) → FirstDiffers (r ∷ rs) k 0
  later : {r : Record} {rs : List Record} {k : Kernel} {i : ℕ} → r.answer ≡ (outcome (asked r) k).answer.number → FirstDiffers rs (outcome (asked r) k).kernel i
      → FirstDiffers (r ∷ rs) k (suc i)

-- ---- the replay, block by block

-- The kernel, and where the replay stands.
pub record Replaying : Type 0 where
  pub kernel : Kernel
  pub at : Replayed

-- Whether it goes on, and whether an answer differed.
abbrev pub going : Course → Bool
going GoesOn = true
going GoesOnDiffered = true
going Stopped = false
going Differed = false

abbrev pub found : Course → Bool
found GoesOn = false
found GoesOnDiffered = true
found Stopped = false
found Differed = true

-- It goes no further.
abbrev pub stopped : Replayed → Bool → Replayed
stopped a differs = record { number = a.number; index = a.index; course = cond differs Differed Stopped }

-- The records of a block; behind them the next block is awaited.
unfoldable pub run : List Record → Replaying → Replaying
run [] s = record { kernel = s.kernel; at = record { number = next s.at.number; index = s.at.index; course = GoesOn } }
run (r ∷ rs) s =
    let o = outcome (asked r) s.kernel in
    cond (same_number o.answer.number r.answer)
    (run rs (record { kernel = o.kernel; at = record { number = s.at.number; index = next_index s.at.index; course = GoesOn } }))
    (record { kernel = o.kernel; at = stopped s.at true })

unfoldable pub turn : List ℕ → Replaying → Turned Replaying
turn b s =
    record {
      state = cond (going s.at.course)
          (cond (in_turn s.at.number (reading b)) (run (records b) s) (record { kernel = s.kernel; at = stopped s.at false }))
          s;
      text = [];
    }

-- The index of the first differing answer, or `none`.
abbrev pub verdict : Option ℕ → List ℕ
verdict none = bytes "none\n"
verdict (some i) = decimal i ++ bytes "\n"

-- The program `replay`.
abbrev pub replayer : Program
replayer =
    record {
      State = Replaying;
      cut = blocks;
      title = [];
      start = record { kernel = fresh; at = record { number = 0; index = 0; course = GoesOn } };
      turn = turn;
      finish = λ s. verdict (cond (found s.at.course) (some s.at.index) none);
    }

-- ---- the code's side

-- The words, and where the replay stands, are a state of it.
pub record Kept : Type 0 where
  pub words : List ℕ
  pub at : Replayed

abbrev pub replaying : List ℕ → Replayed → Replaying
replaying w a = record { kernel = seen w; at = a }

abbrev pub Keeps : Kept → Replaying → Type 0
Keeps k s = replaying k.words k.at ≡ s

-- What the replay prints is the verdict on the tape. Assumes nothing.
use mathlib.Core.Path.{◌≡◌, refl}
use mathlib.Core.Bool.{Bool, true, false, cond}
use mathlib.Core.List.{List, [], ◌∷◌, ◌++◌}
use mathlib.Core.Option.{none, some}
use Prim.Native.Nat.{ℕ}
use Rattle.kernel.specs.Answer.{same_number}
use Rattle.kernel.specs.Kernel.{Kernel}
use Rattle.kernel.specs.Fresh.{fresh}
use Rattle.kernel.proofs.Decided.{either}
use Rattle.pieces.specs.Program.{blocks, pieces, next_index, prints, output}
use Rattle.tape.specs.declared.Record.{Record}
use Rattle.tape.specs.Reader.{records, reading}
use Rattle.records.specs.Records.{outcome, asked}
use Rattle.recorder.specs.Tape.{next}
use Rattle.replayer.specs.declared.Course.TheVariants.{GoesOn}
use Rattle.replayer.specs.declared.Replayed.{Replayed}
use Rattle.replayer.specs.Replay.{in_turn, told, differs, replayed, Replaying, stopped, run, turn, verdict, replayer}

-- Where the replay goes no further, what is left of the tape changes nothing.
stays : (bs : List (List ℕ)) (k : Kernel) (a : Replayed) (found : Bool)
    → prints replayer bs (record { kernel = k; at = stopped a found }) ≡ verdict (cond found (some a.index) none)
unfolding prints turn
stays [] k a true = refl
stays [] k a false = refl
stays (b ∷ bs) k a true = stays bs k a true
stays (b ∷ bs) k a false = stays bs k a false

-- The replay awaits the block of this number, or is in it; i answers were the same.
abbrev going : Kernel → ℕ → ℕ → Replaying
going k number i = record { kernel = k; at = record { number = number; index = i; course = GoesOn } }

-- What these blocks print from there on is the verdict on their records.
abbrev Print : List (List ℕ) → Type 0
Print bs = (k : Kernel) (number i : ℕ) → prints replayer bs (going k number i) ≡ verdict (differs i (told number bs) k)

block_prints : (bs : List (List ℕ)) → Print bs → (rs : List Record) (k : Kernel) (number i : ℕ)
    → prints replayer bs (run rs (going k number i)) ≡ verdict (differs i (rs ++ told (next number) bs) k)
unfolding differs run
block_prints bs others [] k number i = others k (next number) i
block_prints bs others (r ∷ rs) k number i =
    let o = outcome (asked r) k in
    let rest = told (next number) bs in
    either (λ (s : Replaying). prints replayer bs s ≡ verdict (differs i (r ∷ (rs ++ rest)) k)) (same_number o.answer.number r.answer)
    (λ t. rw t (block_prints bs others rs o.kernel number (next_index i)))
    (λ t. rw t (stays bs o.kernel (going k number i).at true))

blocks_print : (bs : List (List ℕ)) → Print bs
unfolding prints turn told differs
blocks_print [] k number i = refl
blocks_print (b ∷ bs) k number i =
    either (λ (s : Replaying). prints replayer bs s ≡ verdict (differs i (told number (b ∷ bs)) k)) (in_turn number (reading b))
    (λ t. rw t (block_prints bs (blocks_print bs) (records b) k number i))
    (λ t. rw t (stays bs k (going k number i).at false))

-- **replay_printed**: what the replay prints is the verdict on the tape.
pub replay_printed : (t : List ℕ) → output replayer t ≡ verdict (replayed t)
unfolding output replayed
replay_printed t = blocks_print (pieces blocks t) fresh 0 0

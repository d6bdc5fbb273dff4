-- What is printed last, program by program. Assumes nothing.
use mathlib.Core.Path.{◌≡◌, refl, sym, subst}
use mathlib.Core.List.{List, []}
use Prim.Native.Nat.{ℕ}
use native.Mathlib.Omega.{arith}
use Rattle.text.proofs.Follows.{nothing}
use Rattle.pieces.specs.Reads.{Finished}
use Rattle.recorder.specs.Tape.{recorder}
use Rattle.recorder.specs.Keeps as Keeping
use Rattle.replayer.specs.Replay.{replayer}
use Rattle.replayer.specs.Replay as Replay
use Rattle.programs.specs.declared.Program.{Program}
use Rattle.programs.specs.declared.Program.TheVariants.{Dick, Record, Tape, Replay}
use Rattle.programs.specs.Programs.{model, Kept, Keeps, recording}

abbrev Last : Program → Kept → List ℕ → ℕ → List ℕ → ℕ → Type 0
Last p k paper printed paper' n = Finished (model p) Kept (Keeps p) k paper printed paper' n

-- A program's end is the end of the one that it is.
pub of : {p q : Program} {k : Kept} {paper : List ℕ} {printed : ℕ} {paper' : List ℕ} {n : ℕ} → p ≡ q → Last q k paper printed paper' n → Last p k paper printed paper' n
of {k = k} {paper} {printed} {paper'} {n} e f = subst (λ (x : Program). Last x k paper printed paper' n) (sym e) f

pub dick_last : (k : Kept) (paper : List ℕ) (printed : ℕ) → Last Dick k paper printed paper printed
dick_last k paper printed = record { text = []; put = nothing paper printed; short = omega arith; prints = λ s h. refl }

pub tape_last : (k : Kept) (paper : List ℕ) (printed : ℕ) → Last Tape k paper printed paper printed
tape_last k paper printed = record { text = []; put = nothing paper printed; short = omega arith; prints = λ s h. refl }

module _ (k : Kept) {paper paper' : List ℕ} {printed n : ℕ} where
  pub record_last : Finished recorder Keeping.Kept Keeping.Keeps (recording k) paper printed paper' n → Last Record k paper printed paper' n
  record_last f = record { text = f.text; put = f.put; short = f.short; prints = f.prints }

  pub replay_last : Finished replayer Replay.Kept Replay.Keeps (record { words = k.words; at = k.at.replayed }) paper printed paper' n → Last Replay k paper printed paper' n
  replay_last f = record { text = f.text; put = f.put; short = f.short; prints = f.prints }

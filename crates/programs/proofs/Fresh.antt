-- Every program starts from the fresh words. Assumes nothing.
use mathlib.Core.Path.{◌≡◌, refl, ap, sym, subst, ◌∙◌}
use mathlib.Core.List.{List}
use Prim.Native.Nat.{ℕ}
use native.Mathlib.Omega.{arith}
use lib.ListN.{length}
use Rattle.kernel.specs.Kernel.{Kernel}
use Rattle.kernel.specs.Fresh.{fresh_words}
use Rattle.kernel.specs.Seen.{seen}
use Rattle.kernel.specs.Sound.{Sound}
use Rattle.laws_words.proofs.Fresh.{fresh_seen, fresh_sound}
use Rattle.pieces.specs.Program.{longest}
use Rattle.pieces.specs.Reads.{at_start}
use Rattle.pieces.proofs.Begun.{none_begun}
use Rattle.tape.proofs.Held.{none_held}
use Rattle.programs.specs.declared.Program.{Program}
use Rattle.programs.specs.declared.Program.TheVariants.{Dick, Record, Tape, Replay}
use Rattle.programs.specs.Programs.{model, Keeps, Ready, Stands, start, kept, desk}

kept_fresh : (p : Program) {w : List ℕ} → w ≡ fresh_words → (block : List ℕ) → Keeps p (kept w block start) (model p).start
kept_fresh Dick e block = ap seen e ∙ fresh_seen
kept_fresh Record e block = record { kernel = ap seen e ∙ fresh_seen; records = none_held block; count = refl; number = refl }
kept_fresh Tape e block = refl
kept_fresh Replay e block = ap (λ (k : Kernel). record { kernel = k; at = start.replayed }) (ap seen e ∙ fresh_seen)

-- **starts**: with the fresh words, whatever the buffers hold.
pub starts : (p : Program) {w : List ℕ} → w ≡ fresh_words → (block piece : List ℕ) → Stands p (desk w block start piece) (at_start (model p))
starts p e block piece = record { keeps = kept_fresh p e block; begun = none_begun (model p).cut piece }

pub fresh_ready : {w block : List ℕ} → w ≡ fresh_words → length block ≡ longest → Ready (kept w block start)
fresh_ready e size = record { sound = subst Sound (sym e) fresh_sound; size = size; room = omega arith }

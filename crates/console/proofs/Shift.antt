-- A shift that is recorded and replayed, of the programs that are run. Assumes nothing.
use mathlib.Core.Path.{◌≡◌, ap, sym, ◌∙◌}
use mathlib.Core.List.{List}
use mathlib.Core.Logic.{◌↔◌}
use Prim.Native.Nat.{ℕ}
use Rattle.kernel.specs.Fresh.{fresh}
use Rattle.text.specs.Text.{bytes}
use Rattle.pieces.specs.Program.{blocks, pieces}
use Rattle.recorder.specs.Tape.{tape}
use Rattle.recorder.proofs.Printed.{tape_printed}
use Rattle.replayer.specs.Replay.{told, replayed, AsAnswered, verdict}
use Rattle.replayer.proofs.Differs.{told_apart}
use Rattle.replayer.proofs.Printed.{replay_printed}
use Rattle.replayer.proofs.Replays.{replays}
use Rattle.replayer.proofs.Verdict.{none_alone}
use Rattle.programs.specs.declared.Program.TheVariants.{Record, Replay}
use Rattle.console.specs.declared.Ending.{Ending}
use Rattle.console.specs.Exchange.{Ran, input, printed}
use Rattle.console.proofs.Output.{all_printed}

-- **shift_recorded**: what `record` is to print is the tape of the script that it read.
pub shift_recorded : {r : Ending} (h : Ran Record r) → printed h ≡ tape (input h.answers)
shift_recorded h = all_printed h ∙ tape_printed (input h.answers)

-- **shift_replays**: where `replay` reads what `record` printed, it prints `none`.
pub shift_replays : {r r' : Ending} (h : Ran Record r) (h' : Ran Replay r') → input h'.answers ≡ printed h → printed h' ≡ bytes "none\n"
shift_replays h h' e =
    all_printed h'
    ∙ replay_printed (input h'.answers)
    ∙ ap (λ (t : List ℕ). verdict (replayed t)) (e ∙ shift_recorded h)
    ∙ ap verdict (replays (input h.answers))

-- **shift_told_apart**: `replay` prints `none` exactly where each record's answer, of the accepted blocks in turn, is that of a fresh kernel run through the records' calls.
pub shift_told_apart : {r : Ending} (h : Ran Replay r) → (printed h ≡ bytes "none\n") ↔ AsAnswered (told 0 (pieces blocks (input h.answers))) fresh
shift_told_apart h =
    let t = input h.answers in
    let said = all_printed h ∙ replay_printed t in
    (λ e. (told_apart t).0 (none_alone (replayed t) (sym said ∙ e)), λ a. said ∙ ap verdict ((told_apart t).1 a))

-- Document 01's script and its whole output, byte for byte, computed on the definitions. Assumes nothing.
use Rattle.std.specs.Prelude.{◌≡◌, refl, List, ℕ}
use Rattle.language.specs.Meaning.{index_of, index_after}
use Rattle.kernel.specs.Sizes.{fitting}
use Rattle.kernel.specs.Kernel.{share, lowest}
use Rattle.kernel.specs.Moves.{move, dispatch, preempt, schedule}
use Rattle.kernel.specs.Tick as Tick
use Rattle.kernel.specs.Tasks as Tasks
use Rattle.kernel.specs.Channels.{same_bytes}
use Rattle.kernel.specs.Calls.{effect}
use Rattle.kernel.specs.Step.{step}
use Rattle.kernel.specs.Fresh.{fresh}
use Rattle.language.specs.Meaning.{number_from, number_of, sought, meaning}
use Rattle.text.specs.Text.{bytes, digits}
use Rattle.pieces.specs.Program.{pieces_from, prints, output}
use Rattle.script.specs.Output.{turn, dick}

pub document : List ℕ
document =
    bytes
    "hard 4 1\nhard 8 4\nactivate 2\nactivate 1\ncycle\ntick\ntick\ntick\ntick\ncycle\nkill 2\nhard 8 6\nnrt 3\ncycle\ntick\ntick\ntick\ntick\nhard 8 6"

pub document_output : output dick document
    ≡ bytes
    "dick 1\n1 0 0\n2 0 0\n0 2 0\n0 1 0\n0 2 0\n0 2 1\n0 2 2\n0 2 3\n0 2 4\n0 1 4\n0 1 4\n-3 1 4\n3 1 4\n0 0 4\n0 0 5\n0 0 6\n0 0 7\n0 1 8\n2 1 8\n"
unfolding document output prints pieces_from turn meaning sought same_bytes number_of number_from digits index_of index_after fresh step effect fitting share lowest move dispatch preempt schedule Tick.free Tick.wake Tick.free_zombies Tick.wake_idle Tick.tick Tasks.lowest_free Tasks.create Tasks.activate Tasks.cycle Tasks.close_sessions Tasks.finish Tasks.end Tasks.kill
document_output = refl

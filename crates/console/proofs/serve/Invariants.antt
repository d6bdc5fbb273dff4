-- What goes from exchange to exchange is the exchanges so far, and how long the buffers are. The measure is the number of spare that are left. Assumes nothing.
use Rattle.std.proofs.Common.{◌≡◌, length}
use Rattle.pieces.specs.Program.{longest}
use Rattle.programs.specs.Programs.{desk}
use Rattle.console.specs.Exchange.{longest_block}
use Rattle.console.proofs.Exchanges.{SoFar}
use Rattle.console.proofs.serve.Given as goal

abbrev pub invariant-loop-at : goal.invariant-loop-at
invariant-loop-at l =
    (length l.piece ≡ longest)
    × (length l.input ≡ length l.initial.input)
    × (length l.paper ≡ longest_block)
    × SoFar l.p l.initial.at.further l.at (desk l.w l.block l.at.at l.piece) l.spare

abbrev pub decreases-loop-at : goal.decreases-loop-at
decreases-loop-at l = l.spare

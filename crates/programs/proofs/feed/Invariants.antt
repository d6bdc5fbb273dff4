-- Byte by byte, as long as there is room. Assumes nothing.
use Rattle.std.proofs.Common.{length}
use Rattle.programs.specs.Programs.{desk}
use Rattle.programs.proofs.Feeding.{SoFar}
use Rattle.programs.proofs.feed.Given as goal

abbrev pub invariant-loop-i : goal.invariant-loop-i
invariant-loop-i l =
    SoFar l.p l.bytes (desk l.initial.w l.initial.block l.initial.at l.initial.piece) (length l.initial.paper) (desk l.w l.block l.at l.piece) l.paper l.printed l.i

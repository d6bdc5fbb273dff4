-- What goes from paper to paper is what is read so far. The measure is what is left of the bytes. Assumes nothing.
use Rattle.std.proofs.Common.{◌-◌, length}
use Rattle.programs.specs.Programs.{desk}
use Rattle.console.proofs.Exchanges.{ReadSoFar}
use Rattle.console.proofs.respond.Given as goal

abbrev pub invariant-loop-whole : goal.invariant-loop-whole
invariant-loop-whole l =
    ReadSoFar l.p l.bytes (desk l.initial.w l.initial.block l.initial.at l.initial.piece) (desk l.w l.block l.at l.piece) l.paper l.read l.printed

abbrev pub decreases-loop-whole : goal.decreases-loop-whole
decreases-loop-whole l = length l.bytes - l.read

-- Byte by byte, as long as there is room. Assumes nothing.
use Rattle.std.proofs.Common.{◌+◌, ◌≤◌, length, arith}
use Rattle.pieces.specs.Program.{longest}
use Rattle.programs.specs.Programs.{desk}
use Rattle.programs.proofs.Feeding.{begins, one_more}
use Rattle.programs.proofs.feed.Goals as goal

pub loop-i-init : goal.loop-i-init
loop-i-init c = begins c.args.p c.args.bytes.now (desk c.args.w.now c.args.block.now c.args.from c.args.piece.now) c.args.paper.now c.requires.ready c.requires.piece_size

pub loop-i-preserved : goal.loop-i-preserved
loop-i-preserved c =
    -- What a byte can print has room where the test says so.
    let room : c.loop-i.printed + longest ≤ length c.args.paper.now = omega arith in
    one_more c.loop-i.invariant c.loop-i-test.true room c.byte-t.auto.piece c.byte-t.ensures

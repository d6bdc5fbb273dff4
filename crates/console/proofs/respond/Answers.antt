-- What goes from paper to paper is what is read so far. Assumes nothing.
use Rattle.std.proofs.Common.{◌<◌, arith}
use Rattle.programs.specs.Programs.{desk}
use Rattle.console.proofs.Exchanges.{none_so_far, unread_length, paper_more}
use Rattle.console.proofs.respond.Goals as goal

pub loop-whole-init : goal.loop-whole-init
loop-whole-init c = none_so_far c.args.p c.args.bytes.now (desk c.args.w.now c.args.block.now c.args.from c.args.piece.now) c.requires.ready c.requires.piece_size c.requires.paper_size

pub loop-whole-preserved : goal.loop-whole-preserved
loop-whole-preserved c =
    let l = c.loop-whole in
    let f = c.feed-f in
    -- Of bytes that are left, one at least is read.
    let some : 0 < f.result.read = f.ensures.read_nonzero (omega (arith, unread_length c.args.bytes.now l.read)) in
    paper_more l.invariant f.result.read f.result.printed f.ensures.read_in_bounds some f.ensures.prefix_len.0 f.ensures.ready f.auto.piece f.auto.paper f.ensures.reads
    c.print-out.result.bytes
    c.print-out.ensures

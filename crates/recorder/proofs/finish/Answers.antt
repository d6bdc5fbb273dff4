-- A block that is begun goes out. Assumes nothing.
use Rattle.recorder.proofs.Keeping.{last_finished}
use Rattle.recorder.proofs.finish.Goals as goal

pub returns : goal.returns
returns c =
    last_finished (record { words = c.args.w.now; block = c.args.block.now; at = c.args.at }) c.requires.ready c.if-at-eq0.false c.out.ensures.block_after c.out.ensures.continued

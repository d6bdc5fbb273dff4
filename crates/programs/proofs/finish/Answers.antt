-- Each program has its own end. Assumes nothing.
use Rattle.programs.specs.Programs.{kept}
use Rattle.programs.proofs.Ends.{of, dick_last, tape_last, record_last, replay_last}
use Rattle.programs.proofs.finish.Goals as goal

pub returns-in-Dick : goal.returns-in-Dick
returns-in-Dick c = of c.in-Dick.is (dick_last (kept c.args.w.now c.args.block.now c.args.at) c.args.paper.now c.args.printed)

pub returns-in-Record : goal.returns-in-Record
returns-in-Record c = of c.in-Record.is (record_last (kept c.args.w.now c.args.block.now c.args.at) c.finish.ensures)

pub returns-in-Tape : goal.returns-in-Tape
returns-in-Tape c = of c.in-Tape.is (tape_last (kept c.args.w.now c.args.block.now c.args.at) c.args.paper.now c.args.printed)

pub returns-in-Replay : goal.returns-in-Replay
returns-in-Replay c = of c.in-Replay.is (replay_last (kept c.args.w.now c.args.block.now c.args.at) (c.finish-in-Replay.ensures c.args.w.now))

-- Each program has its own turn. Assumes nothing.
use Rattle.programs.proofs.Turns.{dick_turn, record_turn, tape_turn, replay_turn, of}
use Rattle.programs.proofs.turn.Goals as goal

pub returns-in-Dick : goal.returns-in-Dick
returns-in-Dick c = of c.in-Dick.is (dick_turn c.args.piece.now c.args.w.now c.args.block.now c.args.at c.requires.ready c.step.ensures)

pub returns-in-Record : goal.returns-in-Record
returns-in-Record c = of c.in-Record.is (record_turn c.args.piece.now c.args.w.now c.args.block.now c.args.at c.requires.ready c.line-t.result.at c.line-t.ensures.ready c.line-t.ensures.taken)

pub returns-in-Tape : goal.returns-in-Tape
returns-in-Tape c = of c.in-Tape.is (tape_turn c.args.piece.now c.args.w.now c.args.block.now c.args.at c.requires.ready c.block-t.result.at c.block-t.ensures)

pub returns-in-Replay : goal.returns-in-Replay
returns-in-Replay c = of c.in-Replay.is (replay_turn c.args.piece.now c.args.w.now c.args.block.now c.args.at c.requires.ready c.block-to.result c.block-to.ensures.sound c.block-to.ensures.result_after)

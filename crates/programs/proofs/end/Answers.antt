-- A piece that is begun has its turn, and then comes what is printed last. Assumes nothing.
use Rattle.programs.specs.Programs.{desk}
use Rattle.programs.proofs.Ending.{none_ends, piece_ends}
use Rattle.programs.proofs.end.Goals as goal

pub returns-then-none_begun-clause-ends : goal.returns-then-none_begun-clause-ends
returns-then-none_begun-clause-ends c = none_ends {p = c.args.p} (desk c.args.w.now c.args.block.now c.args.at c.args.piece.now) c.if-none_begun.true c.finish.ensures

pub returns-clause-ends : goal.returns-clause-ends
returns-clause-ends c = piece_ends {p = c.args.p} (desk c.args.w.now c.args.block.now c.args.at c.args.piece.now) c.if-none_begun.false c.requires.piece_size c.ended-t.ensures c.finish-2.ensures

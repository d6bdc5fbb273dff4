-- A byte ends the piece that is begun, or goes on with it. Assumes nothing.
use Rattle.std.proofs.Common.{sym, ◌∙◌}
use mathlib.Core.Bool.{false≢true}
use Rattle.programs.proofs.Bytes.{newline_fed, line_fed, part_fed, block_fed}
use Rattle.programs.proofs.byte.Goals as goal

pub returns-then-newline : goal.returns-then-newline
returns-then-newline c = newline_fed c.args.p c.args.b c.args.w.now c.args.block.now c.args.piece.now c.args.at (c.by_lines.ensures.0 c.if-by_lines.true) c.if-newline.true c.ended.ensures

pub returns-then-by_lines : goal.returns-then-by_lines
returns-then-by_lines c = line_fed c.args.p c.args.b c.args.w.now c.args.block.now c.args.piece.now c.args.at c.longer-begun.ensures c.requires.ready (c.by_lines.ensures.0 c.if-by_lines.true) c.if-newline.false

pub returns-then-n-eq-LONGEST : goal.returns-then-n-eq-LONGEST
returns-then-n-eq-LONGEST c = block_fed c.args.p c.args.b c.args.w.now c.args.block.now c.args.piece.now c.args.at c.longer-n.ensures (λ cut. false≢true (sym c.if-by_lines.false ∙ c.by_lines.ensures.1 cut)) (c.longer-n.auto.piece ∙ c.requires.piece_size) c.if-n-eq-LONGEST.true c.ended-then-n-eq-LONGEST.ensures

pub returns : goal.returns
returns c = part_fed c.args.p c.args.b c.args.w.now c.args.block.now c.args.piece.now c.args.at c.longer-n.ensures (λ cut. false≢true (sym c.if-by_lines.false ∙ c.by_lines.ensures.1 cut)) (c.longer-n.auto.piece ∙ c.requires.piece_size) c.requires.ready c.if-n-eq-LONGEST.false

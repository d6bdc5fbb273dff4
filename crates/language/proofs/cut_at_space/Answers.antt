-- A line has a space, or none. Assumes nothing.
use Rattle.language.proofs.Cut.{cut, uncut}
use Rattle.language.proofs.cut_at_space.Goals as goal

pub returns-in_err-end : goal.returns-in_err-end
returns-in_err-end c = rw c.from_residual.ensures (uncut c.args.line.now c.in_err-end.ensures)

pub returns : goal.returns
returns c = cut c.args.line.now c.in_ok-end.end c.in_ok-end.ensures

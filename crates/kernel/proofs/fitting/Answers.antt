-- Period and cost, one bound after the other. Assumes nothing.
use Rattle.std.proofs.Common.{refl}
use borrow.Author.Tests.{le-leb, lt-leb}
use Rattle.kernel.specs.Sizes.{longest_period, fitting}
use Rattle.kernel.proofs.fitting.Goals as goal

pub returns-then-period-lt1 : goal.returns-then-period-lt1
unfolding fitting
returns-then-period-lt1 c = rw (lt-leb 1 c.args.period c.if-period-lt1.true) refl

pub returns-then-period : goal.returns-then-period
unfolding fitting
returns-then-period c = rw (le-leb 1 c.args.period c.if-period-lt1.false, lt-leb c.args.period longest_period c.if-period.true) refl

pub returns-then-cost-lt1 : goal.returns-then-cost-lt1
unfolding fitting
returns-then-cost-lt1 c =
    rw (le-leb 1 c.args.period c.if-period-lt1.false, le-leb c.args.period longest_period c.if-period.false, lt-leb 1 c.args.cost c.if-cost-lt1.true) refl

pub returns : goal.returns
unfolding fitting
returns c =
    rw (le-leb 1 c.args.period c.if-period-lt1.false, le-leb c.args.period longest_period c.if-period.false, le-leb 1 c.args.cost c.if-cost-lt1.false) refl

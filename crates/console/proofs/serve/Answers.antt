-- What goes from exchange to exchange is the exchanges so far, and how long the buffers are. Assumes nothing.
use Rattle.std.proofs.Common.{ap, ◌∙◌, length, rules, arith}
use Rattle.kernel.specs.declared.State.{State}
use Rattle.console.proofs.Exchanges.{none_yet, once_more}
use Rattle.console.proofs.serve.Goals as goal

pub loop-at-init : goal.loop-at-init
loop-at-init c =
    let fresh = ap (λ (s : State). s.words) c.fresh-fresh.ensures in
    (search rules, search rules, search rules, none_yet c.start.ensures fresh (search rules) (c.print-title.ensures ∙ ap length c.title-n.ensures.paper_after))

pub loop-at-preserved : goal.loop-at-preserved
loop-at-preserved c = (
  search rules,
  search rules,
  search rules,
  once_more c.loop-at.invariant.3 c.loop-at-test.true (omega arith) c.exchange-at.ensures.ready c.exchange-at.ensures.exchange,
)

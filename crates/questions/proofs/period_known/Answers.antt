-- The rows of the question, and then its number. Assumes nothing.
use Rattle.std.proofs.Common.{refl, arith}
use Rattle.kernel.specs.Calls.{effect}
use Rattle.refusals.proofs.Answers.{asked_number, behind}
use Rattle.questions.proofs.period_known.Goals as goal

pub returns-in_err-may_ask_period : goal.returns-in_err-may_ask_period
unfolding effect
returns-in_err-may_ask_period c = search (behind, c.in_err-may_ask_period.was, c.from_residual.ensures)

pub returns : goal.returns
unfolding effect
returns c = asked_number c.may_ask_period.ensures c.requires c.in_ok-may_ask_period.was (omega arith) c.period_of.ensures (λ m. refl)

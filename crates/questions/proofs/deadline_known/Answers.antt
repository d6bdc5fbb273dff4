-- The rows of the question, and then its number. Assumes nothing.
use Rattle.std.proofs.Common.{refl, arith}
use Rattle.kernel.specs.Calls.{effect}
use Rattle.refusals.proofs.Answers.{asked_number, behind}
use Rattle.questions.proofs.deadline_known.Goals as goal

pub returns-in_err-may_ask : goal.returns-in_err-may_ask
unfolding effect
returns-in_err-may_ask c = search (behind, c.in_err-may_ask.was, c.from_residual.ensures)

pub returns : goal.returns
unfolding effect
returns c = asked_number c.may_ask.ensures.deadline c.requires c.in_ok-may_ask.was (omega arith) c.deadline_of.ensures (λ m. refl)

-- The rows of the question, and then its number. Assumes nothing.
use Rattle.std.proofs.Common.{refl, arith}
use Rattle.kernel.specs.Calls.{effect}
use Rattle.refusals.proofs.Answers.{asked_number, behind}
use Rattle.questions.proofs.clock_known.Goals as goal

pub returns-in_err-every_call : goal.returns-in_err-every_call
unfolding effect
returns-in_err-every_call c = search (behind, c.in_err-every_call.was, c.from_residual.ensures)

pub returns : goal.returns
unfolding effect
returns c = asked_number (λ m. record { tested = c.every_call.ensures }) c.requires c.in_ok-every_call.was (omega arith) c.clock.ensures (λ m. refl)

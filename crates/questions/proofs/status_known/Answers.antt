-- The rows of the question, and then its number. Assumes nothing.
use Rattle.std.proofs.Common.{refl, ap, ◌∙◌}
use Rattle.kernel.specs.Calls.{effect}
use Rattle.kernel.specs.declared.Status.{Status}
use Rattle.kernel.specs.Status.{status_number}
use Rattle.refusals.proofs.Answers.{asked_number, behind}
use Rattle.questions.proofs.Numbers.{status_small}
use Rattle.questions.proofs.status_known.Goals as goal

pub returns-in_err-may_ask_status : goal.returns-in_err-may_ask_status
unfolding effect
returns-in_err-may_ask_status c = search (behind, c.in_err-may_ask_status.was, c.from_residual.ensures)

pub returns : goal.returns
unfolding effect
returns c = asked_number c.may_ask_status.ensures c.requires c.in_ok-may_ask_status.was (status_small _ _ c.status_number.ensures) (c.status_number.ensures ∙ ap (λ (a : Status). status_number a) c.status_of.ensures) (λ m. refl)

-- The rows of the question, and then its number. Assumes nothing.
use Rattle.std.proofs.Common.{◌≡◌, refl, ◌∙◌, rules, w64, to_z, of_z}
use Rattle.kernel.specs.Calls.{effect}
use Rattle.refusals.proofs.Answers.{asked, behind}
use Rattle.questions.proofs.slack_known.Goals as goal

pub returns-in_err-may_ask : goal.returns-in_err-may_ask
unfolding effect
returns-in_err-may_ask c = search (behind, c.in_err-may_ask.was, c.from_residual.ensures)

pub returns : goal.returns
unfolding effect
returns c =
    let n = c.slack_of in
    let bits : to_z w64 (of_z w64 n.result) ≡ n.result = search rules in
    asked c.may_ask.ensures.slack c.requires c.in_ok-may_ask.was (bits ∙ n.ensures) (λ m. refl)

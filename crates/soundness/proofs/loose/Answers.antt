-- A task's links are -1 where their words are that of -1. Assumes nothing.
use Rattle.std.proofs.Common.{ap, sym, ◌∙◌}
use Rattle.kernel.specs.Codes.{link}
use Rattle.kernel.proofs.Decided.{no, means, equal}
use Rattle.kernel.proofs.Codes.{link_none, link_once}
use Rattle.soundness.proofs.loose.Goals as goal

pub returns-then-next : goal.returns-then-next
returns-then-next c = no (λ h. c.if-next.true (c.next.ensures ∙ link_once _ _ (h.next ∙ sym link_none)))

pub returns : goal.returns
returns c =
    means (equal _ _)
    (λ e. record { next = ap link (sym c.next.ensures ∙ c.if-next.false) ∙ link_none; previous = ap link (sym c.previous.ensures ∙ e) ∙ link_none })
    (λ h. c.previous.ensures ∙ link_once _ _ (h.previous ∙ sym link_none))

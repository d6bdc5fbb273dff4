-- The verb hard, or another. Assumes nothing.
use Rattle.std.proofs.Common.{◌∙◌}
use Rattle.text.specs.Text.{bytes}
use Rattle.language.proofs.Words.{told}
use Rattle.language.proofs.followed.Goals as goal

pub returns-then-eq : goal.returns-then-eq
returns-then-eq c = c.hard.ensures ∙ rw (told c.args.verb.now (bytes "hard") _ c.eq.ensures c.as_slice.ensures c.if-eq.true)

pub returns-in_err-value : goal.returns-in_err-value
returns-in_err-value c = rw (told c.args.verb.now (bytes "hard") _ c.eq.ensures c.as_slice.ensures c.if-eq.false, ← c.in_err-value.ensures) c.from_residual.ensures

pub returns : goal.returns
returns c = c.with_one.ensures ∙ rw (told c.args.verb.now (bytes "hard") _ c.eq.ensures c.as_slice.ensures c.if-eq.false, ← c.in_ok-value.ensures)

-- The rows of begin write, and then its work. Assumes nothing.
use Rattle.std.proofs.Common.{refl, arith}
use Rattle.kernel.specs.Channels.{begin_write}
use Rattle.kernel.specs.Calls.{effect}
use Rattle.kernel.proofs.Messages.{most, taken}
use Rattle.refusals.proofs.Answers.{lets_pass, lent_took_effect, behind}
use Rattle.writing.proofs.begin_write_known.Goals as goal

pub with_own-requires-clause-is_buffer : goal.with_own-requires-clause-is_buffer
unfolding effect begin_write
with_own-requires-clause-is_buffer c =
    let a = lets_pass (c.may_begin.ensures c.args.memory.now refl) c.in_ok-may_begin.was in
    rw c.cleared-b.ensures.lowest (omega (arith, most c.requires.good _ a.1, taken c.requires.good _ a.1 a.3))

pub returns-in_err-may_begin : goal.returns-in_err-may_begin
unfolding effect begin_write
returns-in_err-may_begin c = search (behind, c.in_err-may_begin.was, c.from_residual.ensures)

pub returns : goal.returns
unfolding effect begin_write
returns c = rw c.cleared-b.ensures.cleared (lent_took_effect c.may_begin.ensures c.in_ok-may_begin.was (rw c.cleared-b.ensures.lowest at c.with_own.ensures) refl)

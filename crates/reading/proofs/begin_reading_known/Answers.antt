-- The rows of begin reading, and then its work. Assumes nothing.
use Rattle.std.proofs.Common.{ℕ, refl, ap, ◌∙◌, arith}
use Rattle.kernel.specs.declared.Session.TheVariants.{Reading}
use Rattle.kernel.specs.Channels.{with_own, begin_reading}
use Rattle.kernel.specs.Calls.{effect}
use Rattle.kernel.specs.Seen.{seen}
use Rattle.refusals.proofs.Answers.{lets_pass, lent_took_effect, behind}
use Rattle.reading.proofs.Read.{newest_most}
use Rattle.reading.proofs.begin_reading_known.Goals as goal

pub with_own-requires-clause-is_buffer : goal.with_own-requires-clause-is_buffer
unfolding effect begin_reading
with_own-requires-clause-is_buffer c =
    let a = lets_pass (c.may_begin.ensures c.args.memory.now refl) c.in_ok-may_begin.was in
    omega (arith, c.newest-b.ensures, newest_most c.requires.good c.args.c a.1 a.3)

pub returns-in_err-may_begin : goal.returns-in_err-may_begin
unfolding effect begin_reading
returns-in_err-may_begin c = search (behind, c.in_err-may_begin.was, c.from_residual.ensures)

pub returns : goal.returns
unfolding effect begin_reading
returns c =
    let s = c.with_own.ensures in
    lent_took_effect c.may_begin.ensures c.in_ok-may_begin.was
    (record { kept = s.kept; is = s.is ∙ ap (λ (n : ℕ). with_own (seen c.args.w.now) c.args.c (Reading n)) c.newest-b.ensures })
    refl

-- A buffer is in a session where some task's holds it. Assumes nothing.
use Rattle.std.proofs.Common.{rules, arith}
use Rattle.kernel.proofs.Ranges.{any_below}
use Rattle.words.proofs.Seen.{session_seen}
use Rattle.buffers.proofs.Sessions.{some_holds}
use Rattle.buffers.proofs.in_session.Goals as goal

pub returns : goal.returns
returns c =
    some_holds c.args.w.now c.args.c c.args.b c.any.result
    (any_below c.any.ensures.ran (λ t b q k. (search rules, λ l. grind (arith, session_seen c.args.w.now c.args.c t c.requires l))))

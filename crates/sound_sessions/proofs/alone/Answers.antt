-- No other task's session names the buffer where each does not. Assumes nothing.
use Rattle.std.proofs.Common.{rules, arith}
use Rattle.kernel.proofs.Ranges.{all_below}
use Rattle.words.proofs.Seen.{session_seen}
use Rattle.sound_sessions.proofs.alone.Goals as goal

pub returns : goal.returns
returns c = all_below c.all.ensures.ran (λ u b q k. (search rules, λ l. grind (arith, session_seen c.args.w.now c.args.c u c.requires l)))

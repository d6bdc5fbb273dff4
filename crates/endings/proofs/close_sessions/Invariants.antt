-- The sessions of a task are closed, a channel a turn. Assumes nothing.
use Rattle.endings.proofs.Closing.{Closing}
use Rattle.endings.proofs.close_sessions.Given as goal

abbrev pub invariant-loop-c : goal.invariant-loop-c
invariant-loop-c l = Closing l.fn.w l.n l.c l.w

-- Clock and deadline are those that are seen. Assumes nothing.
use Rattle.std.proofs.Common.{ap, sym, ltb}
use Rattle.kernel.specs.Kernel.{Bare}
use Rattle.kernel.specs.Seen.{seen}
use Rattle.words.proofs.Seen.{task_seen}
use Rattle.tasks.proofs.early.Goals as goal

pub returns : goal.returns
returns c =
    let w = c.args.w.now in
    rw (c.clock.ensures, c.deadline-deadline.ensures) (sym (ap (λ (a : Bare). ltb (seen w).clock a.deadline) (task_seen w c.args.i c.requires)))

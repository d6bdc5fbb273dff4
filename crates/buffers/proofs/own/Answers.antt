-- The running task's session; where there is none, nothing is promised. Assumes nothing.
use Rattle.std.proofs.Common.{◌∙◌, ap, sym, ℕ}
use Rattle.kernel.specs.Kernel.{slot_number}
use Rattle.kernel.specs.Layout.{word, running_at}
use Rattle.kernel.specs.Seen.{slot_in}
use Rattle.words.proofs.Seen.{session_seen}
use Rattle.buffers.proofs.own.Goals as goal

pub returns-then-t-lt-TASKS : goal.returns-then-t-lt-TASKS
returns-then-t-lt-TASKS c l h =
    let k = c.args in
    c.session.ensures
    ∙ ap (λ (t : ℕ). (slot_in k.w.now (slot_number k.c t)).session) c.running-t.ensures
    ∙ sym (session_seen k.w.now k.c (word k.w.now running_at) l h)

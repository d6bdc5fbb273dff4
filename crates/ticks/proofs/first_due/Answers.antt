-- The first of a queue is due, or none is. Assumes nothing.
use Rattle.std.proofs.Common.{◌≡◌, ℕ, List, ◌<◌, ap, sym, ◌∙◌, arith}
use Rattle.kernel.specs.Sizes.{task_count}
use Rattle.kernel.specs.Kernel.{Bare, task}
use Rattle.kernel.specs.Seen.{deadline_in, seen}
use Rattle.words.proofs.Seen.{task_seen}
use Rattle.laws_effects.proofs.Sweep.{none_due}
use Rattle.ticks.proofs.first_due.Goals as goal

-- What the second test compares.
deadline_is : (w : List ℕ) (x : ℕ) {d : ℕ} → x < task_count → d ≡ deadline_in w x → d ≡ (task (seen w) x).deadline
deadline_is w x l e = e ∙ sym (ap (λ (b : Bare). b.deadline) (task_seen w x l))

pub returns-then-deadline-clock : goal.returns-then-deadline-clock
returns-then-deadline-clock c =
    record {
      first = c.first-x.ensures.some;
      due = λ l. omega (arith, deadline_is c.args.w.now c.first-x.result l c.deadline-deadline.ensures, c.clock-clock.ensures, c.if-deadline-clock.true);
      none = λ l. absurd (omega (arith, c.if-x-lt-TASKS.true));
    }

pub returns-else-deadline-clock : goal.returns-else-deadline-clock
returns-else-deadline-clock c =
    let l = c.if-x-lt-TASKS.true in
    let rising = (c.requires.kept.queues c.args.q c.requires.is_queue).rising in
    record {
      first = λ h. absurd (omega arith);
      due = λ h. absurd (omega arith);
      none = λ h. none_due (seen c.args.w.now) (c.first-x.ensures.some l) rising (omega (arith, deadline_is c.args.w.now c.first-x.result l c.deadline-deadline.ensures, c.clock-clock.ensures, c.if-deadline-clock.false));
    }

-- What is read, and released. Assumes nothing.
use Rattle.std.proofs.Common.{◌≡◌, ℕ, ◌<◌, List, ap, sym, subst, ◌∙◌}
use Rattle.kernel.specs.declared.Class.{Class}
use Rattle.kernel.specs.Sizes.{task_count}
use Rattle.kernel.specs.Kernel.{Bare, task}
use Rattle.kernel.specs.Tasks as Tasks
use Rattle.kernel.specs.Seen.{class_in, deadline_in, seen}
use Rattle.words.proofs.Seen.{task_seen}
use Rattle.tasks.proofs.Fits.{release_fits}
use Rattle.tasks.proofs.released.Goals as goal

-- Class, clock and deadline are those that are seen.
is : (w : List ℕ) (n : ℕ) {a : Class} {clock d : ℕ} → n < task_count → a ≡ class_in w n → clock ≡ (seen w).clock → d ≡ deadline_in w n
    → Tasks.release a clock d ≡ Tasks.release (task (seen w) n).class (seen w).clock (task (seen w) n).deadline
is w n l a clock d = rw (a, clock, d) (sym (ap (λ (b : Bare). Tasks.release b.class (seen w).clock b.deadline) (task_seen w n l)))

pub release-requires : goal.release-requires
release-requires c =
    let w = c.args.w.now in
    let n = c.args.n in
    subst (λ (d : ℕ). d < 4294967296) (sym (is w n c.requires.is_task c.class-class.ensures c.clock-clock.ensures c.deadline-deadline.ensures)) (release_fits c.requires.sound n c.requires.is_task)

pub returns : goal.returns
returns c = c.release.ensures ∙ is c.args.w.now c.args.n c.requires.is_task c.class-class.ensures c.clock-clock.ensures c.deadline-deadline.ensures

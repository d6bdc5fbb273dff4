-- Class and total are those that are seen. Assumes nothing.
use Rattle.std.proofs.Common.{◌≡◌, ℕ, List, ◌-◌, ◌<◌, ap, sym, subst, ◌∙◌, arith}
use Rattle.kernel.specs.declared.Class.{Class}
use Rattle.kernel.specs.Sizes.{task_count}
use Rattle.kernel.specs.Kernel.{Bare, task, share_of}
use Rattle.kernel.specs.Seen.{class_in, seen}
use Rattle.words.proofs.Seen.{task_seen}
use Rattle.sound_clauses.specs.Task.{HardFits}
use Rattle.ticks.proofs.total_without.Goals as goal

class_is : (w : List ℕ) (x : ℕ) {a : Class} → x < task_count → a ≡ class_in w x → a ≡ (task (seen w) x).class
class_is w x l e = e ∙ sym (ap (λ (b : Bare). b.class) (task_seen w x l))

share_is : (w : List ℕ) (x : ℕ) {n : ℕ} (a : Class) → x < task_count → a ≡ class_in w x → n ≡ share_of a → n ≡ share_of (task (seen w) x).class
share_is w x a l e s = s ∙ ap (λ (a : Class). share_of a) (class_is w x l e)

pub share_of-share-requires : goal.share_of-share-requires
share_of-share-requires c = subst (λ (a : Class). HardFits a) (sym (class_is c.args.w.now c.args.x c.requires.is_task c.class-class.ensures)) c.requires.hard_fits

pub overflow_sub-left : goal.overflow_sub-left
overflow_sub-left c = omega (arith, share_is c.args.w.now c.args.x c.class-class.result c.requires.is_task c.class-class.ensures c.share_of-share.ensures, c.total-total.ensures, c.requires.share_counted)

pub returns : goal.returns
returns c = λ i. c.total-total.ensures i - share_is c.args.w.now c.args.x c.class-class.result c.requires.is_task c.class-class.ensures c.share_of-share.ensures i

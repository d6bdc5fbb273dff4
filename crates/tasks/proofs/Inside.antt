-- A HARD task is one of the table. Assumes nothing.
use mathlib.Core.Path.{◌≡◌, ap, sym, ◌∙◌}
use mathlib.Core.Bool.{true, false≢true}
use mathlib.Core.List.{List}
use Prim.Native.Nat.{ℕ, ◌<◌}
use borrow.Author.Tests.{ltb-true, ltb-false}
use Rattle.kernel.specs.Sizes.{task_count}
use Rattle.kernel.specs.Kernel.{Bare, task, hard}
use Rattle.kernel.specs.Seen.{seen}
use Rattle.kernel.proofs.Decided.{unless}
use Rattle.words.proofs.Seen.{task_past}

-- What stands past the table is a FREE record, which is NRT.
pub hard_inside : (w : List ℕ) (n : ℕ) → hard (task (seen w) n).class ≡ true → n < task_count
hard_inside w n e = ltb-true n task_count (unless (λ past. false≢true (sym (ap (λ (a : Bare). hard a.class) (task_past w n (ltb-false n task_count past))) ∙ e)))

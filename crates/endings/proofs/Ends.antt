-- What a task becomes that ends, and whom a kill ends. Assumes nothing.
use mathlib.Core.Path.{◌≡◌, refl, ap, sym, ◌∙◌}
use mathlib.Core.List.{List}
use Prim.Native.Nat.{ℕ, ◌<◌}
use borrow.Author.Tests.{eq-eqb, ne_eqb}
use Rattle.kernel.specs.declared.Class.{Class}
use Rattle.kernel.specs.declared.Class.TheVariants.{Nrt, Hard}
use Rattle.kernel.specs.declared.Status.TheVariants.{Zombie}
use Rattle.kernel.specs.Sizes.{task_count}
use Rattle.kernel.specs.Kernel.{Bare, Kernel, task, blank, with_status}
use Rattle.kernel.specs.Moves.{dispatch}
use Rattle.kernel.specs.Tasks.{ended, end, finish, kill}
use Rattle.kernel.specs.Seen.{class_in, seen}
use Rattle.words.proofs.Seen.{task_seen}

ended_hard : (a : Bare) (c : Class) {p q : ℕ} → c ≡ Hard p q → ended a c ≡ with_status a Zombie
ended_hard a c e = rw e refl

ended_nrt : (a : Bare) (c : Class) {p : ℕ} → c ≡ Nrt p → ended a c ≡ blank
ended_nrt a c e = rw e refl

module _ (w : List ℕ) (n : ℕ) (l : n < task_count) where
  abbrev end_of : Bare
  end_of = ended (task (seen w) n) (task (seen w) n).class

  class_seen : (task (seen w) n).class ≡ class_in w n
  class_seen = ap (λ (a : Bare). a.class) (task_seen w n l)

  pub hard_ends : {p q : ℕ} → class_in w n ≡ Hard p q → end_of ≡ with_status (task (seen w) n) Zombie
  hard_ends e = ended_hard (task (seen w) n) (task (seen w) n).class (class_seen ∙ e)

  pub nrt_ends : {p : ℕ} → class_in w n ≡ Nrt p → end_of ≡ blank
  nrt_ends e = ended_nrt (task (seen w) n) (task (seen w) n).class (class_seen ∙ e)

module _ (k : Kernel) (n : ℕ) where
  pub kills_itself : n ≡ k.running → kill n k ≡ dispatch (finish n k)
  unfolding kill end
  kills_itself e = rw (eq-eqb n k.running e) (ap (λ (i : ℕ). dispatch (finish i k)) (sym e))

  pub kills_another : (n ≡ k.running → ⊥) → kill n k ≡ finish n k
  unfolding kill
  kills_another ne = rw (ne_eqb n k.running ne) refl

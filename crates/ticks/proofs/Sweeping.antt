-- A loop that acts on the first task of a queue as long as that is due. Assumes nothing.
use mathlib.Core.Path.{◌≡◌, ap, sym, subst, ◌∙◌}
use mathlib.Core.List.{List}
use Prim.Native.Nat.{ℕ, ◌≤◌, ◌<◌}
use native.Mathlib.Omega.{arith}
use lib.ListN.{length}
use Rattle.kernel.specs.Sizes.{task_count}
use Rattle.kernel.specs.Kernel.{Kernel, queue}
use Rattle.kernel.specs.Seen.{seen}
use Rattle.kernel.specs.Shows.{Kept, Shows}
use Rattle.laws_effects.proofs.Sweep.{swept, Acts, sweep_none, one_swept}
use Rattle.ticks.specs.Due.{FirstDue}

-- From the words s the loop has come to the words r, where x is the first task that is due: what is left to sweep comes to the same.
pub record Sweeping (P : Kernel → Type 0) (f : Kernel → ℕ → Kernel) (q : ℕ) (s r : List ℕ) (x : ℕ) : Type 0 where
  pub kept : Kept r
  pub holds : P (seen r)
  pub first : FirstDue r q x
  pub same : swept f q (seen r) ≡ swept f q (seen s)

module _ {P : Kernel → Type 0} {f : Kernel → ℕ → Kernel} {q : ℕ} (h : Acts P f q) {s r : List ℕ} {x : ℕ} (w : Sweeping P f q s r x) where
  pub ended : task_count ≤ x → Shows r (swept f q (seen s))
  ended l = record { kept = w.kept; is = sym (sweep_none (seen r) f (queue (seen r) q) (w.first.none l)) ∙ w.same }

  module _ (l : x < task_count) {t : List ℕ} (a : Shows t (f (seen r) x)) where
    pub again : {y : ℕ} → FirstDue t q y → Sweeping P f q s t y
    again n =
        record {
          kept = a.kept;
          holds = subst P (sym a.is) (h.acts w.holds (w.first.first l) (w.first.due l)).0;
          first = n;
          same = ap (swept f q) a.is ∙ sym (one_swept h w.holds (w.first.first l) (w.first.due l)) ∙ w.same;
        }

    pub fewer : length (queue (seen t) q) < length (queue (seen r) q)
    fewer =
        let left = ap (λ (k : Kernel). queue k q) a.is ∙ (h.acts w.holds (w.first.first l) (w.first.due l)).1 in
        omega (arith, ap length left, ap length (w.first.first l))

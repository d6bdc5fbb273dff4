-- Where create is legal, a task can be created. Assumes nothing.
use mathlib.Core.Path.{◌≡◌, refl}
use mathlib.Core.List.{List}
use Prim.Native.Nat.{ℕ, ◌<◌}
use native.Mathlib.Omega.{arith}
use mir.Syntax.{w32}
use mir.Val as Val
use borrow.Author.Rules.{Fits-under}
use Rattle.kernel.specs.declared.Class.{Class}
use Rattle.kernel.specs.declared.Class.TheVariants.{Nrt, Hard}
use Rattle.kernel.specs.Sizes.{task_count}
use Rattle.kernel.specs.Kernel.{Kernel}
use Rattle.kernel.specs.Tasks.{lowest_free}
use Rattle.kernel.specs.Calls.{create_hard, create_nrt, verb}
use Rattle.kernel.specs.Good.{Fits}
use Rattle.kernel.specs.Codes.{Classed}
use Rattle.kernel.specs.Seen.{seen}
use Rattle.kernel.specs.Sound.{Sound}
use Rattle.kernel.proofs.Lowest.{found}
use Rattle.kernel.proofs.Sizes.{sizes}
use Rattle.kernel.proofs.Shows.{kept}
use Rattle.kernel.proofs.Codes.{class_nrt, class_hard}
use Rattle.std.specs.Prelude.{Ok}
use Rattle.refusals.specs.Tested.{Said, Verdict}
use Rattle.refusals.proofs.Answers.{allows, legal, behind}
use Rattle.creation.specs.Creatable.{Creatable}

free_one : (k : Kernel) → (lowest_free k ≡ task_count → ⊥) → lowest_free k < task_count
unfolding lowest_free
free_one k some = (found task_count _ some).0

-- The words of a class that keeps the sizes mean it.
pub classed : (class : Class) → Fits class → Classed class
classed (Hard p c) f = class_hard p c (sizes f).some_period
classed (Nrt p) f = class_nrt p

module _ {w : List ℕ} {v : Said} where
  module _ {p c : ℕ} (t : Verdict (verb (create_hard p c)) w v) (h : Sound w) (accepts : v ≡ Ok tt) where
    pub hard_creatable : {i : ℕ} → i ≡ lowest_free (seen w) → Creatable w i (Hard p c)
    hard_creatable e =
        let a = (allows (legal t h accepts)).allowed in
        record { kept = kept h; lowest = e; free = rw e (free_one _ a.1); sized = a.0; share = a.2 }

    pub hard_number : {i : ℕ} → i ≡ lowest_free (seen w) → i < 9223372036854775808
    hard_number e = omega (arith, (hard_creatable e).free)

    -- Period and cost are words.
    pub period_word : Val.Fits w32 p
    period_word = Fits-under w32 p 4294967296 (omega (arith, sizes (hard_creatable refl).sized)) tt

    pub cost_word : Val.Fits w32 c
    cost_word = Fits-under w32 c 4294967296 (omega (arith, sizes (hard_creatable refl).sized)) tt

  module _ {p : ℕ} (t : Verdict (verb (create_nrt p)) w v) (h : Sound w) (accepts : v ≡ Ok tt) where
    pub nrt_creatable : {i : ℕ} → i ≡ lowest_free (seen w) → Creatable w i (Nrt p)
    nrt_creatable e =
        let a = (allows (legal t h accepts)).allowed in
        record { kept = kept h; lowest = e; free = rw e (free_one _ a.1); sized = a.0; share = omega (arith, h.good.shared.total_fits) }

    pub nrt_number : {i : ℕ} → i ≡ lowest_free (seen w) → i < 9223372036854775808
    nrt_number e = omega (arith, (nrt_creatable e).free)

    pub priority_word : Val.Fits w32 p
    priority_word = let l = (nrt_creatable refl).sized in Fits-under w32 p 4294967296 (omega arith) tt

pub ruleset creates = (behind, hard_creatable, hard_number, period_word, cost_word, nrt_creatable, nrt_number, priority_word)

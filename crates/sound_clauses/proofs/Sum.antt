-- The sum of the shares, task by task, and how large it gets. Assumes nothing.
use mathlib.Core.Path.{◌≡◌, refl, ap, sym, ◌∙◌}
use mathlib.Core.Bool.{Bool, true, false, false≢true, cond}
use mathlib.Core.List.{List}
use mathlib.Core.Logic.{◌↔◌}
use Prim.Native.Nat.{ℕ, ◌+◌, ◌*◌, ◌≤◌, ◌<◌}
use native.Mathlib.Numerals.{add-one}
use native.Mathlib.Omega.{arith}
use lib.ListN.{length, drop, drop_of_length-le}
use lib.Seq.{drop-cons}
use lib.Dec.{leb}
use mir.Syntax.{w64}
use mir.Val.{Fits}
use borrow.Author.Rules.{rules}
use Rattle.kernel.specs.declared.Class.{Class}
use Rattle.kernel.specs.declared.Class.TheVariants.{Nrt, Hard}
use Rattle.kernel.specs.declared.Status.{Status}
use Rattle.kernel.specs.Sizes.{task_count, whole}
use Rattle.kernel.specs.Status.{FREE}
use Rattle.kernel.specs.Kernel.{Bare, Kernel, task, blank, hard, share_of, is}
use Rattle.kernel.specs.Good.{GoodTask, Shared, counted_share, shares}
use Rattle.kernel.specs.Seen.{class_in, status_in, bare_in, seen}
use Rattle.kernel.proofs.Decided.{no, at_most, means}
use Rattle.kernel.proofs.Shares.{share_least}
use Rattle.kernel.proofs.Sizes.{sizes}
use Rattle.words.proofs.Tables.{tabulate_length}
use Rattle.words.proofs.Seen.{task_seen}
use Rattle.sound_clauses.specs.Task.{HardFits}

-- ---- how large

-- The main task is NRT, others keep the sizes.
pub hard_fits : {k : Kernel} {x : ℕ} {a : Bare} → GoodTask k x a → HardFits a.class
hard_fits g h = g.main_or_sized.fits (λ e. false≢true (sym (ap hard (g.main_or_sized.main_class e)) ∙ h))

pub share_most : (class : Class) → HardFits class → share_of class ≤ whole
share_most (Hard p c) f = let h = sizes (f refl) in share_least p c whole h.some_period (omega arith)
share_most (Nrt p) f = omega arith

none_or : (b : Bool) {n m : ℕ} → n ≤ m → cond b 0 n ≤ m
none_or true h = omega arith
none_or false h = h

pub counted_most : (a : Bare) → HardFits a.class → counted_share a ≤ whole
counted_most a f = none_or (is FREE a) (share_most a.class f)

-- ---- task by task

-- `total` is the sum for the tasks before x, each at most the whole.
pub record Summed (w : List ℕ) (x total : ℕ) : Type 0 where
  pub sum : total + shares (drop x (seen w).tasks) ≡ shares (seen w).tasks
  pub most : total ≤ x * whole

-- The class and the status that are read of task x, and the share n that is counted for them.
module _ {w : List ℕ} {x total : ℕ} {class : Class} (s : Summed w x total) (good : (x : ℕ) → x < task_count → GoodTask (seen w) x (task (seen w) x)) (l : x < task_count) (is_class : class ≡ class_in w x) where
  pub sized : HardFits class
  sized = rw is_class (rw (task_seen w x l) at (hard_fits (good x l)))

  module _ {status : Status} {n : ℕ} (is_status : status ≡ status_in w x) (adds : n ≡ counted_share (record { class = class; status = status; deadline = 0 })) where
    share_fits : n ≤ whole
    share_fits = rw adds (counted_most (record { class = class; status = status; deadline = 0 }) sized)

    pub sum_fits : Fits w64 (total + n)
    sum_fits = let m = s.most in let h = share_fits in record { fits = omega arith }

    pub one_more : Summed w (x + 1) (total + n)
    one_more =
        let long = tabulate_length task_count (bare_in w) in
        let left = ap shares (drop-cons (seen w).tasks x blank (omega arith)) in
        let own : n ≡ counted_share (task (seen w) x) = rw (task_seen w x l, ← is_status, ← is_class) adds in
        let m = s.most in
        let h = share_fits in
        let e = s.sum in
        record { sum = rw add-one (omega arith); most = omega arith }

-- After the last task: where the stored total is another, and where it is the sum.
module _ {w : List ℕ} {x total stored : ℕ} (s : Summed w x total) (h : task_count ≤ x) (is : stored ≡ (seen w).total) where
  summed : total ≡ shares (seen w).tasks
  summed =
      let long = tabulate_length task_count (bare_in w) in
      let past : length (seen w).tasks ≤ x = omega arith in
      let left = ap shares (drop_of_length-le (seen w).tasks past) in
      let e = s.sum in
      omega arith

  pub unequal : (stored ≡ total → ⊥) → (false ≡ true) ↔ Shared (seen w)
  unequal other = no (λ g. other (is ∙ g.total_is ∙ sym summed))

  pub equal : stored ≡ total → (leb stored whole ≡ true) ↔ Shared (seen w)
  equal one = means (at_most stored whole) (λ l. record { total_is = sym is ∙ one ∙ summed; total_fits = omega arith }) (λ g. let most = g.total_fits in omega arith)

-- The needs of the loop.
pub ruleset summing = (rules, sized, sum_fits, one_more, unequal, equal)

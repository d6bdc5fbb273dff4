-- One of the numbers before the heads is written: the queues stay in order, and nothing else that is seen changes. Assumes nothing.
use mathlib.Core.Path.{◌≡◌, subst}
use mathlib.Core.Bool.{cond}
use mathlib.Core.List.{List}
use Prim.Native.Nat.{ℕ, ◌≤◌, ◌<◌}
use native.Mathlib.Omega.{arith}
use lib.ListN.{length, set, length-set}
use lib.Seq.{get_or-set_same, get_or-set_other}
use lib.Dec.{eqb}
use borrow.Author.Tests.{eqb-true, eqb-false}
use Rattle.kernel.proofs.Decided.{either}
use Rattle.kernel.specs.declared.Stop.{Stop}
use Rattle.kernel.specs.Status.{stop_number}
use Rattle.kernel.specs.Kernel.{Kernel, with_clock, with_stop, with_running, with_total}
use Rattle.kernel.specs.Layout.{word, clock_at, stop_at, running_at, total_at, heads_at, semaphores_at, tasks_at, sessions_at, channels_at}
use Rattle.kernel.specs.Codes.{stop_of}
use Rattle.kernel.specs.Seen.{seen}
use Rattle.kernel.specs.Shows.{Kept, Shows}
use Rattle.kernel.proofs.Codes.{stop_read, stop_small}
use Rattle.words.proofs.Seen.{Same, semaphores_same, channels_same, sessions_same, rest_set}

-- The kernel with these numbers.
abbrev numbered : Kernel → ℕ → ℕ → ℕ → ℕ → Kernel
numbered k clock stop running total = with_clock (with_stop (with_running (with_total k total) running) (stop_of stop)) clock

module _ (w : List ℕ) (a n : ℕ) where
  abbrev v : List ℕ
  v = set w a n

  -- What is read at j once n is written at a.
  abbrev read : ℕ → ℕ
  read j = cond (eqb j a) n (word w j)

  read_is : a < length w → (j : ℕ) → word v j ≡ read j
  read_is l j =
      either (λ m. word v j ≡ m) (eqb j a) (λ e. let same : j ≡ a = eqb-true j a e in rw same (get_or-set_same w a n 0 l)) (λ e. get_or-set_other w a j n 0 (eqb-false j a e))

  number_set : a < heads_at → read stop_at ≤ 2 → Kept w → Shows v (numbered (seen w) (read clock_at) (read stop_at) (read running_at) (read total_at))
  number_set l stop k =
      rest_set w v (behind heads_at _ (omega arith)) (behind tasks_at _ (omega arith)) (length-set w a n) (rw (is stop_at) stop) k
      (λ i.
      record {
        clock = is clock_at i;
        stop = stop_of (is stop_at i);
        running = is running_at i;
        total = is total_at i;
        tasks = (seen w).tasks;
        queues = (seen w).queues;
        semaphores = semaphores_same w v (behind semaphores_at _ (omega arith)) i;
        channels = channels_same w v (behind channels_at _ (omega arith)) i;
        sessions = sessions_same w v (behind sessions_at _ (omega arith)) i;
      })
    where
      is : (j : ℕ) → word v j ≡ read j
      is = read_is (omega (arith, k.formed.long))

      behind : (b c : ℕ) → heads_at ≤ b → Same w v b c
      behind b c h j lb lc = get_or-set_other w a j n 0 (λ e. omega arith)

pub clock_set : {w : List ℕ} (n : ℕ) → Kept w → Shows (set w clock_at n) (with_clock (seen w) n)
clock_set {w} n k = number_set w clock_at n (omega arith) k.formed.stop k

pub stop_set : {w : List ℕ} (st : Stop) → Kept w → Shows (set w stop_at (stop_number st)) (with_stop (seen w) st)
stop_set {w} st k = subst (λ (s : Stop). Shows (set w stop_at (stop_number st)) (with_stop (seen w) s)) (stop_read st) (number_set w stop_at (stop_number st) (omega arith) (stop_small st) k)

pub running_set : {w : List ℕ} (x : ℕ) → Kept w → Shows (set w running_at x) (with_running (seen w) x)
running_set {w} x k = number_set w running_at x (omega arith) k.formed.stop k

pub total_set : {w : List ℕ} (n : ℕ) → Kept w → Shows (set w total_at n) (with_total (seen w) n)
total_set {w} n k = number_set w total_at n (omega arith) k.formed.stop k

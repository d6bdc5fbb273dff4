-- First joined, first taken, over every run of the model. Assumes nothing.
use mathlib.Core.List.{List, [], ◌∷◌, ◌++◌}
use Prim.Native.Nat.{ℕ}
use Rattle.kernel.specs.Status.{ready_queue}
use Rattle.kernel.specs.Kernel.{queue}
use Rattle.kernel.specs.Calls.{Call}
use Rattle.kernel.specs.Step.{step}
use Rattle.laws_promises.specs.Earliest.{Before, IsReady}
use Rattle.laws_promises.specs.Fair.{Fair}
use Rattle.laws_promises.proofs.Fair.{step_fair}
use Rattle.laws_runs.specs.Run.{after, kernel_after}
use Rattle.laws_runs.specs.Fair.{ReadySince, JoinedFirst, FirstJoined}
use Rattle.laws_runs.proofs.Whole.{run_good}

module _ (m : List ℕ) where
  next_fair : (c : Call) (cs : List Call) → Fair (kernel_after step m cs) (kernel_after step m (c ∷ cs))
  unfolding after
  next_fair c cs = step_fair c (after step m cs).kernel (after step m cs).memory (run_good m cs)

  ready_now : (x : ℕ) (cs ds : List Call) → ReadySince step m x cs ds → IsReady (kernel_after step m (ds ++ cs)) x
  ready_now x cs [] h = h
  ready_now x cs (d ∷ ds) h = h.0

  module _ (x y : ℕ) (cs : List Call) (c : Call) where
    -- In the order of joining, ever since.
    stand : (ds : List Call) → JoinedFirst step m x y cs c ds → Before x y (queue (kernel_after step m (ds ++ c ∷ cs)) ready_queue)
    stand [] j = (next_fair c cs).joins x y j.was_ready j.not_yet j.first_since j.second_since j.no_later
    stand (d ∷ ds) j =
        let hx = j.first_since in
        let hy = j.second_since in
        (next_fair d (ds ++ c ∷ cs)).stays x y (ready_now x (c ∷ cs) ds hx.1) (ready_now y (c ∷ cs) ds hy.1) hx.0 hy.0
        (stand ds (record { was_ready = j.was_ready; not_yet = j.not_yet; no_later = j.no_later; first_since = hx.1; second_since = hy.1 }))

  -- **first_joined**: of equal deadlines, the one that joined first is taken first.
  pub first_joined : FirstJoined step m
  first_joined x y cs c ds j =
      let b = stand x y cs c ds j in
      record {
        stands = b;
        taken = λ d. (next_fair d (ds ++ c ∷ cs)).taken x y (ready_now x (c ∷ cs) ds j.first_since) (ready_now y (c ∷ cs) ds j.second_since) b;
      }

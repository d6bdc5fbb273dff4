-- First joined, first taken, over a run. Assumes nothing.
use Rattle.std.specs.Prelude.{◌≡◌, List, [], ◌∷◌, ◌++◌, ℕ, ◌≤◌}
use Rattle.kernel.specs.Status.{ready_queue}
use Rattle.kernel.specs.Kernel.{task, queue}
use Rattle.kernel.specs.Calls.{Call}
use Rattle.kernel.specs.Refusals.{Handed}
use Rattle.kernel.specs.Step.{Outcome}
use Rattle.laws_promises.specs.Earliest.{Before, IsReady}
use Rattle.laws_runs.specs.Run.{kernel_after}

-- Calls newest first, as in `after`.
module _ (step : Call → Handed → Outcome) (m : List ℕ) where
  -- Task x was ready after the calls cs, and after each call that was made since.
  abbrev pub ReadySince : ℕ → List Call → List Call → Type 0
  ReadySince x cs [] = IsReady (kernel_after step m cs) x
  ReadySince x cs (d ∷ ds) = IsReady (kernel_after step m (d ∷ ds ++ cs)) x × ReadySince x cs ds

  -- Task x was ready after the calls cs, task y was not; with the call c it joined, with a deadline no earlier; and both were ready after
  -- each of the calls ds that were made since.
  pub record JoinedFirst (x y : ℕ) (cs : List Call) (c : Call) (ds : List Call) : Type 0 where
    pub was_ready : IsReady (kernel_after step m cs) x
    pub not_yet : IsReady (kernel_after step m cs) y → ⊥
    pub no_later : (task (kernel_after step m (c ∷ cs)) x).deadline ≤ (task (kernel_after step m (c ∷ cs)) y).deadline
    pub first_since : ReadySince x (c ∷ cs) ds
    pub second_since : ReadySince y (c ∷ cs) ds

  -- After the calls cs task x goes before task y:
  pub record TakenFirst (x y : ℕ) (cs : List Call) : Type 0 where
    -- x stands before y in ready;
    pub stands : Before x y (queue (kernel_after step m cs) ready_queue)
    -- whatever is called next, y does not get the processor.
    pub taken : (d : Call) → (kernel_after step m (d ∷ cs)).running ≡ y → ⊥

  -- **First joined, first taken**, the equal deadlines included: from the call with which y joined on, for as long as both are ready.
  abbrev pub FirstJoined : Type 0
  FirstJoined = (x y : ℕ) (cs : List Call) (c : Call) (ds : List Call) → JoinedFirst x y cs c ds → TakenFirst x y (ds ++ c ∷ cs)

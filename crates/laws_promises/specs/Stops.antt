-- When a tick stops the kernel, and what it changes then. Assumes nothing.
use Rattle.std.specs.Prelude.{◌≡◌, true, ◌↔◌, List, ℕ, ◌+◌, ◌<◌, pos, set}
use Rattle.kernel.specs.declared.Stop.{Stop}
use Rattle.kernel.specs.declared.Stop.TheVariants.{Going, Overrun, Lifetime}
use Rattle.kernel.specs.declared.State.{State}
use Rattle.kernel.specs.declared.Reply.{Reply}
use Rattle.kernel.specs.Answer.{success, said}
use Rattle.kernel.specs.Sizes.{lifetime}
use Rattle.kernel.specs.Status.{stop_number}
use Rattle.kernel.specs.Kernel.{Kernel, task, hard, with_clock, with_stop}
use Rattle.kernel.specs.Layout.{word, clock_at, stop_at}
use Rattle.kernel.specs.Seen.{seen}
use Rattle.kernel.specs.Promise.{runs}

-- Clock + 1 is lifetime.
abbrev pub AtLifetime : Kernel → Type 0
AtLifetime k = k.clock + 1 ≡ lifetime

-- The running task is HARD and clock + 1 > its deadline.
pub record Late (k : Kernel) : Type 0 where
  pub hard_runs : hard (task k k.running).class ≡ true
  pub past : (task k k.running).deadline < k.clock + 1

-- Of a tick on the kernel k: at lifetime, stop with -2. Else if the running task is late, stop with -1. Else the kernel goes on.
abbrev pub Reason : Kernel → Stop → Type 0
Reason k Lifetime = AtLifetime k
Reason k Overrun = (AtLifetime k → ⊥) × Late k
Reason k Going = (AtLifetime k → ⊥) × (Late k → ⊥)

-- A tick on the kernel k, which is not stopped, gives the kernel j.
pub record Ticked (k j : Kernel) : Type 0 where
  -- it stops with a reason exactly where there is that reason, and goes on exactly where there is none
  pub exactly : (w : Stop) → (j.stop ≡ w) ↔ Reason k w
  -- a stop changes only clock and stop reason
  pub only : (j.stop ≡ Going → ⊥) → j ≡ with_stop (with_clock k (k.clock + 1)) j.stop

-- The words w with this clock and stop reason.
abbrev pub stopped : List ℕ → ℕ → Stop → List ℕ
stopped w clock x = set (set w clock_at clock) stop_at (stop_number x)

-- A tick stopped the kernel: handed the state s, which was not stopped, it gave the reply r. The memory held the bytes m, and is left with these.
pub record StopOnly (s : State) (m : List ℕ) (r : Reply) (left : List ℕ) : Type 0 where
  -- there is that reason
  pub reason : Reason (seen s.words) (seen r.state.words).stop
  -- only clock and stop reason have changed: every other word is as it was, those of links and heads too
  pub state : r.state.words ≡ stopped s.words ((seen s.words).clock + 1) (seen r.state.words).stop
  pub others : (j : ℕ) → (j ≡ clock_at → ⊥) → (j ≡ stop_at → ⊥) → word r.state.words j ≡ word s.words j
  pub running : r.running ≡ runs s.words
  pub memory : left ≡ m
  -- the tick that stops is no refusal and answers 0
  pub answer : said r.answer ≡ success (pos 0)

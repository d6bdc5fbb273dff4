-- How often a HARD task is activated, over a run of the public functions. Assumes nothing.
use Rattle.std.specs.Prelude.{◌≡◌, true, false, List, [], ◌∷◌, ◌++◌, ℕ, ◌+◌, ◌≤◌}
use Rattle.kernel.specs.declared.State.{State}
use Rattle.kernel.specs.Answer.{refused}
use Rattle.kernel.specs.Status.{FREE, status_number}
use Rattle.kernel.specs.Kernel.{task, hard, period_of}
use Rattle.kernel.specs.Calls.{activate, verb}
use Rattle.kernel.specs.Refusals.{ -15}
use Rattle.kernel.specs.Seen.{seen}
use Rattle.laws_runs.specs.Trace.{Event, accepted}
use Rattle.laws_demands.specs.Run.{Run}

-- An activation of task x that took effect.
pub record Activation (x : ℕ) (e : Event) : Type 0 where
  pub call : e.call ≡ verb (activate x)
  pub taken : accepted e ≡ true

-- **Once a period**: by the events h a run has come to the state s. Task x, HARD there, is activated, by the event e; the run goes on by the events g to
-- the state t, and the task that has this number then is activated again, by the event d. Between s and t lies at least the period.
abbrev pub OnceAPeriod : Type 0
OnceAPeriod =
    (m n o p : List ℕ) (s t u : State) (g h : List Event) (d e : Event) (x : ℕ)
    → Run m s n h
    → Run m t o (g ++ e ∷ h)
    → Run m u p (d ∷ g ++ e ∷ h)
    → Activation x e
    → Activation x d
    → hard (task (seen s.words) x).class ≡ true
    → (seen s.words).clock + period_of (task (seen s.words) x).class ≤ (seen t.words).clock

-- None of the events is such an activation.
abbrev pub Unactivated : ℕ → List Event → Type 0
Unactivated x [] = Unit {0}
Unactivated x (e ∷ g) = (Activation x e → ⊥) × Unactivated x g

-- **A task never activated passes**: by the events h a run has come to a state in which record x is FREE, and by none of the events g since then was a
-- task with this number activated. To activate it, in the run's own next event, is not too soon.
abbrev pub NeverActivatedPasses : Type 0
NeverActivatedPasses =
    (m n p : List ℕ) (s u : State) (g h : List Event) (d : Event) (x : ℕ)
    → Run m s n h
    → Run m u p (d ∷ g ++ h)
    → status_number (task (seen s.words) x).status ≡ FREE
    → Unactivated x g
    → d.call ≡ verb (activate x)
    → d.aside ≡ false
    → d.answer ≡ refused -15
    → ⊥

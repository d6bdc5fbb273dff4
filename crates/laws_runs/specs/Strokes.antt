-- A channel as a cell: each finished write happens at its put, each reading at its opening, in one stroke. Assumes nothing.
use Rattle.std.specs.Prelude.{cond, List, [], ◌∷◌, ℕ, eqb}
use Rattle.std.proofs.Math.Option.{Option, none, some}
use Rattle.laws_runs.specs.Trace.{Event, begins_write, writes, puts, begins_reading}
use Rattle.laws_runs.specs.Messages.{Act, ◌did◌, written}
use Rattle.laws_runs.specs.Whole.{ShownBy}

-- A whole message replaces the one that is there; a task takes the one that is there.
pub data Stroke : Type 0 where
  replaces : (message : List ℕ) → Stroke
  takes : (task : ℕ) → Stroke

-- Each put is a stroke, and each opening of a reading; pieces and showings have no place.
abbrev pub strokes : ℕ → List Act → List Stroke
strokes n [] = []
strokes n (u did begins_write ∷ h) = strokes n h
strokes n (u did writes a bs ∷ h) = strokes n h
strokes n (u did puts ∷ h) = replaces (written n u h) ∷ strokes n h
strokes n (u did begins_reading ∷ h) = takes u ∷ strokes n h

-- What is there.
abbrev pub there : List Stroke → Option (List ℕ)
there [] = none
there (replaces m ∷ s) = some m
there (takes u ∷ s) = there s

-- What task t took last.
abbrev pub took : ℕ → List Stroke → Option (List ℕ)
took t [] = none
took t (replaces m ∷ s) = took t s
took t (takes u ∷ s) = cond (eqb t u) (there s) (took t s)

-- Every accepted showing gives what its task took last.
abbrev pub OneStroke : List Event → Type 0
OneStroke = ShownBy (λ n t h. took t (strokes n h))

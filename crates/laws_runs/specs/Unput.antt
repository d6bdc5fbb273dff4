-- A write that never reaches its put, cut off by kill or end or still open, shows in no reading. Assumes nothing.
use Rattle.std.specs.Prelude.{Bool, true, false, cond, List, [], ◌∷◌, ℕ, eqb}
use Rattle.laws_runs.specs.Trace.{Event, begins_write, writes, puts, begins_reading}
use Rattle.laws_runs.specs.Messages.{Act, ◌did◌, opened}
use Rattle.laws_runs.specs.Whole.{ShownBy}

-- As p says, but b of u.
abbrev pub but : (ℕ → Bool) → ℕ → Bool → ℕ → Bool
but p u b v = cond (eqb v u) b (p v)

-- The log without the writes that were not put. It is read from its newest act back: p says of which tasks a put was met, and not yet
-- the beginning of the write that it put.
abbrev pub without_unput : (ℕ → Bool) → List Act → List Act
without_unput p [] = []
without_unput p (u did begins_write ∷ h) = cond (p u) (u did begins_write ∷ without_unput (but p u false) h) (without_unput p h)
without_unput p (u did writes a bs ∷ h) = cond (p u) (u did writes a bs ∷ without_unput p h) (without_unput p h)
without_unput p (u did puts ∷ h) = u did puts ∷ without_unput (but p u true) h
without_unput p (u did begins_reading ∷ h) = u did begins_reading ∷ without_unput p h

abbrev pub finished : List Act → List Act
finished = without_unput (λ u. false)

-- Every accepted showing gives what it would had no write been begun but those that were put before.
abbrev pub UnputUnseen : List Event → Type 0
UnputUnseen = ShownBy (λ n t h. opened n t (finished h))

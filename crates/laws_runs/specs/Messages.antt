-- What a trace says of the messages on a channel. Assumes nothing.
use Rattle.std.specs.Prelude.{cond, ◌&&◌, List, [], ◌∷◌, ◌++◌, ℕ, pos, replicate, eqb}
use Rattle.std.proofs.Math.Option.{Option, none, some}
use Rattle.kernel.specs.Answer.{same_number}
use Rattle.kernel.specs.Channels.{over}
use Rattle.laws_runs.specs.Trace.{Event, accepted, Deed, begins_write, writes, puts, begins_reading, Ask, new, does, message, nothing, asks}

-- ---- the accepted deeds on a channel

infix 80 ◌did◌
pub data Act : Type 0 where
  ◌did◌ : (who : ℕ) → Deed → Act

abbrev pub acts : ℕ → ℕ → Ask → List Act
acts c w (new n) = []
acts c w (does d x) = cond (eqb c d) (w did x ∷ []) []
acts c w (message d text) = []
acts c w nothing = []

-- On channel c, newest first.
abbrev pub log : ℕ → List Event → List Act
log c [] = []
log c (e ∷ h) = cond (accepted e) (acts c e.who (asks e.call)) [] ++ log c h

-- ---- the size of its messages

-- The accepted call that gives the number of channel c opened it, with this size.
abbrev pub sized : ℕ → Event → Ask → ℕ → ℕ
sized c e (new n) before = cond (accepted e && same_number e.answer.number (pos c)) n before
sized c e (does d x) before = before
sized c e (message d text) before = before
sized c e nothing before = before

abbrev pub size_of : ℕ → List Event → ℕ
size_of c [] = 0
size_of c (e ∷ h) = sized c e (asks e.call) (size_of c h)

-- ---- messages of n bytes

-- What task w has written since it last began a write: zeros, overwritten in order by its pieces.
abbrev pub written : ℕ → ℕ → List Act → List ℕ
written n w [] = replicate n 0
written n w (u did begins_write ∷ h) = cond (eqb w u) (replicate n 0) (written n w h)
written n w (u did writes a bs ∷ h) = cond (eqb w u) (over (written n w h) a bs) (written n w h)
written n w (u did puts ∷ h) = written n w h
written n w (u did begins_reading ∷ h) = written n w h

-- The message of the last put, if there was one.
abbrev pub last_put : ℕ → List Act → Option (List ℕ)
last_put n [] = none
last_put n (u did begins_write ∷ h) = last_put n h
last_put n (u did writes a bs ∷ h) = last_put n h
last_put n (u did puts ∷ h) = some (written n u h)
last_put n (u did begins_reading ∷ h) = last_put n h

-- The message of the last put before task t last opened a reading.
abbrev pub opened : ℕ → ℕ → List Act → Option (List ℕ)
opened n t [] = none
opened n t (u did begins_write ∷ h) = opened n t h
opened n t (u did writes a bs ∷ h) = opened n t h
opened n t (u did puts ∷ h) = opened n t h
opened n t (u did begins_reading ∷ h) = cond (eqb t u) (last_put n h) (opened n t h)

-- A call's rows, tested one after the other, in words that are known to be sound. Assumes nothing.
use Rattle.std.specs.Prelude.{◌≡◌, true, cond, List, [], ◌∷◌, ℕ, ℤ, length, eqb, Ok, Err}
use Rattle.std.specs.declared.result.Result.{Result}
use Rattle.std.proofs.Math.Option.{Option, none, some}
use Rattle.kernel.specs.declared.Refusal.{Refusal}
use Rattle.kernel.specs.declared.Refusal.TheVariants.{NotSound, WrongMemory}
use Rattle.kernel.specs.Sizes.{memory_size}
use Rattle.kernel.specs.Answer.{refusal_number}
use Rattle.kernel.specs.Calls.{open_channel, begin_write, piece, put, begin_reading, showing, close, screen, Call, verb, question, on_channel}
use Rattle.kernel.specs.Refusals.{Row, -12, unless, first, every, rows}
use Rattle.kernel.specs.Sound.{Sound}
use Rattle.kernel.specs.Promise.{handed}

-- What the rows say of a call: it passes, or is refused.
abbrev pub Said : Type 0
Said = Result (Unit {0}) Refusal

-- The number of the refusal, none where it passes.
abbrev pub refusing_number : Said → Option ℤ
refusing_number (Ok u) = none
refusing_number (Err r) = some (refusal_number r)

-- These rows say v.
pub record Tested (those : List Row) (v : Said) : Type 0 where
  pub says : first those ≡ refusing_number v

-- The rows that every call has, and these.
abbrev pub of_every : List ℕ → List Row → List Row
of_every w own = every (handed true w []) own

-- The rows that every call has that is lent a memory, here of n bytes, and these.
abbrev pub of_lent : List ℕ → ℕ → List Row → List Row
of_lent w n own = unless -12 (eqb n memory_size) ∷ of_every w own

-- The verdict v is the table's, of the rows of the call c, which is lent the memory m.
pub record Judged (c : Call) (w m : List ℕ) (v : Said) : Type 0 where
  pub tested : Tested (rows c (handed true w m)) v

-- It is so whatever the memory is, as for a call that is lent none.
abbrev pub Verdict : Call → List ℕ → Said → Type 0
Verdict c w v = (m : List ℕ) → Judged c w m v

-- It is so whatever memory of n bytes the call is lent.
abbrev pub LentVerdict : Call → List ℕ → ℕ → Said → Type 0
LentVerdict c w n v = (m : List ℕ) → length m ≡ n → Judged c w m v

-- The call c, which is lent no memory, is legal: the words are sound, and no row applies.
pub record Legal (c : Call) (w : List ℕ) : Type 0 where
  pub sound : Sound w
  pub none : (m : List ℕ) → first (rows c (handed true w m)) ≡ none

-- The calls that are lent no memory.
abbrev pub LentNothing : Call → Type 0
LentNothing (verb v) = Unit {0}
LentNothing (question q) = Unit {0}
LentNothing (on_channel (open_channel n b)) = Unit {0}
LentNothing (on_channel (begin_write c)) = ⊥
LentNothing (on_channel (piece c a bs)) = ⊥
LentNothing (on_channel (put c)) = ⊥
LentNothing (on_channel (begin_reading c)) = ⊥
LentNothing (on_channel (showing c)) = ⊥
LentNothing (on_channel (close c)) = ⊥
LentNothing (on_channel (screen c text)) = ⊥

-- What a call that is lent a memory of n bytes answers where the state is not sound.
abbrev pub unsound : ℕ → Refusal
unsound n = cond (eqb n memory_size) NotSound WrongMemory

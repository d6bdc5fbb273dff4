-- An answer is what it says. Assumes nothing.
use mathlib.Core.Path.{◌≡◌, refl, ap, sym, ◌∙◌}
use mathlib.Core.Bool.{Bool, true, false, false≢true}
use lib.IntN.{ℤ}
use Rattle.std.specs.Prelude.{List, [], ◌∷◌, get_or, pos, negsuc, Ok, Err}
use Rattle.kernel.specs.declared.Refusal.{Refusal}
use Rattle.kernel.specs.declared.Refusal.TheVariants.{TimeOverflow, TimeExpired, NoGuarantee, NoTask, NoSemaphore, NoSuchNumber, OutsideSizes, NotAllowed, WrongStatus, NoRoom, NotSound, WrongMemory, NothingPut, WrongSession, TooSoon}
use Rattle.kernel.specs.Answer.{Answer, Said, success, refused, refusal_number, said}

-- The refusals by their numbers, and back.
abbrev refusals : List Refusal
refusals =
    TimeOverflow ∷ TimeExpired ∷ NoGuarantee ∷ NoTask ∷ NoSemaphore ∷ NoSuchNumber ∷ OutsideSizes ∷ NotAllowed ∷ WrongStatus ∷ NoRoom ∷ NotSound ∷ WrongMemory ∷ NothingPut ∷ WrongSession ∷ TooSoon ∷ []

abbrev pub refusal_of : ℤ → Refusal
refusal_of (pos n) = TimeOverflow
refusal_of (negsuc n) = get_or refusals n TimeOverflow

pub is_refusal : (r : Refusal) → refusal_of (refusal_number r) ≡ r
is_refusal TimeOverflow = refl
is_refusal TimeExpired = refl
is_refusal NoGuarantee = refl
is_refusal NoTask = refl
is_refusal NoSemaphore = refl
is_refusal NoSuchNumber = refl
is_refusal OutsideSizes = refl
is_refusal NotAllowed = refl
is_refusal WrongStatus = refl
is_refusal NoRoom = refl
is_refusal NotSound = refl
is_refusal WrongMemory = refl
is_refusal NothingPut = refl
is_refusal WrongSession = refl
is_refusal TooSoon = refl

-- The answer that says so.
abbrev answer_of : Bool → ℤ → Answer
answer_of true n = Err (refusal_of n)
answer_of false n = Ok n

is_of : (a : Answer) → a ≡ answer_of (said a).refusal (said a).number
is_of (Ok n) = refl
is_of (Err r) = ap (λ (x : Refusal). Err x) (sym (is_refusal r))

-- Two answers that say the same are one.
pub same_answer : {a b : Answer} → said a ≡ said b → a ≡ b
same_answer {a} {b} e = is_of a ∙ ap (λ (x : Said). answer_of x.refusal x.number) e ∙ sym (is_of b)

-- A success is no refusal.
pub done_refused : {v x : ℤ} → success v ≡ refused x → ⊥
done_refused e = false≢true (ap (λ (y : Said). y.refusal) e)

-- No index is printed as `none`. Assumes nothing.
use mathlib.Core.Path.{◌≡◌, refl, ap}
use mathlib.Core.List.{List, ◌∷◌, [], ◌++◌, append_assoc}
use mathlib.Core.Option.{Option, none, some}
use Prim.Native.Nat.{ℕ, zero, suc, ◌+◌, ◌/◌, ◌%◌, ◌≤◌}
use native.Mathlib.Omega.{arith}
use lib.Dec.{ltb}
use lib.ListN.{get_or}
use borrow.Author.Tests.{ltb-true}
use Rattle.kernel.proofs.Decided.{either}
use Rattle.text.specs.Text.{bytes, digits}
use Rattle.replayer.specs.Replay.{verdict}

-- A decimal begins with a digit.
begins : (f n : ℕ) (more : List ℕ) → get_or (digits f n ++ more) 0 0 ≤ 57
unfolding digits
begins zero n more = omega arith
begins (suc f) n more =
    either (λ (ds : List ℕ). get_or (ds ++ more) 0 0 ≤ 57) (ltb n 10)
    (λ t. omega (arith, ltb-true n 10 t))
    (λ t. rw (append_assoc (digits f (n / 10)) ((48 + n % 10) ∷ []) more) (begins f (n / 10) ((48 + n % 10) ∷ more)))

-- **none_alone**: where `none` is printed, no answer differed.
pub none_alone : (o : Option ℕ) → verdict o ≡ verdict none → o ≡ none
none_alone none e = refl
none_alone (some i) e = absurd (omega (arith, begins 19 i (bytes "\n"), ap (λ (bs : List ℕ). get_or bs 0 0) e))

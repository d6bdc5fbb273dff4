-- A text is read as a number exactly where it is that number's decimal. Assumes nothing.
use mathlib.Core.Path.{◌≡◌, refl, ap, ◌∙◌}
use mathlib.Core.Bool.{true, ◌&&◌}
use mathlib.Core.List.{List, [], ◌∷◌}
use Prim.Native.Nat.{ℕ, ◌+◌, ◌-◌, ◌*◌}
use native.Mathlib.Omega.{arith}
use lib.Dec.{leb}
use lib.ListN.{length}
use borrow.Author.Tests.{ne_eqb}
use Rattle.std.proofs.Common.{Option, Some, None}
use Rattle.kernel.proofs.Decided.{either}
use Rattle.text.specs.Text.{value}
use Rattle.language.specs.Language.{Digits, Decimal}
use Rattle.language.specs.Meaning.{index_of, index_after, number_from, number_of}
use Rattle.language.proofs.Between.{between, inside}
use Rattle.language.proofs.Cut.{Word}

-- What the number that digits are read as says of them, behind others that spell n.
abbrev From : ℕ → List ℕ → Option ℕ → Type 0
From n ds None = Unit
From n ds (Some m) = Digits ds × (value n ds ≡ m)

reads : (n : ℕ) (ds : List ℕ) → From n ds (number_from n ds)
unfolding number_from value
reads n [] = (tt, refl)
reads n (b ∷ bs) =
    let k = n * 10 + (b - 48) in
    either (From n (b ∷ bs)) (leb 48 b && leb b 57) (λ e. first e (number_from k bs) (reads k bs)) (λ e. tt)
  where
    first : leb 48 b && leb b 57 ≡ true → (m : Option ℕ) → From (n * 10 + (b - 48)) bs m → From n (b ∷ bs) m
    first e None h = tt
    first e (Some m) h = ((between 48 b 57 e, h.0), h.1)

-- What a number says of the text that is read as it.
abbrev pub Spelt : Option ℕ → List ℕ → Type 0
Spelt None ds = Unit
Spelt (Some n) ds = Decimal ds n

pub spelt : (ds : List ℕ) → Spelt (number_of ds) ds
unfolding number_of
spelt ds = either (λ m. Spelt m ds) (leb 1 (length ds) && leb (length ds) 10) (λ e. sized e (number_from 0 ds) (reads 0 ds)) (λ e. tt)
  where
    sized : leb 1 (length ds) && leb (length ds) 10 ≡ true → (m : Option ℕ) → From 0 ds m → Spelt m ds
    sized e None h = tt
    sized e (Some m) h = let size = between 1 (length ds) 10 e in record { digits = h.0; some = size.0; most = size.1; is = h.1 }

reads_digits : (n : ℕ) (ds : List ℕ) → Digits ds → number_from n ds ≡ Some (value n ds)
unfolding number_from value
reads_digits n [] d = refl
reads_digits n (b ∷ bs) d = rw (inside 48 b 57 d.0) (reads_digits (n * 10 + (b - 48)) bs d.1)

pub is_read : {ds : List ℕ} {n : ℕ} → Decimal ds n → number_of ds ≡ Some n
unfolding number_of
is_read {ds} d = rw (inside 1 (length ds) 10 (d.some, d.most)) (reads_digits 0 ds d.digits ∙ ap Some d.is)

-- No digit is a space.
pub digits_word : (ds : List ℕ) → Digits ds → Word ds
unfolding index_of index_after
digits_word [] d = refl
digits_word (b ∷ bs) d = rw (ne_eqb b 32 (λ e. let low = d.0.0 in omega arith), digits_word bs d.1)

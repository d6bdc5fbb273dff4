-- Two numbers are one exactly where the model's test says so, and where their bits are the same, which the code compares. Assumes nothing.
use mathlib.Core.Path.{◌≡◌, ap, sym, ◌∙◌}
use mathlib.Core.Bool.{true, false≢true}
use mathlib.Core.Logic.{◌↔◌}
use lib.IntN.{ℤ, pos, negsuc}
use mir.Facts.{to_z-of_z}
use mir.Syntax.{w64}
use mir.Val.{SFits, to_z, of_z}
use borrow.Author.Tests.{eqb-true, eq-eqb}
use Rattle.kernel.specs.Answer.{same_number}

pub one_number : (m n : ℤ) → (same_number m n ≡ true) ↔ (n ≡ m)
one_number (pos m) (pos n) = (λ e. ap pos (sym (eqb-true m n e)), λ e. eq-eqb m n (cc))
one_number (pos m) (negsuc n) = (λ e. absurd (false≢true e), λ e. cc)
one_number (negsuc m) (pos n) = (λ e. absurd (false≢true e), λ e. cc)
one_number (negsuc m) (negsuc n) = (λ e. ap negsuc (sym (eqb-true m n e)), λ e. eq-eqb m n (cc))

pub one_by_bits : {m n : ℤ} → SFits w64 m → SFits w64 n → of_z w64 m ≡ of_z w64 n → n ≡ m
one_by_bits f g e = sym (to_z-of_z g) ∙ ap (to_z w64) (sym e) ∙ to_z-of_z f

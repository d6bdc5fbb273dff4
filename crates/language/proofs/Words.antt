-- Two texts compared, and a verb sought among others. Assumes nothing.
use mathlib.Core.Path.{◌≡◌, refl, sym, ◌∙◌}
use mathlib.Core.Bool.{Bool, true, false}
use mathlib.Core.List.{List, [], ◌∷◌}
use Prim.Native.Nat.{ℕ}
use Prim.Native.String.{String}
use Rattle.std.proofs.Common.{Option, Some, None, map, option_map, Bor, cond, ap}
use Rattle.std.proofs.lemmas.Slice.Eq.{bytes_eq-Decides}
use Rattle.std.specs.List.{find}
use Rattle.std.specs.Str.{bytes_eq}
use Rattle.kernel.specs.Channels.{same_bytes}
use Rattle.kernel.proofs.Decided.{either}
use Rattle.text.specs.Text.{bytes}
use Rattle.verbs.specs.declared.Verb.{Verb}
use Rattle.language.specs.Meaning.{sought}

-- The code compares two so.
pub compared : (a b : List ℕ) → bytes_eq a b ≡ same_bytes a b
unfolding same_bytes
compared [] [] = refl
compared [] (y ∷ ys) = refl
compared (x ∷ xs) [] = refl
compared (x ∷ xs) (y ∷ ys) = rw (compared xs ys)

pub same_equal : (a b : List ℕ) → same_bytes a b ≡ true → a ≡ b
same_equal a b h = (bytes_eq-Decides a b).0 (compared a b ∙ h)

-- What a comparison says.
pub told : (a b c : List ℕ) {r t : Bool} → r ≡ bytes_eq a c → c ≡ b → r ≡ t → same_bytes a b ≡ t
told a b c e same f = sym (compared a b) ∙ ap (bytes_eq a) (sym same) ∙ sym e ∙ f

-- A verb of the code's list, and one of the model's.
abbrev pub in_code : Bor (List ℕ) × Verb → List ℕ × Verb
in_code v = (v.0.now, v.1)

abbrev pub in_model : String × Verb → List ℕ × Verb
in_model v = (bytes v.0, v.1)

-- So what the code finds is what is sought.
pub sought_found
    : (w : List ℕ) (xs : List (Bor (List ℕ) × Verb)) (vs : List (String × Verb))
    → map in_code xs ≡ map in_model vs
    → option_map (λ v. v.1) (find (λ v. bytes_eq w v.0.now) xs) ≡ sought vs w
unfolding sought
sought_found w [] [] e = refl
sought_found w [] (v ∷ vs) e = cc
sought_found w (x ∷ xs) [] e = cc
sought_found w (x ∷ xs) (v ∷ vs) e =
    let same : in_code x ≡ in_model v = cc in
    let verb = ap (λ (z : List ℕ × Verb). z.1) same in
    let test = ap (λ (z : List ℕ × Verb). bytes_eq w z.0) same ∙ compared w (bytes v.0) in
    let others = sought_found w xs vs (cc) in
    rw test
    (elim (same_bytes w (bytes v.0)) as (λ t. option_map (λ v. v.1) (cond t (Some x) (find (λ v. bytes_eq w v.0.now) xs)) ≡ cond t (Some v.1) (sought vs w)) [ true ↦ ap Some verb | false ↦ others ])

-- What is sought has whatever no call has and each verb has that the word can be.
module _ (P : Option Verb → Type 0) (w : List ℕ) where
  abbrev pub Each : List (String × Verb) → Type 0
  Each [] = Unit
  Each (v ∷ vs) = (w ≡ bytes v.0 → P (Some v.1)) × Each vs

  pub sought_has : P None → (vs : List (String × Verb)) → Each vs → P (sought vs w)
  unfolding sought
  sought_has none [] each = none
  sought_has none (v ∷ vs) each =
      either P (same_bytes w (bytes v.0)) (λ e. each.0 (same_equal w (bytes v.0) e)) (λ e. sought_has none vs each.1)

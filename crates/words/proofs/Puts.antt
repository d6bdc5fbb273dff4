-- What is read after a write: what was written where it was, and else what stood there. Assumes nothing.
use mathlib.Core.Path.{◌≡◌, refl, ◌∙◌}
use mathlib.Core.List.{List, [], ◌∷◌}
use Prim.Native.Nat.{ℕ, zero, suc, ◌+◌, ◌≤◌, ◌<◌}
use native.Mathlib.Omega.{arith}
use lib.ListN.{length, get_or, set, length-set}
use lib.Seq.{get_or-set_same, get_or-set_other}
use lib.Dec.{ltb}
use borrow.Author.Tests.{ltb-true, ltb-false, lt-ltb, le-ltb}
use Rattle.kernel.proofs.Decided.{either}
use Rattle.kernel.specs.Sizes.{task_count}
use Rattle.kernel.specs.Layout.{word, field, head_at, next_word, previous_word}
use Rattle.words.specs.Writes.{puts, with_previous, with_lead}

-- ---- several words, one behind the other

module _ (b : ℕ) where
  pub puts_length : (w : List ℕ) (f : ℕ) (ns : List ℕ) → length (puts w b f ns) ≡ length w
  puts_length w f [] = refl
  puts_length w f (n ∷ ns) = puts_length (set w (b + f) n) (suc f) ns ∙ length-set w (b + f) n

  pub puts_kept : (w : List ℕ) (f : ℕ) (ns : List ℕ) (j : ℕ) → ((i : ℕ) → i < length ns → j ≡ b + f + i → ⊥) → word (puts w b f ns) j ≡ word w j
  puts_kept w f [] j ne = refl
  puts_kept w f (n ∷ ns) j ne =
      puts_kept (set w (b + f) n) (suc f) ns j (λ i l e. ne (suc i) (omega arith) (omega arith)) ∙ get_or-set_other w (b + f) j n 0 (λ e. ne 0 (omega arith) (omega arith))

  pub puts_at : (w : List ℕ) (f : ℕ) (ns : List ℕ) (i : ℕ) → i < length ns → b + f + length ns ≤ length w → word (puts w b f ns) (b + f + i) ≡ get_or ns i 0
  puts_at w f [] i l h = absurd (omega arith)
  puts_at w f (n ∷ ns) zero l h =
      let e : b + f + 0 ≡ b + f = omega arith in
      rw e (puts_kept (set w (b + f) n) (suc f) ns (b + f) (λ i l z. omega arith) ∙ get_or-set_same w (b + f) n 0 (omega arith))
  puts_at w f (n ∷ ns) (suc i) l h =
      let e : b + f + suc i ≡ b + suc f + i = omega arith in
      rw e (puts_at (set w (b + f) n) (suc f) ns i (omega arith) (omega (arith, length-set w (b + f) n)))

-- ---- a neighbour's link

module _ (w : List ℕ) (x n : ℕ) where
  pub previous_some : x < task_count → with_previous w x n ≡ set w (field x previous_word) n
  unfolding with_previous
  previous_some l = rw (lt-ltb x task_count l) refl

  pub previous_length : length (with_previous w x n) ≡ length w
  unfolding with_previous
  previous_length = either (λ (v : List ℕ). length v ≡ length w) (ltb x task_count) (λ e. length-set w (field x previous_word) n) (λ e. refl)

  pub previous_kept : (j : ℕ) → (x < task_count → j ≡ field x previous_word → ⊥) → word (with_previous w x n) j ≡ word w j
  unfolding with_previous
  previous_kept j ne = either (λ (v : List ℕ). word v j ≡ word w j) (ltb x task_count) (λ e. get_or-set_other w (field x previous_word) j n 0 (ne (ltb-true x task_count e))) (λ e. refl)

module _ (w : List ℕ) (q x n : ℕ) where
  pub lead_some : x < task_count → with_lead w q x n ≡ set w (field x next_word) n
  unfolding with_lead
  lead_some l = rw (lt-ltb x task_count l) refl

  pub lead_none : task_count ≤ x → with_lead w q x n ≡ set w (head_at q) n
  unfolding with_lead
  lead_none l = rw (le-ltb x task_count l) refl

  pub lead_length : length (with_lead w q x n) ≡ length w
  unfolding with_lead
  lead_length = either (λ (v : List ℕ). length v ≡ length w) (ltb x task_count) (λ e. length-set w (field x next_word) n) (λ e. length-set w (head_at q) n)

  pub lead_kept : (j : ℕ) → (x < task_count → j ≡ field x next_word → ⊥) → (task_count ≤ x → j ≡ head_at q → ⊥) → word (with_lead w q x n) j ≡ word w j
  unfolding with_lead
  lead_kept j ne nh =
      either (λ (v : List ℕ). word v j ≡ word w j) (ltb x task_count)
      (λ e. get_or-set_other w (field x next_word) j n 0 (ne (ltb-true x task_count e))) (λ e. get_or-set_other w (head_at q) j n 0 (nh (ltb-false x task_count e)))

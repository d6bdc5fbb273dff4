-- The clock's clause, by whether the kernel is stopped with -2. Assumes nothing.
use mathlib.Core.Path.{◌≡◌, ap, sym, ◌∙◌}
use mathlib.Core.Bool.{true}
use mathlib.Core.Logic.{◌↔◌}
use Prim.Native.Nat.{ℕ}
use native.Mathlib.Omega.{arith}
use lib.Dec.{eqb, ltb}
use borrow.Author.Rules.{rules}
use Rattle.kernel.specs.declared.Stop.{Stop}
use Rattle.kernel.specs.Sizes.{lifetime}
use Rattle.kernel.specs.Status.{stop_number}
use Rattle.kernel.specs.Kernel.{Kernel}
use Rattle.kernel.specs.Good.{Clocked}
use Rattle.kernel.proofs.Decided.{equal, below, means}

-- The clock t and the number n of the stop that are read.
module _ {k : Kernel} {t n : ℕ} {s : Stop} (clock : t ≡ k.clock) (stop : s ≡ k.stop) (number : n ≡ stop_number s) where
  pub expired : n ≡ 2 → (eqb t lifetime ≡ true) ↔ Clocked k
  expired two =
      let is = sym (ap stop_number stop) ∙ sym number ∙ two in
      means (equal t lifetime) (λ e. record { clock = omega arith; expired = (λ t. is, λ w. omega arith) }) (λ g. clock ∙ g.expired.1 is)

  pub unexpired : (n ≡ 2 → ⊥) → (ltb t lifetime ≡ true) ↔ Clocked k
  unexpired other =
      let not : stop_number k.stop ≡ 2 → ⊥ = λ w. other (number ∙ ap stop_number stop ∙ w) in
      means
      (below t lifetime)
      (λ l. record { clock = omega arith; expired = (λ e. absurd (omega arith), λ w. absurd (not w)) })
      (λ g. let h = g.clock in let before : k.clock ≡ lifetime → ⊥ = λ e. not (g.expired.0 e) in omega arith)

pub ruleset clocks = (rules, expired, unexpired)

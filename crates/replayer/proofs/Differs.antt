-- A replay finds the first answer that is another, and none exactly where there is none. Assumes nothing.
use mathlib.Core.Path.{◌≡◌, refl, ap, sym, subst, ◌∙◌}
use mathlib.Core.Bool.{Bool, true, false≢true}
use mathlib.Core.List.{List, [], ◌∷◌}
use mathlib.Core.Logic.{◌↔◌}
use mathlib.Core.Option.{Option, none, some}
use Prim.Native.Nat.{ℕ, suc, ◌+◌, ◌≤◌}
use native.Mathlib.Omega.{arith}
use lib.ListN.{length}
use borrow.Author.Tests.{lt-ltb, not-true}
use Rattle.kernel.specs.Answer.{same_number}
use Rattle.kernel.specs.Kernel.{Kernel}
use Rattle.kernel.specs.Fresh.{fresh}
use Rattle.kernel.proofs.Decided.{either, negated}
use Rattle.pieces.specs.Program.{blocks, pieces, highest, next_index}
use Rattle.tape.specs.declared.Record.{Record}
use Rattle.records.specs.Records.{outcome, asked}
use Rattle.replayer.specs.Replay.{told, differs, replayed, AsAnswered, FirstDiffers, here, later}
use Rattle.replayer.proofs.Same.{one_number}

-- Whether a record's answer is the kernel's.
abbrev same : Record → Kernel → Bool
same r k = same_number (outcome (asked r) k).answer.number r.answer

decides : (r : Record) (k : Kernel) → (same r k ≡ true) ↔ (r.answer ≡ (outcome (asked r) k).answer.number)
decides r k = one_number (outcome (asked r) k).answer.number r.answer

-- ---- none

none_differs : (rs : List Record) (k : Kernel) (i : ℕ) → (differs i rs k ≡ none) ↔ AsAnswered rs k
unfolding differs AsAnswered
none_differs [] k i = (λ e. tt, λ h. refl)
none_differs (r ∷ rs) k i =
    let others = none_differs rs (outcome (asked r) k).kernel (next_index i) in
    either (λ (z : Option ℕ). (z ≡ none) ↔ AsAnswered (r ∷ rs) k) (same r k)
    (λ t. (λ e. ((decides r k).0 t, others.0 e), λ a. others.1 a.1))
    (λ t. (λ e. absurd (let z : ◌≡◌ {A = ℕ} 0 1 = cc in omega arith), λ a. absurd (false≢true (sym t ∙ (decides r k).1 a.0))))

-- **told_apart**: a tape replays with none exactly where each record's answer, of the accepted blocks in turn, is that of a fresh kernel run through the records' calls.
pub told_apart : (t : List ℕ) → (replayed t ≡ none) ↔ AsAnswered (told 0 (pieces blocks t)) fresh
unfolding replayed
told_apart t = none_differs (told 0 (pieces blocks t)) fresh 0

-- ---- the first

-- Counted from i on, the index that is given is that of the first.
first_found : (rs : List Record) (k : Kernel) (i n : ℕ) → i + length rs ≤ highest → differs i rs k ≡ some n → (j : ℕ) × (n ≡ i + j) × FirstDiffers rs k j
unfolding differs
first_found [] k i n fits = λ e. absurd (let z : ◌≡◌ {A = ℕ} 0 1 = cc in omega arith)
first_found (r ∷ rs) k i n fits =
    either (λ (z : Option ℕ). z ≡ some n → (j : ℕ) × (n ≡ i + j) × FirstDiffers (r ∷ rs) k j) (same r k)
    (λ t e.
    let f = first_found rs (outcome (asked r) k).kernel (i + 1) n (omega arith) (rw (lt-ltb i highest (omega arith)) at e) in
    (suc f.0, omega (arith, f.1), later ((decides r k).0 t) f.2))
    (λ t e. let z : i ≡ n = cc in (0, omega arith, here (λ a. false≢true (sym t ∙ (decides r k).1 a))))

-- And the index of the first is given.
first_given : {rs : List Record} {k : Kernel} {j : ℕ} → FirstDiffers rs k j → (i : ℕ) → i + length rs ≤ highest → differs i rs k ≡ some (i + j)
unfolding differs
first_given {k = k} (here {r} ne) i fits = rw (not-true (same r k) ((negated (decides r k)).1 ne)) (ap some (omega arith))
first_given {k = k} (later {r} e h) i fits = rw ((decides r k).1 e, lt-ltb i highest (omega arith)) (first_given h (i + 1) (omega arith) ∙ ap some (omega arith))

-- **first_told**: and it gives an index exactly where the record of that index is the first whose answer differs, for tapes of no more records than 64 bits count.
pub first_told : (t : List ℕ) (i : ℕ) → length (told 0 (pieces blocks t)) ≤ highest → (replayed t ≡ some i) ↔ FirstDiffers (told 0 (pieces blocks t)) fresh i
unfolding replayed
first_told t i fits =
    let rs = told 0 (pieces blocks t) in (
      λ e. let f = first_found rs fresh 0 i (omega arith) e in subst (FirstDiffers rs fresh) (omega (arith, f.1)) f.2,
      λ h. first_given h 0 (omega arith) ∙ ap some (omega arith),
    )

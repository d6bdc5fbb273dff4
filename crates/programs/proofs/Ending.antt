-- The end of the input. Assumes nothing.
use mathlib.Core.Path.{◌≡◌, refl, ap, sym, ◌∙◌}
use mathlib.Core.List.{List, [], ◌∷◌, ◌++◌}
use Prim.Native.Nat.{ℕ, ◌<◌}
use native.Mathlib.Omega.{arith}
use lib.ListN.{length, take}
use Rattle.pieces.specs.Program.{longest, last, Turned, prints}
use Rattle.pieces.specs.Reads.{Finished}
use Rattle.pieces.proofs.Begun.{as_long}
use Rattle.programs.specs.declared.Program.{Program}
use Rattle.programs.specs.Programs.{model, Kept, Keeps, Desk, Ends, Ended}

-- No piece is begun.
pub none_ends : {p : Program} (d : Desk) {paper paper' : List ℕ} {n : ℕ} → d.kept.at.begun ≡ 0 → Finished (model p) Kept (Keeps p) d.kept paper 0 paper' n → Ends p d (take n paper')
unfolding prints
none_ends {p} d none f x h =
    let empty : x.begun ≡ [] = rw none at (h.begun.held.whole (omega arith)) in
    f.put.holds ∙ f.prints x.state h.keeps ∙ ap (λ (bs : List ℕ). prints (model p) (last bs) x.state) (sym empty)

one_piece : (p : Program) (bs : List ℕ) (s : (model p).State) → 0 < length bs → prints (model p) (last bs) s ≡ ((model p).turn bs s).text ++ (model p).finish ((model p).turn bs s).state
unfolding prints
one_piece p [] s l = absurd (omega arith)
one_piece p (b ∷ bs) s l = refl

-- One is, and has its turn.
pub piece_ends : {p : Program} (d : Desk) {k' : Kept} {paper paper' paper'' : List ℕ} {m n : ℕ} → (d.kept.at.begun ≡ 0 → ⊥) → length d.piece ≡ longest
    → Ended p d.piece d.kept.at.begun d.kept k' paper 0 paper' m
    → Finished (model p) Kept (Keeps p) k' paper' m paper'' n
    → Ends p d (take n paper'')
piece_ends {p} d {k'} some size e f x h =
    let t = e.turn.taken in
    let same = e.same x.begun h.begun.held x.state in
    let turned : Turned (model p).State → List ℕ = λ u. u.text ++ (model p).finish u.state in
    f.put.holds
    ∙ ap (λ (bs : List ℕ). bs ++ f.text) t.put.holds
    ∙ (λ i. t.prints x.state h.keeps i ++ f.prints ((model p).turn e.turned x.state).state (t.keeps x.state h.keeps) i)
    ∙ ap turned (sym same)
    ∙ sym (one_piece p x.begun x.state (as_long 1 (omega arith) (omega arith) size h.begun.held))

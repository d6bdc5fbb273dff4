-- A part of the input that is being read, byte by byte. Assumes nothing.
use mathlib.Core.Path.{◌≡◌, refl, sym, subst₂, ◌∙◌, ap}
use mathlib.Core.List.{List, [], ◌∷◌}
use Prim.Native.Nat.{ℕ, ◌+◌, ◌≤◌, ◌<◌}
use native.Mathlib.Numerals.{add-one}
use native.Mathlib.Omega.{arith}
use lib.ListN.{length, get_or, take}
use lib.Seq.{take-suc}
use Rattle.pieces.specs.Program.{longest}
use Rattle.pieces.proofs.Parts.{none_read, both_read}
use Rattle.programs.specs.declared.Program.{Program}
use Rattle.programs.specs.Programs.{model, Ready, Desk, Stands, Reads, Fed}

-- Of these bytes i are read so far, from one desk to another. Nothing is printed before one is.
pub record SoFar (p : Program) (bytes : List ℕ) (d₀ : Desk) (size : ℕ) (d : Desk) (paper : List ℕ) (printed i : ℕ) : Type 0 where
  pub within : i ≤ length bytes
  pub ready : Ready d.kept
  pub piece_size : length d.piece ≡ longest
  pub paper_size : length paper ≡ size
  pub fits : printed ≤ size
  pub some : 0 < printed → 0 < i
  pub reads : Reads p (take i bytes) d₀ d (take printed paper)

pub begins : (p : Program) (bytes : List ℕ) (d : Desk) (paper : List ℕ) → Ready d.kept → length d.piece ≡ longest → SoFar p bytes d (length paper) d paper 0 0
begins p bytes d paper ready l =
    record {
      within = omega arith;
      ready = ready;
      piece_size = l;
      paper_size = refl;
      fits = omega arith;
      some = λ s. absurd (omega arith);
      reads = none_read (model p) Desk (Stands p) d;
    }

pub one_more : {p : Program} {bytes : List ℕ} {d₀ d d' : Desk} {size : ℕ} {paper paper' : List ℕ} {printed n i : ℕ} → SoFar p bytes d₀ size d paper printed i → i < length bytes
    → printed + longest ≤ size
    → length d'.piece ≡ length d.piece
    → Fed p (get_or bytes i 0) d d' paper printed paper' n
    → SoFar p bytes d₀ size d' paper' n (i + 1)
one_more {p} {bytes} {d₀} {d' = d'} {i = i} f more room l fed =
    record {
      within = omega arith;
      ready = fed.ready;
      piece_size = l ∙ f.piece_size;
      paper_size = fed.put.size ∙ f.paper_size;
      fits = omega (arith, fed.put.ends, fed.short);
      some = λ s. omega arith;
      reads = subst₂ (λ (bs text : List ℕ). Reads p bs d₀ d' text) (sym (ap (λ (j : ℕ). take j bytes) (add-one i) ∙ take-suc bytes i 0 more)) (sym fed.put.holds)
          (both_read (model p) Desk (Stands p) (take i bytes) (get_or bytes i 0 ∷ []) f.reads fed.reads);
    }

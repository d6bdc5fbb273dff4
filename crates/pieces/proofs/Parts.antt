-- What is read in parts is read as one; and it is what the pieces print. Assumes nothing.
use mathlib.Core.Path.{◌≡◌, refl, ap, sym, subst, ◌∙◌}
use mathlib.Core.Bool.{Bool, true, false, cond}
use mathlib.Core.List.{List, [], ◌∷◌, ◌++◌, append_assoc}
use Prim.Native.Nat.{ℕ}
use Rattle.pieces.specs.Program.{ends, ended, pieces_from, Program, prints, output}
use Rattle.pieces.specs.Reads.{Place, Read, at_start, piece_ends, goes_on, byte, read, rest, Reads}

-- ---- parts

module _ (p : Program) where
  -- Two parts are read as one.
  two_parts : (bs cs : List ℕ) (x : Place p)
      → read p (bs ++ cs) x ≡ record { place = (read p cs (read p bs x).place).place; text = (read p bs x).text ++ (read p cs (read p bs x).place).text }
  unfolding read
  two_parts [] cs x = refl
  two_parts (b ∷ bs) cs x =
      let y = byte p b x in
      let z = read p bs y.place in
      let u = read p cs z.place in
      ap (λ (r : Read p). record { place = r.place; text = y.text ++ r.text }) (two_parts bs cs y.place)
      ∙ (λ i. record { place = u.place; text = sym (append_assoc y.text z.text u.text) i })

  module _ (K : Type 0) (R : K → Place p → Type 0) where
    -- No byte.
    pub none_read : (k : K) → Reads p K R [] k k []
    unfolding read
    none_read k x h = (h, refl)

    -- What is read behind the part that brought it to k.
    pub next_read : (bs cs : List ℕ) (x : Place p) {k k' : K} {t u : List ℕ} → R k (read p bs x).place × (t ≡ (read p bs x).text) → Reads p K R cs k k' u
        → R k' (read p (bs ++ cs) x).place × (t ++ u ≡ (read p (bs ++ cs) x).text)
    next_read bs cs x {k' = k'} h g =
        let z = g (read p bs x).place h.0 in
        let e = sym (two_parts bs cs x) in
        (subst (λ (r : Read p). R k' r.place) e z.0, (λ i. h.1 i ++ z.1 i) ∙ ap (λ (r : Read p). r.text) e)

    -- Two parts, one behind the other.
    pub both_read : (bs cs : List ℕ) {k k' k'' : K} {t u : List ℕ} → Reads p K R bs k k' t → Reads p K R cs k' k'' u → Reads p K R (bs ++ cs) k k'' (t ++ u)
    both_read bs cs f g x h = next_read bs cs x (f x h) g

  -- ---- pieces

  -- What bytes print, and the end of the input behind them, is what the pieces print.
  as_pieces : (bs : List ℕ) (x : Place p) → (read p bs x).text ++ rest p (read p bs x).place ≡ prints p (pieces_from p.cut x.begun bs) x.state
  unfolding read byte piece_ends goes_on pieces_from prints
  as_pieces [] x = refl
  as_pieces (b ∷ bs) x = go (ends p.cut x.begun b) (as_pieces bs)
    where
      go : (t : Bool) → ((y : Place p) → (read p bs y).text ++ rest p (read p bs y).place ≡ prints p (pieces_from p.cut y.begun bs) y.state)
          → (let y = cond t (piece_ends p b x) (goes_on p b x) in (y.text ++ (read p bs y.place).text) ++ rest p (read p bs y.place).place)
          ≡ prints p (cond t (ended p.cut x.begun b ∷ pieces_from p.cut [] bs) (pieces_from p.cut (x.begun ++ (b ∷ [])) bs)) x.state
      go true rec =
          let y = piece_ends p b x in
          append_assoc y.text (read p bs y.place).text (rest p (read p bs y.place).place) ∙ ap (λ (u : List ℕ). y.text ++ u) (rec y.place)
      go false rec = rec (goes_on p b x).place

  -- **whole_output**: in whatever parts an input is read, what is printed, the end of the input included, is the program's output.
  pub whole_output : (input : List ℕ) → p.title ++ ((read p input (at_start p)).text ++ rest p (read p input (at_start p)).place) ≡ output p input
  unfolding output
  whole_output input = ap (λ (u : List ℕ). p.title ++ u) (as_pieces input (at_start p))

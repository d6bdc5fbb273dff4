-- What demand 3 means: a write that is not put shows nowhere, and a channel is a cell that changes in one stroke. Assumes nothing.
use mathlib.Core.Path.{◌≡◌, refl, sym, ap, ◌∙◌}
use mathlib.Core.Bool.{Bool, true, false, true≢false, cond}
use mathlib.Core.List.{List, [], ◌∷◌}
use mathlib.Core.Option.{Option, some}
use Prim.Native.Nat.{ℕ}
use native.Mathlib.Decide.{ℕ_discrete}
use lib.ListN.{replicate}
use lib.Dec.{eqb}
use borrow.Author.Tests.{eq-eqb, ne_eqb}
use Rattle.kernel.specs.Channels.{over}
use Rattle.kernel.proofs.Decided.{either}
use Rattle.laws_runs.specs.Trace.{Event, begins_write, writes, puts, begins_reading}
use Rattle.laws_runs.specs.Messages.{Act, ◌did◌, log, size_of, written, last_put, opened}
use Rattle.laws_runs.specs.Whole.{ShownBy, Whole}
use Rattle.laws_runs.specs.Unput.{but, without_unput, UnputUnseen}
use Rattle.laws_runs.specs.Strokes.{strokes, there, took, OneStroke}

-- What finds the same messages says the same of showings.
found_so : {f g : ℕ → ℕ → List Act → Option (List ℕ)} → ((n t : ℕ) (h : List Act) → f n t h ≡ g n t h) → (h : List Event) → ShownBy f h → ShownBy g h
found_so e [] s = tt
found_so e (x ∷ h) s =
    (λ c w. let r = s.0 c w in record { bytes = r.bytes; message_is = sym (e (size_of c h) x.who (log c h)) ∙ r.message_is; shown_is = r.shown_is }, found_so e h s.1)

-- ---- writes that are not put

module _ (n : ℕ) where
  -- A task of which a put was met loses nothing that it wrote.
  written_finished : (p : ℕ → Bool) (w : ℕ) (h : List Act) → p w ≡ true → written n w (without_unput p h) ≡ written n w h
  written_finished p w [] e = refl
  written_finished p w (u did begins_write ∷ h) e = go (p u) refl (ℕ_discrete w u) (λ q. written_finished q w h)
    where
      go : (b : Bool) → p u ≡ b → Dec (w ≡ u) → ((q : ℕ → Bool) → q w ≡ true → written n w (without_unput q h) ≡ written n w h)
          → written n w (cond b (u did begins_write ∷ without_unput (but p u false) h) (without_unput p h)) ≡ cond (eqb w u) (replicate n 0) (written n w h)
      go true q (yes z) ih = rw (eq-eqb w u z) refl
      go false q (yes z) ih = absurd (true≢false (sym e ∙ ap p z ∙ q))
      go true q (no ne) ih = rw (ne_eqb w u ne) (ih (but p u false) (rw (ne_eqb w u ne) e))
      go false q (no ne) ih = rw (ne_eqb w u ne) (ih p e)
  written_finished p w (u did writes a bs ∷ h) e = go (p u) refl (ℕ_discrete w u) (written_finished p w h e)
    where
      go : (b : Bool) → p u ≡ b → Dec (w ≡ u) → written n w (without_unput p h) ≡ written n w h
          → written n w (cond b (u did writes a bs ∷ without_unput p h) (without_unput p h)) ≡ cond (eqb w u) (over (written n w h) a bs) (written n w h)
      go true q (yes z) ih = rw (eq-eqb w u z, ih) refl
      go false q (yes z) ih = absurd (true≢false (sym e ∙ ap p z ∙ q))
      go true q (no ne) ih = rw (ne_eqb w u ne) ih
      go false q (no ne) ih = rw (ne_eqb w u ne) ih
  written_finished p w (u did puts ∷ h) e = written_finished (but p u true) w h (go (eqb w u))
    where
      go : (b : Bool) → cond b true (p w) ≡ true
      go true = refl
      go false = e
  written_finished p w (u did begins_reading ∷ h) e = written_finished p w h e

  abbrev SamePut : List Act → List Act → Type 0
  SamePut h l = last_put n l ≡ last_put n h

  last_put_finished : (p : ℕ → Bool) (h : List Act) → last_put n (without_unput p h) ≡ last_put n h
  last_put_finished p [] = refl
  last_put_finished p (u did begins_write ∷ h) = either (SamePut h) (p u) (λ e. last_put_finished (but p u false) h) (λ e. last_put_finished p h)
  last_put_finished p (u did writes a bs ∷ h) = either (SamePut h) (p u) (λ e. last_put_finished p h) (λ e. last_put_finished p h)
  last_put_finished p (u did puts ∷ h) = ap some (written_finished (but p u true) u h (rw (eq-eqb u u refl) refl))
  last_put_finished p (u did begins_reading ∷ h) = last_put_finished p h

  abbrev SameOpened : ℕ → List Act → List Act → Type 0
  SameOpened t h l = opened n t l ≡ opened n t h

  opened_finished : (t : ℕ) (p : ℕ → Bool) (h : List Act) → opened n t (without_unput p h) ≡ opened n t h
  opened_finished t p [] = refl
  opened_finished t p (u did begins_write ∷ h) = either (SameOpened t h) (p u) (λ e. opened_finished t (but p u false) h) (λ e. opened_finished t p h)
  opened_finished t p (u did writes a bs ∷ h) = either (SameOpened t h) (p u) (λ e. opened_finished t p h) (λ e. opened_finished t p h)
  opened_finished t p (u did puts ∷ h) = opened_finished t (but p u true) h
  opened_finished t p (u did begins_reading ∷ h) = rw (last_put_finished p h, opened_finished t p h) refl

-- **unput_unseen**
pub unput_unseen : (h : List Event) → Whole h → UnputUnseen h
unput_unseen = found_so (λ n t h. sym (opened_finished n t (λ u. false) h))

-- ---- one stroke

there_last : (n : ℕ) (h : List Act) → last_put n h ≡ there (strokes n h)
there_last n [] = refl
there_last n (u did begins_write ∷ h) = there_last n h
there_last n (u did writes a bs ∷ h) = there_last n h
there_last n (u did puts ∷ h) = refl
there_last n (u did begins_reading ∷ h) = there_last n h

took_opened : (n t : ℕ) (h : List Act) → opened n t h ≡ took t (strokes n h)
took_opened n t [] = refl
took_opened n t (u did begins_write ∷ h) = took_opened n t h
took_opened n t (u did writes a bs ∷ h) = took_opened n t h
took_opened n t (u did puts ∷ h) = took_opened n t h
took_opened n t (u did begins_reading ∷ h) = rw (there_last n h, took_opened n t h) refl

-- **one_stroke**
pub one_stroke : (h : List Event) → Whole h → OneStroke h
one_stroke = found_so took_opened

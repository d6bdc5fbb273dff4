-- **Demand 2**: every state of every run is sound, a legal call takes effect, and a call is refused exactly where the table says so.
-- Assumes nothing.
use mathlib.Core.Path.{◌≡◌, ap, sym, subst, ◌∙◌}
use mathlib.Core.Bool.{true}
use mathlib.Core.Logic.{◌↔◌}
use mathlib.Core.List.{List}
use mathlib.Core.Option.{Option, none, some}
use Prim.Native.Nat.{ℕ}
use lib.IntN.{ℤ}
use Rattle.kernel.specs.declared.State.{State}
use Rattle.kernel.specs.declared.Reply.{Reply}
use Rattle.kernel.specs.Answer.{refused, said}
use Rattle.kernel.specs.Calls.{Call, effect}
use Rattle.kernel.specs.Refusals.{first, rows}
use Rattle.kernel.specs.Seen.{seen}
use Rattle.kernel.specs.Sound.{Sound}
use Rattle.kernel.specs.Promise.{handed}
use Rattle.kernel.proofs.Decided.{yes as truly}
use Rattle.laws_promises.specs.Earliest.{EarliestFirst}
use Rattle.laws_promises.proofs.Answers as Answers
use Rattle.laws_promises.proofs.Earliest.{earliest_first}
use Rattle.laws_runs.specs.Trace.{Event, asks, instead}
use Rattle.laws_runs.specs.Run.{bytes_of}
use Rattle.laws_demands.specs.Functions.{Made}
use Rattle.laws_demands.specs.Run.{Run}
use Rattle.laws_demands.specs.Legal.{Took}
use Rattle.laws_demands.proofs.Functions.{bytes, promised}
use Rattle.laws_demands.proofs.Model.{bytes_handed, as_model}

-- **run_sound**: every state of every run is sound.
pub run_sound : {m n : List ℕ} {s : State} {h : List Event} → Run m s n h → Sound s.words
run_sound r = (as_model r).sound

-- **run_earliest**: in each of them the running deadline is no later than any ready one, and the ready tasks stand by deadline.
pub run_earliest : {m n : List ℕ} {s : State} {h : List Event} → Run m s n h → EarliestFirst (seen s.words)
run_earliest r = earliest_first (run_sound r)

-- In a run, so on a sound state:
module _ {s : State} {m : List ℕ} {c : Call} {r : Reply} {left : List ℕ} {shown : Option (List ℕ)} (sound : Sound s.words) (p : Made s m r c left shown) where
  -- **refused_exactly**: a call is refused with x exactly where row x is the first of the table that applies.
  pub refused_exactly : (x : ℤ) → (said r.answer ≡ refused x) ↔ (first (rows c (handed true s.words m)) ≡ some x)
  refused_exactly x =
      let q = promised p in
      subst (λ (y : List ℕ). (said r.answer ≡ refused x) ↔ (first (rows c (handed true s.words y)) ≡ some x)) q.lent (Answers.refused_exactly q.answered true (truly sound) x)

  -- **takes_effect**: a legal call takes effect.
  pub takes_effect : first (rows c (handed true s.words m)) ≡ none → Took s m r c left shown
  takes_effect e =
      let q = promised p in
      let l = q.loan in
      let t = Answers.takes_effect q.answered sound (subst (λ (y : List ℕ). first (rows c (handed true s.words y)) ≡ none) (sym q.lent) e) in
      let x = (effect c (seen s.words) l.memory.bytes).shown in
      let bytes_are : shown ≡ bytes_of x l.memory.bytes (instead (asks c)) =
      sym q.shown_is ∙ ap bytes t.shown ∙ bytes_handed x l ∙ ap (bytes_of x l.memory.bytes) q.text in
      subst (λ (y : List ℕ). Took s y r c left shown) q.lent (record { answer = t.answer; state = t.state; memory = t.memory; shown_is = bytes_are })

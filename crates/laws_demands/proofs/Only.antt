-- What a function gives is determined by what it is handed. Assumes nothing.
use mathlib.Core.Path.{◌≡◌, refl, ap, sym, subst, ◌∙◌}
use mathlib.Core.List.{List}
use mathlib.Core.Option.{Option}
use Prim.Native.Nat.{ℕ}
use Rattle.kernel.specs.declared.State.{State}
use Rattle.kernel.specs.declared.Reply.{Reply}
use Rattle.kernel.specs.Calls.{Call}
use Rattle.kernel.specs.Step.{Outcome, step}
use Rattle.kernel.specs.Promise.{handed, handed_back, Loan, Given, Gives, Answered}
use Rattle.laws_promises.proofs.Answers.{one_outcome}
use Rattle.laws_runs.specs.Run.{bytes_of}
use Rattle.laws_demands.specs.Functions.{Made}
use Rattle.laws_demands.proofs.Functions.{bytes, promised}
use Rattle.laws_demands.proofs.Model.{bytes_handed}

module _ {c : Call} {s : State} {l : Loan} {g : Given} (a : Answered c s l g) where
  -- What the model's step gives.
  abbrev outcome : Outcome
  outcome = step c (handed a.sound s.words l.memory.bytes)

  -- Lent the same bytes elsewhere, a call gives the same, with the slice of that loan.
  elsewhere : (k : Loan) → l.memory.bytes ≡ k.memory.bytes → Answered c s k (record { reply = g.reply; memory = g.memory; shown = handed_back outcome.shown k })
  elsewhere k e =
      let h = a.gives in
      record {
        sound = a.sound;
        decided = a.decided;
        gives =
            subst (λ (m : List ℕ). Gives (step c (handed a.sound s.words m)) s.words k (record { reply = g.reply; memory = g.memory; shown = handed_back outcome.shown k }))
            e (record { answer = h.answer; state = h.state; running = h.running; memory = h.memory; shown = refl });
      }

-- **only_one**: what a function gives is determined by the state, the call and the bytes of the memory, wherever the memory lies.
pub only_one : {s : State} {m : List ℕ} {c : Call} {r r' : Reply} {left left' : List ℕ} {shown shown' : Option (List ℕ)} → Made s m r c left shown → Made s m r' c left' shown'
    → (r ≡ r') × (left ≡ left') × (shown ≡ shown')
only_one p p' =
    let q = promised p in
    let q' = promised p' in
    let x = (outcome q.answered).shown in
    let lent = q.lent ∙ sym q'.lent in
    let text = q.text ∙ sym q'.text in
    let same = one_outcome (elsewhere q.answered q'.loan lent) q'.answered in
    let slices : bytes q.given ≡ bytes (handed_back x q'.loan) =
    ap bytes q.answered.gives.shown ∙ bytes_handed x q.loan ∙ (λ i. bytes_of x (lent i) (text i)) ∙ sym (bytes_handed x q'.loan) in
    (λ i. (same i).reply, λ i. (same i).memory, sym q.shown_is ∙ slices ∙ (λ i. bytes (same i).shown) ∙ q'.shown_is)

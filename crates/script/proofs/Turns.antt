-- A step of a script is the model's turn, and there is only one. Assumes nothing.
use mathlib.Core.Path.{◌≡◌, ap, sym, subst, ◌∙◌}
use mathlib.Core.List.{List}
use mathlib.Core.Option.{Option}
use Prim.Native.Nat.{ℕ}
use Rattle.kernel.specs.Kernel.{Kernel}
use Rattle.kernel.specs.Calls.{Call}
use Rattle.kernel.specs.Seen.{seen}
use Rattle.kernel.specs.Sound.{Sound}
use Rattle.kernel.specs.Promise.{Given}
use Rattle.laws_promises.proofs.Answers.{no_loan, call_sound, one_outcome}
use Rattle.laws_promises.proofs.SeenAs.{as_step}
use Rattle.text.specs.Text.{printed}
use Rattle.pieces.specs.Program.{Turned}
use Rattle.script.specs.Output.{by_call}
use Rattle.script.specs.Step.{told, Stepped, called, unknown}

-- The code has come to the words v and printed this text, as the model's turn does.
pub record Turns (x : Turned Kernel) (v text : List ℕ) : Type 0 where
  pub sound : Sound v
  pub kernel : seen v ≡ x.state
  pub prints : text ≡ x.text

-- **as_turn**: on sound words, a step leaves sound ones, and it does and prints what the model's turn does.
pub as_turn : {c : Option Call} {w v text : List ℕ} → Stepped w v text c → Sound w → Turns (by_call c (seen w)) v text
unfolding no_loan
as_turn (unknown e text) h = record { sound = subst Sound (sym e) h; kernel = ap seen e; prints = text }
as_turn (called m) h =
    let a = m.answered no_loan in
    let z = as_step a h in
    record { sound = call_sound a h; kernel = z.kernel; prints = m.prints ∙ (λ i. printed (z.answer i).number (z.kernel i).running (z.kernel i).clock) }

-- **one_turn**: any two outcomes that the promise of a step permits are equal, on any words.
pub one_turn : {c : Option Call} {w v v' text text' : List ℕ} → Stepped w v text c → Stepped w v' text' c → (v ≡ v') × (text ≡ text')
unfolding no_loan
one_turn (unknown e text) (unknown e' text') = (e ∙ sym e', text ∙ sym text')
one_turn (called m) (called n) =
    let e = one_outcome (m.answered no_loan) (n.answered no_loan) in (
      ap (λ (g : Given). g.reply.state.words) e,
      m.prints ∙ ap (λ (g : Given). told g.reply.state.words g.reply.answer) e ∙ sym n.prints,
    )

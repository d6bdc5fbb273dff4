-- **Demand 1**: every call comes back with one answer, and a refused one changes nothing. Assumes nothing.
use mathlib.Core.Path.{◌≡◌, ap, sym, ◌∙◌}
use mathlib.Core.List.{List}
use mathlib.Core.Option.{Option}
use Prim.Native.Nat.{ℕ}
use lib.IntN.{ℤ}
use Rattle.kernel.specs.declared.State.{State}
use Rattle.kernel.specs.declared.Reply.{Reply}
use Rattle.kernel.specs.Answer.{refused, said}
use Rattle.kernel.specs.Calls.{Call}
use Rattle.kernel.specs.Refusals.{table}
use Rattle.kernel.specs.Promise.{Given}
use Rattle.laws_promises.specs.Outcome.{OneOf}
use Rattle.laws_promises.proofs.Answers as Answers
use Rattle.laws_promises.proofs.Always as Always
use Rattle.laws_demands.specs.Functions.{Made}
use Rattle.laws_demands.specs.Every.{OneReply}
use Rattle.laws_demands.proofs.Functions.{promised}
use Rattle.laws_demands.proofs.Every.{every_call}
use Rattle.laws_demands.proofs.Only.{only_one}

-- **always_answers**: every call on every state, sound or not, and every memory has one outcome, and no other.
pub always_answers : (s : State) (m : List ℕ) (c : Call) → OneReply s m c
always_answers s m c = let g = every_call s m c in record { given = g; only = λ p. only_one p g.made }

module _ {s : State} {m : List ℕ} {c : Call} {r : Reply} {left : List ℕ} {shown : Option (List ℕ)} (p : Made s m r c left shown) where
  -- **refused_unchanged**: refused, neither state nor memory has changed by one byte.
  pub refused_unchanged : (x : ℤ) → said r.answer ≡ refused x → (r.state ≡ s) × (left ≡ m)
  refused_unchanged x e =
      let q = promised p in
      let u = Answers.refused_unchanged q.answered x e in
      (u.0, u.1 ∙ q.lent)

  -- **refused_listed**: the number is one of the document's list.
  pub refused_listed : (x : ℤ) → said r.answer ≡ refused x → OneOf x table
  refused_listed x e =
      let q = promised p in
      let a = Always.always_answers c s q.loan in
      a.listed x (sym (ap (λ (g : Given). said g.reply.answer) (a.only _ q.answered)) ∙ e)

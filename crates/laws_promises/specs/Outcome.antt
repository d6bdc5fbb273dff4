-- What a call gives back: a legal one, and any. Assumes nothing.
use Rattle.std.specs.Prelude.{◌≡◌, ◌⊎◌, List, [], ◌∷◌, ℤ}
use Rattle.kernel.specs.declared.State.{State}
use Rattle.kernel.specs.Answer.{success, refused, said}
use Rattle.kernel.specs.Calls.{Call, Effect}
use Rattle.kernel.specs.Refusals.{table}
use Rattle.kernel.specs.Shows.{Shows}
use Rattle.kernel.specs.Promise.{handed_back, Loan, Given, Answered}

-- What is given is what the effect e says: its number, no refusal, its kernel, its memory, and what it hands back.
pub record TookEffect (e : Effect) (l : Loan) (g : Given) : Type 0 where
  pub answer : said g.reply.answer ≡ success e.number
  pub state : Shows g.reply.state.words e.kernel
  pub memory : g.memory ≡ e.memory
  pub shown : g.shown ≡ handed_back e.shown l

-- x is one of the numbers.
abbrev pub OneOf : ℤ → List ℤ → Type 0
OneOf x [] = ⊥
OneOf x (n ∷ ns) = (n ≡ x) ⊎ OneOf x ns

-- One outcome of the call c, and no other. Refused, its number is one of the document's list.
pub record OneOutcome (c : Call) (s : State) (l : Loan) : Type 0 where
  pub given : Given
  pub answered : Answered c s l given
  pub only : (g : Given) → Answered c s l g → g ≡ given
  pub listed : (x : ℤ) → said given.reply.answer ≡ refused x → OneOf x table

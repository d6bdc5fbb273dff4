-- A call on a sound state gives back the model's outcome. Assumes nothing.
use mathlib.Core.Path.{◌≡◌, ap}
use mathlib.Core.Bool.{true}
use mathlib.Core.Option.{Option, none, some}
use lib.IntN.{ℤ}
use Rattle.kernel.specs.declared.State.{State}
use Rattle.kernel.specs.Answer.{said}
use Rattle.kernel.specs.Calls.{Call, effect}
use Rattle.kernel.specs.Step.{Outcome, by_table, step}
use Rattle.kernel.specs.Seen.{seen}
use Rattle.kernel.specs.Sound.{Sound}
use Rattle.kernel.specs.Promise.{handed, handed_back, Loan, Given, Answered}
use Rattle.kernel.proofs.Decided.{yes as truly}
use Rattle.laws_promises.proofs.Answers.{By, says, by}

-- What a call gave back is the outcome o, as far as it is seen.
pub record SeenAs (o : Outcome) (l : Loan) (g : Given) : Type 0 where
  pub answer : said g.reply.answer ≡ o.answer
  pub kernel : seen g.reply.state.words ≡ o.kernel
  pub memory : g.memory ≡ o.memory
  pub shown : g.shown ≡ handed_back o.shown l

pub as_step : {c : Call} {s : State} {l : Loan} {g : Given} → Answered c s l g → Sound s.words → SeenAs (step c (handed true s.words l.memory.bytes)) l g
unfolding step
as_step {c} {s} {l} {g} a w = go (says c s l true) (by a true (truly w))
  where
    go : (o : Option ℤ) → By c s l g true o → SeenAs (by_table o (effect c (seen s.words) l.memory.bytes) (handed true s.words l.memory.bytes)) l g
    go (some x) h = record { answer = h.answer; kernel = ap seen h.state; memory = h.memory; shown = h.shown }
    go none h = record { answer = h.answer; kernel = h.state.is; memory = h.memory; shown = h.shown }

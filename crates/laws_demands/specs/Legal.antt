-- What a legal call gives back, by its function. Assumes nothing.
use Rattle.std.specs.Prelude.{◌≡◌, List, ℕ}
use Rattle.std.proofs.Math.Option.{Option}
use Rattle.kernel.specs.declared.State.{State}
use Rattle.kernel.specs.declared.Reply.{Reply}
use Rattle.kernel.specs.Answer.{success, said}
use Rattle.kernel.specs.Calls.{Call, Effect, effect}
use Rattle.kernel.specs.Seen.{seen}
use Rattle.kernel.specs.Shows.{Shows}
use Rattle.laws_runs.specs.Trace.{asks, instead}
use Rattle.laws_runs.specs.Run.{bytes_of}

-- The call c on the state s and the bytes m does this in the model.
abbrev pub done_by : State → List ℕ → Call → Effect
done_by s m c = effect c (seen s.words) m

-- It is no refusal, and the number, the next state, the memory and the bytes that are shown are the model's.
pub record Took (s : State) (m : List ℕ) (r : Reply) (c : Call) (left : List ℕ) (shown : Option (List ℕ)) : Type 0 where
  pub answer : said r.answer ≡ success (done_by s m c).number
  pub state : Shows r.state.words (done_by s m c).kernel
  pub memory : left ≡ (done_by s m c).memory
  pub shown_is : shown ≡ bytes_of (done_by s m c).shown m (instead (asks c))

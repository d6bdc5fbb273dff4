-- A call that was made in sound words came to the model's outcome. Assumes nothing.
use mathlib.Core.Path.{◌≡◌}
use mathlib.Core.Bool.{true}
use mathlib.Core.List.{List}
use Prim.Native.Nat.{ℕ}
use Rattle.kernel.specs.Answer.{Answer, said}
use Rattle.kernel.specs.Calls.{Verb, verb}
use Rattle.kernel.specs.Layout.{word, clock_at, running_at}
use Rattle.kernel.specs.Seen.{seen}
use Rattle.kernel.specs.Sound.{Sound}
use Rattle.kernel.specs.Promise.{UnlentKnown, reply, unlent}
use Rattle.kernel.proofs.Decided.{yes as truly}
use Rattle.laws_promises.proofs.Answers.{no_loan, unlent_known_sound}
use Rattle.laws_promises.proofs.SeenAs.{as_step}
use Rattle.records.specs.Records.{recorded, outcome, record_of}

-- The verb v was made in the words w: it left w' and answered a.
pub record Made (v : Verb) (w w' : List ℕ) (a : Answer) : Type 0 where
  pub sound : Sound w'
  pub answer : said a ≡ (outcome v (seen w)).answer
  pub kernel : seen w' ≡ (outcome v (seen w)).kernel

pub made : (v : Verb) {w w' : List ℕ} {a : Answer} → UnlentKnown (verb v) w w' a → Sound w → Made v w w' a
unfolding no_loan
made v {w} {w'} {a} u s =
    let z = as_step {c = verb v} {s = record { words = w }} {l = no_loan} {g = unlent (reply w' a) no_loan} (record { sound = true; decided = truly s; gives = u no_loan }) s in
    record { sound = unlent_known_sound (verb v) u s; answer = z.answer; kernel = z.kernel }

-- What is recorded of it, by the words that it left, is its record.
pub record_made : {v : Verb} {w w' : List ℕ} {a : Answer} → Made v w w' a → recorded v (said a).number (word w' running_at) (word w' clock_at) ≡ record_of v (seen w)
unfolding record_of
record_made {v} m i = recorded v (m.answer i).number (m.kernel i).running (m.kernel i).clock

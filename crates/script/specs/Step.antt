-- The promise of one step of a script, on any words, sound or not. Assumes nothing.
use Rattle.std.specs.Prelude.{◌≡◌, List, ℕ, ◌+◌, ◌≤◌}
use Rattle.std.proofs.Math.Option.{Option, none, some}
use Rattle.kernel.specs.Answer.{Answer, said}
use Rattle.kernel.specs.Calls.{Call}
use Rattle.kernel.specs.Layout.{word, clock_at, running_at}
use Rattle.kernel.specs.Promise.{reply, Unlent}
use Rattle.text.specs.Text.{bytes, printed, Continued, longest_printed}

-- What is printed of a call that left the words v: its answer, running task and clock.
abbrev pub told : List ℕ → Answer → List ℕ
told v a = printed (said a).number (word v running_at) (word v clock_at)

-- The call c was made on the words w and left v, and the text is what is printed of it.
pub record Called (c : Call) (w v text : List ℕ) : Type 0 where
  pub answer : Answer
  pub answered : Unlent c (record { words = w }) (reply v answer)
  pub prints : text ≡ told v answer

-- A line that asks for this call, or for none, was read in the words w: it left v and printed the text.
pub data Stepped (w v text : List ℕ) : Option Call → Type 0 where
  called : {c : Call} → Called c w v text → Stepped w v text (some c)
  unknown : v ≡ w → text ≡ bytes "?\n" → Stepped w v text none

-- The text was put on the paper behind so many bytes, and n are there then.
pub record Put (paper : List ℕ) (at : ℕ) (text paper' : List ℕ) (n : ℕ) : Type 0 where
  pub continued : Continued paper at text paper' n
  pub short : n ≤ at + longest_printed

-- The step took the words w to v, and the text that it printed was put on the paper.
pub record Shown (w v paper : List ℕ) (at : ℕ) (paper' : List ℕ) (n : ℕ) (c : Option Call) : Type 0 where
  pub text : List ℕ
  pub put : Put paper at text paper' n
  pub stepped : Stepped w v text c

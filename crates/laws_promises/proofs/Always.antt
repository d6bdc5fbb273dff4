-- Every call has an outcome, and only one. Assumes nothing.
use mathlib.Core.Path.{◌≡◌, refl}
use mathlib.Core.Bool.{Bool, true, false}
use mathlib.Core.Logic.{◌↔◌, inl, inr}
use mathlib.Core.List.{List, [], ◌∷◌}
use mathlib.Core.Option.{Option, none, some}
use lib.IntN.{ℤ}
use Rattle.std.specs.Prelude.{Ok, Err}
use Rattle.kernel.specs.declared.State.{State}
use Rattle.kernel.specs.Calls.{Call, effect}
use Rattle.kernel.specs.Refusals.{table}
use Rattle.kernel.specs.Step.{step}
use Rattle.kernel.specs.Seen.{seen}
use Rattle.kernel.specs.Sound.{Sound}
use Rattle.kernel.specs.Promise.{handed, handed_back, Loan, Given, Answered, reply}
use Rattle.kernel.proofs.Said.{refusal_of}
use Rattle.kernel.proofs.Refusals.{Each}
use Rattle.kernel.proofs.Decided.{yes as truly, no as untrue}
use Rattle.laws_words.proofs.Shown.{words_of, shown}
use Rattle.laws_promises.specs.Outcome.{OneOf, OneOutcome}
use Rattle.laws_promises.proofs.Soundness.{sound?}
use Rattle.laws_promises.proofs.Answers.{By, says, has_number, next_good, refused_listed, one_outcome}

-- Each number of a list is one of it.
each_one_of : (P : ℤ → Type 0) (ns : List ℤ) → ((x : ℤ) → OneOf x ns → P x) → Each P ns
each_one_of P [] f = tt
each_one_of P (n ∷ ns) f = (f n (inl refl), each_one_of P ns (λ x o. f x (inr o)))

module _ (c : Call) (s : State) (l : Loan) where
  -- What is given where the table says o: refused, the state and the memory as they were; else the words that the next kernel is seen in.
  outcome : (b : Bool) → (b ≡ true) ↔ Sound s.words → (o : Option ℤ) → says c s l b ≡ o → (g : Given) × By c s l g b o
  outcome b d (some x) e =
      let f = effect c (seen s.words) l.memory.bytes in (
        record { reply = reply s.words (Err (refusal_of x)); memory = l.memory.bytes; shown = handed_back f.instead l },
        record { answer = has_number c (handed b s.words l.memory.bytes) e; state = refl; running = refl; memory = refl; shown = refl },
      )
  outcome b d none e =
      let f = effect c (seen s.words) l.memory.bytes in (
        record { reply = reply (words_of f.kernel) (Ok f.number); memory = f.memory; shown = handed_back f.shown l },
        record { answer = refl; state = shown f.kernel (next_good c s l b d e); running = refl; memory = refl; shown = refl },
      )

  always : (b : Bool) → (b ≡ true) ↔ Sound s.words → OneOutcome c s l
  unfolding step
  always b d =
      let o = outcome b d (says c s l b) refl in
      let a : Answered c s l o.0 = record { sound = b; decided = d; gives = o.1 } in
      record {
        given = o.0;
        answered = a;
        only = λ g h. one_outcome h a;
        listed = refused_listed a (λ x. OneOf x table) (each_one_of _ table (λ x h. h));
      }

-- **always_answers**: every call has one outcome and no other, whatever state, numbers and memory it is handed.
pub always_answers : (c : Call) (s : State) (l : Loan) → OneOutcome c s l
always_answers c s l = go (sound? s.words)
  where
    go : Dec (Sound s.words) → OneOutcome c s l
    go (yes w) = always c s l true (truly w)
    go (no n) = always c s l false (untrue n)

-- A line is read, its call is made, and what it answers is printed. Assumes nothing.
use Rattle.std.proofs.Common.{◌≡◌, Option, ℕ, List, refl, sym, subst, ◌∙◌}
use Rattle.verbs.specs.declared.Verb.{Verb}
use Rattle.language.specs.Meaning.{call_of}
use Rattle.script.specs.Step.{Stepped, called, unknown}
use Rattle.script.proofs.step.Goals as goal

-- What a line is read to is what it asks for.
as_read : {w v text : List ℕ} {l l' : Option Verb} → l ≡ l' → Stepped w v text (call_of l) → Stepped w v text (call_of l')
as_read {w} {v} {text} e h = subst (λ (x : Option Verb). Stepped w v text (call_of x)) e h

pub returns-in-None : goal.returns-in-None
returns-in-None c = record { text = _; put = c.unknown.ensures; stepped = as_read (sym c.in-None.is ∙ c.read.ensures) (unknown refl refl) }

pub returns-in-Some : goal.returns-in-Some
returns-in-Some c =
    record {
      text = _;
      put = c.tell.ensures;
      stepped = as_read (sym c.in-Some.is ∙ c.read.ensures) (called (record { answer = c.make-answer.result; answered = c.make-answer.ensures; prints = refl }));
    }

-- What a program hands to C is the output of all that C handed over, and it ends nowhere else than it should. Assumes nothing.
use mathlib.Core.Path.{◌≡◌, refl, ap, sym, subst, ◌∙◌}
use mathlib.Core.Bool.{Bool, true, false, ◌&&◌}
use mathlib.Core.List.{List, [], ◌∷◌, ◌++◌, append_assoc, append-nil}
use mathlib.Core.Logic.{◌⊎◌, ⊎_map}
use Prim.Native.Nat.{ℕ}
use native.Mathlib.Omega.{arith}
use lib.Dec.{ltb}
use lib.ListN.{length, take}
use lib.Seq.{take-length}
use borrow.Author.Tests.{ltb-false}
use Rattle.pieces.specs.Program.{output}
use Rattle.pieces.specs.Reads.{at_start, read}
use Rattle.pieces.proofs.Parts.{none_read, next_read, whole_output}
use Rattle.programs.specs.declared.Program.{Program}
use Rattle.programs.specs.Programs.{model, Desk, Stands}
use Rattle.programs.proofs.Fresh.{starts}
use Rattle.console.specs.declared.Between.{Between}
use Rattle.console.specs.declared.Ending.{Ending}
use Rattle.console.specs.Exchange.{count, came, Answers, taken, Exchanges, none, one_more, most_exchanges, Ran, input, all_came, printed, Stopped, untitled, no_byte, not_taken}
use Rattle.console.proofs.Exchanges.{came_length}

-- What answers say, put one behind the other.
both : (f : Answers → List ℕ) (g : List Answers → List ℕ) → g [] ≡ [] → ((a : Answers) (later : List Answers) → g (a ∷ later) ≡ f a ++ g later) → (answers : List Answers) (a : Answers)
    → g (answers ++ (a ∷ [])) ≡ g answers ++ f a
both f g nil cons [] a = cons a [] ∙ ap (λ (x : List ℕ). f a ++ x) nil ∙ append-nil (f a) ∙ ap (λ (x : List ℕ). x ++ f a) (sym nil)
both f g nil cons (b ∷ answers) a =
    cons b (answers ++ (a ∷ []))
    ∙ ap (λ (x : List ℕ). f b ++ x) (both f g nil cons answers a)
    ∙ sym (append_assoc (f b) (g answers) (f a))
    ∙ ap (λ (x : List ℕ). x ++ f a) (sym (cons b answers))

input_more : (answers : List Answers) (a : Answers) → input (answers ++ (a ∷ [])) ≡ input answers ++ taken a
unfolding input
input_more = both (λ a. taken a) input refl (λ a later. refl)

came_more : (answers : List Answers) (a : Answers) → all_came (answers ++ (a ∷ [])) ≡ all_came answers ++ came a.got a.block
unfolding all_came
came_more = both (λ a. came a.got a.block) all_came refl (λ a later. refl)

-- Exchanges read all that they took, from the start on.
served : {p : Program} {titled : Bool} {answers : List Answers} {at : Between} {d : Desk} {text : List ℕ} → Exchanges p titled answers at d text
    → Stands p d (read (model p) (input answers) (at_start (model p))).place × (text ≡ (read (model p) (input answers) (at_start (model p))).text)
unfolding input
served {p} (none {block = block} {piece} e l) = none_read (model p) Desk (Stands p) _ (at_start (model p)) (starts p e block piece)
served {p} (one_more {answers} {d' = d'} {text} {block} so_far further e) =
    subst (λ (i : List ℕ). Stands p d' (read (model p) i (at_start (model p))).place × (text ++ e.text ≡ (read (model p) i (at_start (model p))).text)) (sym (input_more answers _))
    (next_read (model p) Desk (Stands p) (input answers) (take e.read (came e.got block)) (at_start (model p)) (served so_far) e.reads)

-- **all_printed**: what a program is to print, the title first and the end last, is the output of all bytes that were read. So it is what is printed, if C is handed these texts and takes all of them.
pub all_printed : {p : Program} {r : Ending} (h : Ran p r) → printed h ≡ output (model p) (input h.answers)
all_printed {p} {r} h =
    let s = served h.exchanges in
    (λ i. (model p).title ++ (s.1 i ++ h.last (read (model p) (input h.answers) (at_start (model p))).place s.0 i)) ∙ whole_output (model p) (input h.answers)

-- C took all that it was handed, in every exchange.
abbrev pub TookAll : List Answers → Type 0
TookAll [] = Unit {0}
TookAll (a ∷ answers) = (a.whole ≡ true) × TookAll answers

took_last : (answers : List Answers) (a : Answers) → TookAll (answers ++ (a ∷ [])) → TookAll answers × (a.whole ≡ true)
took_last [] a t = (tt, t.0)
took_last (b ∷ answers) a t = let h = took_last answers a t.1 in ((t.0, h.0), h.1)

whole_read : {p : Program} {titled : Bool} {answers : List Answers} {at : Between} {d : Desk} {text : List ℕ} → Exchanges p titled answers at d text → TookAll answers → input answers ≡ all_came answers
unfolding input all_came
whole_read (none e l) t = refl
whole_read (one_more {answers} {block = block} so_far further e) t =
    let h = took_last answers _ t in
    let all : take e.read (came e.got block) ≡ came e.got block =
    ap (λ (n : ℕ). take n (came e.got block)) (e.all h.1 ∙ sym (came_length e.got block)) ∙ take-length (came e.got block) in
    input_more answers _ ∙ (λ i. whole_read so_far h.0 i ++ all i) ∙ sym (came_more answers _)

-- **all_read**: where C took all that it was handed, every byte that came was read.
pub all_read : {p : Program} {r : Ending} (h : Ran p r) → TookAll h.answers → input h.answers ≡ all_came h.answers
all_read h t = whole_read h.exchanges t

-- No exchange follows the last one.
at_last : {titled : Bool} (before : List Answers) (a : Answers) (t : Bool) → ltb 0 (count a.got a.block) ≡ t → t && a.whole ≡ false
    → Stopped titled (before ++ (a ∷ []))
at_last before a false nothing w = no_byte before a (let l = ltb-false 0 (count a.got a.block) nothing in omega arith)
at_last before a true something w = not_taken before a w

why : {p : Program} {titled : Bool} {answers : List Answers} {at : Between} {d : Desk} {text : List ℕ} → Exchanges p titled answers at d text → at.further ≡ false
    → Stopped titled answers
why (none e l) f = untitled f
why (one_more {answers} so_far further e) f = at_last answers _ _ refl (sym e.further ∙ f)

-- **stops**: a program ends only where no byte came or C did not take all that it was handed, or after 2^64 - 1 exchanges.
pub stops : {p : Program} {r : Ending} (h : Ran p r) → Stopped h.titled h.answers ⊎ (length h.answers ≡ most_exchanges)
stops h = ⊎_map (why h.exchanges) (λ e. e) h.over

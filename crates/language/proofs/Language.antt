-- What a line means is what it spells. Assumes nothing.
use mathlib.Core.Path.{◌≡◌, refl, ap, subst}
use mathlib.Core.Logic.{◌↔◌}
use mathlib.Core.Bool.{false}
use mathlib.Core.List.{List, ◌∷◌, ◌++◌}
use mathlib.Core.Option.{some}
use Prim.Native.Nat.{ℕ}
use Prim.Native.String.{String}
use native.Mathlib.Omega.{arith}
use Rattle.std.proofs.Common.{Option, Some, None}
use Rattle.kernel.specs.Channels.{same_bytes}
use Rattle.kernel.specs.Calls.{Verb, tick, create_hard, create_nrt, activate, sleep, cycle, end, kill, new_semaphore, delete, wait, signal, Call, verb, question, on_channel}
use Rattle.kernel.proofs.Decided.{either}
use Rattle.text.specs.Text.{bytes}
use Rattle.verbs.specs.declared.Verb as Code
use Rattle.verbs.specs.Verbs.{verb_of}
use Rattle.language.specs.Language.{With, WithTwo, SpellsVerb, Spells}
use Rattle.language.specs.Meaning.{index_of, index_after, call_of, sought, alone, number_of, with_one, with_number, with_two, hard, followed, before, behind, has_space, meaning}
use Rattle.language.proofs.Words.{same_equal, sought_has}
use Rattle.language.proofs.Cut.{Word, joined, cut_behind}
use Rattle.language.proofs.Decimals.{Spelt, spelt, is_read, digits_word}

-- What a line's meaning says of it.
abbrev Meant : List ℕ → Option Code.Verb → Type 0
Meant line None = Unit
Meant line (Some v) = SpellsVerb (verb_of v) line

meant_alone : (line : List ℕ) → Meant line (alone line)
unfolding SpellsVerb
meant_alone line = sought_has (Meant line) line tt _ (λ e. e, (λ e. e, (λ e. e, (λ e. e, tt))))

module _ (line w rest : List ℕ) (joins : line ≡ w ++ (32 ∷ rest)) where
  meant_number : (n : Option ℕ) → Spelt n rest → Meant line (with_number w n)
  unfolding SpellsVerb
  meant_number None d = tt
  meant_number (Some n) d = sought_has (Meant line) w tt _ (one, (one, (one, (one, (one, (one, (one, tt)))))))
    where
      one : {v : String} → w ≡ bytes v → With v n line
      one e = record { first = rest; number = d; spelt = rw e at joins }

  meant_two
      : w ≡ bytes "hard" → (a b : List ℕ) → rest ≡ a ++ (32 ∷ b) → (m n : Option ℕ) → Spelt m a → Spelt n b → Meant line (with_two m n)
  unfolding SpellsVerb
  meant_two e a b k None n d f = tt
  meant_two e a b k (Some m) None d f = tt
  meant_two e a b k (Some m) (Some n) d f = record { first = a; second = b; number = d; other = f; spelt = rw (e, k) at joins }

  meant_hard : w ≡ bytes "hard" → Meant line (hard rest)
  meant_hard e =
      let a = before rest in
      let b = behind rest in
      either (Meant line) (has_space rest) (λ k. meant_two e a b (joined rest k) (number_of a) (number_of b) (spelt a) (spelt b)) (λ k. tt)

  meant_followed : Meant line (followed w rest)
  meant_followed =
      either (Meant line) (same_bytes w (bytes "hard")) (λ e. meant_hard (same_equal w (bytes "hard") e)) (λ e. meant_number (number_of rest) (spelt rest))

meant : (line : List ℕ) → Meant line (meaning line)
unfolding meaning
meant line =
    either (Meant line) (has_space line) (λ h. meant_followed line (before line) (behind line) (joined line h)) (λ h. meant_alone line)

-- A verb other than hard, and a decimal.
one
    : {v : String} {n : ℕ} {line : List ℕ}
    → Word (bytes v)
    → same_bytes (bytes v) (bytes "hard") ≡ false
    → With v n line
    → meaning line ≡ with_one (bytes v) n
unfolding meaning
one {v} word other s =
    let d = s.first in
    rw (s.spelt, cut_behind (bytes v) d word followed (alone (bytes v ++ (32 ∷ d))), other, is_read s.number)

two : {m n : ℕ} {line : List ℕ} → WithTwo "hard" m n line → meaning line ≡ with_two (Some m) (Some n)
unfolding meaning index_of index_after same_bytes
two s =
    let ds = s.first ++ (32 ∷ s.second) in
    let word = digits_word s.first s.number.digits in
    rw (
      s.spelt,
      cut_behind (bytes "hard") ds refl followed (alone (bytes "hard" ++ (32 ∷ ds))),
      cut_behind s.first s.second word (λ a b. with_two (number_of a) (number_of b)) None,
      is_read s.number,
      is_read s.other,
    )

verb_means : (line : List ℕ) (v : Verb) → SpellsVerb v line → call_of (meaning line) ≡ some (verb v)
unfolding SpellsVerb meaning sought same_bytes index_of index_after
verb_means line tick s = rw s
verb_means line (create_hard p c) s = ap call_of (two s)
verb_means line (create_nrt p) s = ap call_of (one refl refl s)
verb_means line (activate n) s = ap call_of (one refl refl s)
verb_means line sleep s = rw s
verb_means line cycle s = rw s
verb_means line end s = rw s
verb_means line (kill n) s = ap call_of (one refl refl s)
verb_means line (new_semaphore n) s = ap call_of (one refl refl s)
verb_means line (delete n) s = ap call_of (one refl refl s)
verb_means line (wait n) s = ap call_of (one refl refl s)
verb_means line (signal n) s = ap call_of (one refl refl s)

means : (line : List ℕ) (c : Call) → Spells c line → call_of (meaning line) ≡ some c
means line (verb v) s = verb_means line v s
means line (question q) s = absurd s
means line (on_channel a) s = absurd s

spells : (line : List ℕ) (c : Call) (m : Option Code.Verb) → Meant line m → call_of m ≡ some c → Spells c line
spells line c None h e = absurd (let z : ◌≡◌ {A = ℕ} 0 1 = cc in omega arith)
spells line c (Some v) h e = let it : verb (verb_of v) ≡ c = cc in subst (λ x. Spells x line) it h

-- **language**: a line means the call c exactly where it spells it; so a line that spells no call means none, and none spells two.
pub language : (line : List ℕ) (c : Call) → (call_of (meaning line) ≡ some c) ↔ Spells c line
language line c = (spells line c (meaning line) (meant line), means line c)

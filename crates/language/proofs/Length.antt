-- How long a line that spells a call can be. Assumes nothing.
use mathlib.Core.Path.{◌≡◌, refl, ap}
use mathlib.Core.List.{List, ◌∷◌}
use Prim.Native.Nat.{ℕ, ◌+◌, ◌<◌, ◌≤◌}
use Prim.Native.String.{String}
use native.Mathlib.Omega.{arith}
use lib.ListN.{length, length-append}
use Rattle.std.proofs.Common.{Option, Some, None}
use Rattle.kernel.specs.Calls.{Verb, tick, create_hard, create_nrt, activate, sleep, cycle, end, kill, new_semaphore, delete, wait, signal, Call, verb, question, on_channel}
use Rattle.text.specs.Text.{bytes}
use Rattle.verbs.specs.declared.Verb as Code
use Rattle.verbs.specs.Verbs.{verb_of}
use Rattle.language.specs.Language.{With, WithTwo, SpellsVerb, Spells}
use Rattle.language.specs.Meaning.{call_of, meaning}
use Rattle.language.proofs.Language.{language}

one : {v : String} {n : ℕ} {line : List ℕ} → With v n line → length line ≤ length (bytes v) + 11
one {v} s = let few = s.number.most in omega (arith, ap length s.spelt, length-append (bytes v) (32 ∷ s.first))

two : {v : String} {m n : ℕ} {line : List ℕ} → WithTwo v m n line → length line ≤ length (bytes v) + 22
two {v} s =
    let few = s.number.most in
    let also = s.other.most in
    omega (arith, simp length-append at (ap length s.spelt))

short_verb : (line : List ℕ) (v : Verb) → SpellsVerb v line → length line ≤ 64
unfolding SpellsVerb
short_verb line tick s = omega (arith, ap length s)
short_verb line (create_hard p c) s = omega (arith, two s)
short_verb line (create_nrt p) s = omega (arith, one s)
short_verb line (activate n) s = omega (arith, one s)
short_verb line sleep s = omega (arith, ap length s)
short_verb line cycle s = omega (arith, ap length s)
short_verb line end s = omega (arith, ap length s)
short_verb line (kill n) s = omega (arith, one s)
short_verb line (new_semaphore n) s = omega (arith, one s)
short_verb line (delete n) s = omega (arith, one s)
short_verb line (wait n) s = omega (arith, one s)
short_verb line (signal n) s = omega (arith, one s)

pub short : (line : List ℕ) (c : Call) → Spells c line → length line ≤ 64
short line (verb v) s = short_verb line v s
short line (question q) s = absurd s
short line (on_channel a) s = absurd s

-- A line of more than 64 bytes means no call.
pub long_line : (line : List ℕ) → 64 < length line → meaning line ≡ None
long_line line l = go (meaning line) refl
  where
    go : (m : Option Code.Verb) → meaning line ≡ m → m ≡ None
    go None e = refl
    go (Some v) e = let c = verb (verb_of v) in absurd (omega (arith, short line c ((language line c).0 (ap call_of e))))

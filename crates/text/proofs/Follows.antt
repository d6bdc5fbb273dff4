-- One text after another in a buffer. Assumes nothing.
use mathlib.Core.Path.{◌≡◌, refl, ap, sym, ◌∙◌}
use mathlib.Core.List.{List, [], ◌++◌, append_assoc, append-nil}
use Prim.Native.Nat.{ℕ, ◌+◌, ◌≤◌}
use native.Mathlib.Numerals.{unary_clauses}
use native.Mathlib.Omega.{arith}
use lib.ListN.{length, take, drop, length-append, length-take}
use lib.Seq.{length-take-le, take_at}
use Rattle.kernel.specs.Channels.{over}
use Rattle.kernel.proofs.Over.{over_length}
use Rattle.text.specs.Text.{Continued}

-- A text written from its end on goes on with what is written.
pub written : (b text : List ℕ) (at : ℕ) → at + length text ≤ length b → Continued b at text (over b at text) (at + length text)
written b text at fits =
    let front : length (take at b ++ text) ≡ at + length text = simp length-append (omega (arith, length-take-le at b (omega arith))) in
    record {
      ends = refl;
      size = over_length b at text fits;
      holds = rw (← append_assoc (take at b) text (drop (at + length text) b)) (take_at (take at b ++ text) (drop (at + length text) b) (at + length text) front);
    }

-- No text.
pub nothing : (b : List ℕ) (at : ℕ) → Continued b at [] b at
nothing b at = record { ends = simp unary_clauses; size = refl; holds = sym (append-nil (take at b)) }

-- Two texts, one behind the other, are one.
pub follows
    : {b b' b'' text more : List ℕ} {at n m : ℕ}
    → Continued b at text b' n
    → Continued b' n more b'' m
    → Continued b at (text ++ more) b'' m
follows {b} {b'} {b''} {text} {more} {at} p q =
    record {
      ends = rw length-append (omega (arith, p.ends, q.ends));
      size = q.size ∙ p.size;
      holds = q.holds ∙ ap (λ (l : List ℕ). l ++ more) p.holds ∙ append_assoc (take at b) text more;
    }

-- A text that was inside the buffer still is.
pub inside : {b text b' : List ℕ} {at n : ℕ} → Continued b at text b' n → at ≤ length b → n ≤ length b'
inside {b} {text} {b'} {at} {n} p h = omega (arith, simp (length-append, length-take) at (ap length p.holds), p.ends)

-- What is told of a block is short. Assumes nothing.
use mathlib.Core.Path.{◌≡◌, refl}
use mathlib.Core.List.{List}
use Prim.Native.Nat.{ℕ, ◌≤◌}
use native.Mathlib.Omega.{arith}
use lib.ListN.{length, length-append}
use Rattle.std.proofs.Common.{Ok, Err}
use Rattle.text.proofs.Digits.{short}
use Rattle.tape.specs.declared.Fault.TheVariants.{Short, Check, Count, Verb, Spare}
use Rattle.tape.specs.Reader.{Reading, reading}
use Rattle.tape.specs.Form.{Bytes}
use Rattle.tape.proofs.Again.{accepted_recorded}
use Rattle.lister.specs.Listing.{told}

pub told_short : (b : List ℕ) → Bytes b → length (told (reading b)) ≤ 27
told_short b low = go (reading b) refl
  where
    go : (r : Reading) → reading b ≡ r → length (told r) ≤ 27
    go (Ok a) e =
        let k = accepted_recorded b a.number a.count low e in
        simp length-append (omega (arith, short a.number 9 (omega arith) (omega arith), short a.count 1 (omega arith) (omega arith)))
    go (Err Short) e = omega arith
    go (Err Check) e = omega arith
    go (Err Count) e = omega arith
    go (Err Verb) e = omega arith
    go (Err Spare) e = omega arith

-- What passes a message, with no sum that could overflow. Assumes nothing.
use mathlib.Core.Path.{◌≡◌, sym, ◌∙◌}
use Prim.Native.Nat.{ℕ, ◌+◌, ◌-◌, ◌≤◌, ◌<◌}
use native.Mathlib.Omega.{arith}
use native.Mathlib.Decide.{dec_lt}
use lib.Dec.{ltb}
use borrow.Author.Tests.{lt-ltb, le-ltb}

pub past : (size offset n : ℕ) → offset ≤ size → ltb (size - offset) n ≡ ltb size (offset + n)
past size offset n l = go (dec_lt (size - offset) n)
  where
    go : Dec (size - offset < n) → ltb (size - offset) n ≡ ltb size (offset + n)
    go (yes h) = lt-ltb (size - offset) n h ∙ sym (lt-ltb size (offset + n) (omega arith))
    go (no h) = le-ltb (size - offset) n (omega arith) ∙ sym (le-ltb size (offset + n) (omega arith))

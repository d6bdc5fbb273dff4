-- The piece that is begun, in its buffer. Assumes nothing.
use mathlib.Core.Path.{◌≡◌, refl, ap, ◌∙◌}
use mathlib.Core.List.{List, []}
use Prim.Native.Nat.{ℕ, ◌≤◌, ◌<◌}
use native.Mathlib.Decide.{dec_lt}
use native.Mathlib.Omega.{arith}
use lib.ListN.{length}
use lib.Seq.{length-take-le}
use Rattle.pieces.specs.Program.{longest, Cut}
use Rattle.pieces.specs.Reads.{InBuffer, Begun}

-- No piece is begun.
pub none_begun : (c : Cut) (buffer : List ℕ) → Begun c buffer 0 []
none_begun c buffer = record { held = record { whole = λ l. refl; long = λ l. absurd (omega arith) }; part = λ e. omega arith }

-- A piece has as many bytes as are counted, up to 512.
pub as_long : {c : Cut} {buffer : List ℕ} {n : ℕ} {piece : List ℕ} (m : ℕ) → m ≤ n → m ≤ longest → length buffer ≡ longest → InBuffer c buffer n piece → m ≤ length piece
as_long {buffer = buffer} {n} {piece} m l fits size h = go (dec_lt longest n)
  where
    go : Dec (longest < n) → m ≤ length piece
    go (yes w) = let k = (h.long w).1 in omega arith
    go (no w) = let k = ap length (h.whole (omega arith)) ∙ length-take-le n buffer (omega arith) in omega arith

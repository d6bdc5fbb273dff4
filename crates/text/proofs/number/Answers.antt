-- A sign where there is one, then how far the number is from 0: both have room. Assumes nothing.
use Rattle.std.proofs.Common.{ℕ, ◌≤◌, ◌^◌, length, arith, w64}
use mir.Facts.{to_z-of_z}
use Rattle.text.specs.Text.{decimal}
use Rattle.text.proofs.Digits.{short}
use Rattle.text.proofs.Signed.{below, above}
use Rattle.text.proofs.number.Goals as goal

-- A number that is at most 2^63 has no more than 19 digits.
room : (n : ℕ) → n ≤ 2 ^ 63 → length (decimal n) ≤ 19
room n h = short n 18 (omega arith) (omega arith)

pub decimal-requires : goal.decimal-requires
decimal-requires c =
    let b = below c.args.n (to_z-of_z {w = w64} c.ranges.n) c.ranges.n c.if-n-lt0.true in
    let l = (rw b.is at c.ranges.n).sfits in
    rw b.read (omega (arith, room))

pub decimal-requires-else-n-lt0 : goal.decimal-requires-else-n-lt0
decimal-requires-else-n-lt0 c =
    let a = above c.args.n (to_z-of_z {w = w64} c.ranges.n) c.ranges.n c.if-n-lt0.false in
    let l = (rw a.is at c.ranges.n).sfits in
    rw a.read (omega (arith, room))

-- Each part of a printed line has room: a number takes at most 20 bytes, and each byte behind one takes 1. Assumes nothing.
use Rattle.std.proofs.Common.{ℕ, ℤ, ◌^◌, ◌≤◌, ◌<◌, length, to_z, of_z, w64, arith, rules}
use mir.Facts.{to_z-of_z}
use mir.Val.{SFits}
use Rattle.text.specs.Text.{decimal, number, longest_number}
use Rattle.text.proofs.Digits.{short}
use Rattle.text.proofs.Signed.{number_short}
use Rattle.text.proofs.printed.Goals as goal

answer : (z : ℤ) → SFits w64 z → length (number (to_z w64 (of_z w64 z))) ≤ longest_number
answer z f = rw (to_z-of_z {w = w64} f) (number_short z f)

natural : (n : ℕ) → n < 2 ^ 64 → length (decimal n) ≤ longest_number
natural n h = short n 19 (omega arith) (omega arith)

pub put-b-requires : goal.put-b-requires
put-b-requires c = omega (arith, answer c.number_of.result (search rules))

pub decimal-c-requires : goal.decimal-c-requires
decimal-c-requires c = omega (arith, answer c.number_of.result (search rules), natural c.args.running (omega arith))

pub put-d-requires : goal.put-d-requires
put-d-requires c = omega (arith, answer c.number_of.result (search rules), natural c.args.running (omega arith))

pub decimal-e-requires : goal.decimal-e-requires
decimal-e-requires c = omega (arith, answer c.number_of.result (search rules), natural c.args.running (omega arith), natural c.args.clock (omega arith))

pub put-requires : goal.put-requires
put-requires c = omega (arith, answer c.number_of.result (search rules), natural c.args.running (omega arith), natural c.args.clock (omega arith))

pub returns-clause-upper_bound : goal.returns-clause-upper_bound
returns-clause-upper_bound c = omega (arith, answer c.number_of.result (search rules), natural c.args.running (omega arith), natural c.args.clock (omega arith))

-- Field by field, each from its place behind the record's. Assumes nothing.
use Rattle.std.proofs.Common.{◌≡◌, ◌+◌, to_z, of_z, w64, arith, rules}
use lib.Seq.{drop-drop}
use Rattle.big_endian.proofs.Bytes.{part_fits, one_byte}
use Rattle.tape.specs.Reader.{record_of}
use Rattle.tape.proofs.record_at.Goals as goal

pub overflow_cast-result : goal.overflow_cast-result
overflow_cast-result c = omega (arith, c.value-4.ensures, part_fits c.args.block.now (λ j. (c.type_inv.block j).fits) (c.args.at + 14) 2 (omega arith))

pub returns : goal.returns
unfolding record_of
returns c =
    let k = c.args in
    let b = k.block.now in
    let answer : to_z w64 (of_z w64 c.signed.result) ≡ c.signed.result = search rules in
    rw (
      answer,
      c.signed.ensures,
      c.value-4.ensures,
      c.value-3.ensures,
      c.value-2.ensures,
      c.value.ensures,
      ← one_byte b k.at (omega arith),
      ← one_byte b (k.at + 13) (omega arith),
      drop-drop 1 k.at b,
      drop-drop 5 k.at b,
      drop-drop 9 k.at b,
      drop-drop 13 k.at b,
      drop-drop 14 k.at b,
    )

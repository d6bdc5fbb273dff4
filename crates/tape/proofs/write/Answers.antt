-- Field by field, each behind the one before it. Assumes nothing.
use Rattle.std.proofs.Common.{◌≡◌, ◌≤◌, length, ap, ◌∙◌, append_assoc, to_z, of_z, w64, arith, rules}
use Rattle.tape.specs.Block.{complement, record_bytes}
use Rattle.tape.proofs.Filled.{number, and_number}
use Rattle.tape.proofs.write.Goals as goal

pub returns : goal.returns
unfolding record_bytes
returns c =
    let fits : c.args.at ≤ length c.args.block.now = omega (arith, c.requires) in
    let r = c.args.r in
    let bits : to_z w64 (of_z w64 r.answer) ≡ r.answer = search rules in
    let answer : c.complement.result ≡ complement r.answer = c.complement.ensures ∙ ap complement bits in
    let f1 = number 1 r.verb c.write.ensures in
    let f2 = and_number fits f1 4 r.first c.write-2.ensures in
    let f3 = and_number fits f2 4 r.second c.write-3.ensures in
    let f4 = and_number fits f3 4 c.complement.result c.write-4.ensures in
    let f5 = and_number fits f4 1 r.running c.write-5.ensures in
    let f6 = and_number fits f5 2 r.clock c.write-6.ensures in
    f6.is ∙ simp append_assoc (cc answer)

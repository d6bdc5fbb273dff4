-- Record by record: the run of those that are left is the run of all. Assumes nothing.
use Rattle.std.proofs.Common.{◌≡◌, ◌∙◌, ap, sym, drop, of_z, w64, arith, rules}
use Rattle.verbs.specs.Verbs.{verb_of}
use Rattle.tape.specs.Block.{record_at}
use Rattle.tape.specs.Reader.{record_of}
use Rattle.records.proofs.Made.{made}
use Rattle.replayer.proofs.Same.{one_by_bits}
use Rattle.replayer.proofs.Runs.{none_passed, all_passed, answer_differs, answer_same, its_record}
use Rattle.replayer.proofs.run.Goals as goal

pub loop-i-init : goal.loop-i-init
loop-i-init c = (c.requires.sound, none_passed c.args.block.now c.args.count c.args.w.now c.args.at)

pub returns-then-number_of-r-clause-sound : goal.returns-then-number_of-r-clause-sound
returns-then-number_of-r-clause-sound c = (made (verb_of c.asked.result) c.make_known-answer.ensures c.loop-i.invariant.0).sound

pub returns-then-number_of-r-clause-result_after : goal.returns-then-number_of-r-clause-result_after
returns-then-number_of-r-clause-result_after c =
    let is_read : c.nth-r.result ≡ record_of (drop (record_at c.loop-i.i) c.args.block.now) = c.nth-r.ensures ∙ its_record c.args.block.now c.loop-i.i (omega arith) (omega arith) in
    let call = rw c.asked.ensures at (made (verb_of c.asked.result) c.make_known-answer.ensures c.loop-i.invariant.0) in
    let other : c.nth-r.result.answer ≡ c.number_of.result → ⊥ = λ e. c.if-number_of-r.true (ap (of_z w64) (sym e)) in
    sym (c.loop-i.invariant.1 ∙ answer_differs _ _ _ _ _ c.loop-i-test.true is_read call (rw c.number_of.ensures at other))

pub loop-i-preserved : goal.loop-i-preserved
loop-i-preserved c =
    let is_read : c.nth-r.result ≡ record_of (drop (record_at c.loop-i.i) c.args.block.now) = c.nth-r.ensures ∙ its_record c.args.block.now c.loop-i.i (omega arith) (omega arith) in
    let call = rw c.asked.ensures at (made (verb_of c.asked.result) c.make_known-answer.ensures c.loop-i.invariant.0) in
    let one : c.nth-r.result.answer ≡ c.number_of.result = one_by_bits (search rules) (search rules) c.if-number_of-r.false in
    (call.sound, rw c.next_index-index.ensures (c.loop-i.invariant.1 ∙ answer_same _ _ _ _ _ c.loop-i-test.true is_read call (one ∙ c.number_of.ensures)))

pub returns-clause-result_after : goal.returns-clause-result_after
returns-clause-result_after c = rw c.next.ensures (sym (c.loop-i.invariant.1 ∙ all_passed _ _ _ _ _ c.loop-i.w c.loop-i-test.false))

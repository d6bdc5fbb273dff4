-- The call that a line asks for is made and recorded. Assumes nothing.
use Rattle.std.proofs.Common.{sym, ◌∙◌}
use Rattle.kernel.specs.Answer.{said}
use Rattle.verbs.specs.Verbs.{verb_of}
use Rattle.records.specs.Records.{recorded}
use Rattle.records.proofs.Made.{made, record_made}
use Rattle.recorder.proofs.Keeping.{still_ready, call_taken, no_call_taken}
use Rattle.recorder.proofs.line.Goals as goal

pub returns-in-None-clause-taken : goal.returns-in-None-clause-taken
returns-in-None-clause-taken c =
    no_call_taken c.args.line.now (record { words = c.args.w.now; block = c.args.block.now; at = c.args.at }) c.args.paper.now c.args.printed (sym c.in-None.ensures)

pub returns-in-Some-clause-ready : goal.returns-in-Some-clause-ready
returns-in-Some-clause-ready c =
    let ready = c.requires.ready in
    let it_made = made _ c.make_known-answer.ensures ready.sound in
    still_ready _ _ _ _ ready.size ready.room it_made.sound c.keep.ensures

pub returns-in-Some-clause-taken : goal.returns-in-Some-clause-taken
returns-in-Some-clause-taken c =
    let ready = c.requires.ready in
    let it_made = made _ c.make_known-answer.ensures ready.sound in
    let is =
    c.recorded-r.ensures
    ∙ (λ j. recorded (verb_of c.in-Some.asked) (said c.make_known-answer.result).number (c.running.ensures j) (c.clock.ensures j))
    ∙ record_made it_made in
    call_taken _ _ _ _ ready.size ready.room _ _ _ _ (sym c.in-Some.ensures) it_made is c.keep.ensures

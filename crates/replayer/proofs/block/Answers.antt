-- A replay that has ended stays; a block that is refused or out of turn ends it, and any other is run. Assumes nothing.
use Rattle.std.proofs.Common.{◌≡◌, true, sym, ◌∙◌, List, ℕ, arith}
use borrow.Author.Tests.{eq-eqb, ne_eqb}
use Rattle.tape.specs.Reader.{records, reading}
use Rattle.tape.proofs.Named.{passes}
use Rattle.replayer.specs.Replay.{in_turn, going, Replaying, run, turn, replaying}
use Rattle.replayer.proofs.block.Goals as goal

pub returns-then-not-goes_on-clause-result_after : goal.returns-then-not-goes_on-clause-result_after
unfolding turn
returns-then-not-goes_on-clause-result_after c = rw (← c.goes_on.ensures, c.if-not-goes_on.true)

pub returns-then-accepted-at-clause-result_after : goal.returns-then-accepted-at-clause-result_after
unfolding turn
returns-then-accepted-at-clause-result_after c =
    rw (← c.goes_on.ensures, c.if-not-goes_on.false, ← c.in-Ok.ensures, ne_eqb c.in-Ok.accepted.number c.args.at.number c.if-accepted-at.true, c.stopped-then-accepted-at.ensures)

pub run-requires-clause-whole_block : goal.run-requires-clause-whole_block
run-requires-clause-whole_block c = let p = passes _ _ _ (sym c.in-Ok.ensures) in omega arith

pub run-requires-clause-count_most : goal.run-requires-clause-count_most
run-requires-clause-count_most c = let p = passes _ _ _ (sym c.in-Ok.ensures) in omega arith

pub returns-in-Err-clause-result_after : goal.returns-in-Err-clause-result_after
unfolding turn
returns-in-Err-clause-result_after c = rw (← c.goes_on.ensures, c.if-not-goes_on.false, ← c.in-Err.ensures, c.stopped.ensures)

in_turn_runs : (b : List ℕ) (s : Replaying) → going s.at.course ≡ true → in_turn s.at.number (reading b) ≡ true → run (records b) s ≡ (turn b s).state
unfolding turn
in_turn_runs b s g t = rw (g, t)

pub returns-else-accepted-at-clause-result_after : goal.returns-else-accepted-at-clause-result_after
returns-else-accepted-at-clause-result_after c =
    let p = passes _ _ _ (sym c.in-Ok.ensures) in
    let its_turn : in_turn c.args.at.number (reading c.args.block.now) ≡ true = rw (← c.in-Ok.ensures) (eq-eqb c.in-Ok.accepted.number c.args.at.number c.if-accepted-at.false) in
    rw (← p.its_count) at c.run.ensures.result_after ∙ in_turn_runs c.args.block.now (replaying c.args.w.now c.args.at) (sym c.goes_on.ensures ∙ c.if-not-goes_on.false) its_turn

-- The records are tested at their places. Assumes nothing.
use Rattle.std.proofs.Common.{refl, ◌∙◌, drop, arith, rules, tests}
use Rattle.std.proofs.lemmas.Iterator.{YieldsList-from_range}
use Rattle.std.proofs.lemmas.Iterator.Search.{all_from_yields_List}
use Rattle.tape.specs.Block.{record_at}
use Rattle.tape.specs.Reader.{record_of, spare}
use Rattle.tape.proofs.Loops.{at_places}
use Rattle.tape.proofs.all_spare.Goals as goal

pub returns : goal.returns
returns c =
    all_from_yields_List (λ i. spare (record_of (drop (record_at i) c.args.block.now))) _ _ c.all.result c.all.ensures.ran (YieldsList-from_range 0 c.args.count c.args.count refl (omega arith))
    (λ x b q k. search (rules, tests))
    ∙ at_places spare c.args.block.now c.args.count 0

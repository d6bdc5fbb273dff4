-- The read's answer, and what is made of it. Assumes nothing.
use Rattle.std.proofs.Common.{◌≡◌, to_z, of_z, w64, rules}
use Rattle.console.proofs.Exchanges.{answered}
use Rattle.console.proofs.exchange.Goals as goal

pub returns-clause-exchange : goal.returns-clause-exchange
returns-clause-exchange c =
    let bits : to_z w64 (of_z w64 c.read-got.result) ≡ c.read-got.result = search rules in
    let n = rw bits at c.count-came.ensures.value in
    (answered c.read-got.result c.respond-r.ensures.ready (rw n at c.respond-r.ensures.responds) (rw n at c.onward.ensures)).1

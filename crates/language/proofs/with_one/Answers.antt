-- The verbs that a number follows: one of them, or none. Assumes nothing.
use Rattle.std.proofs.Common.{rules}
use Rattle.kernel.specs.Channels.{same_bytes}
use Rattle.language.specs.Meaning.{sought}
use Rattle.language.proofs.Words.{sought_found}
use Rattle.language.proofs.with_one.Goals as goal

pub returns : goal.returns
unfolding sought same_bytes
returns c = search (rules, sought_found)

-- The verbs that stand alone: one of them, or none. Assumes nothing.
use Rattle.std.proofs.Common.{rules}
use Rattle.kernel.specs.Channels.{same_bytes}
use Rattle.language.specs.Meaning.{sought}
use Rattle.language.proofs.Words.{sought_found}
use Rattle.language.proofs.alone.Goals as goal

pub returns : goal.returns
unfolding sought same_bytes
returns c = search (rules, sought_found)

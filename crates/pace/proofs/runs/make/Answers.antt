-- A call leaves sound words, behind the test or not. Assumes nothing.
use Rattle.kernel.specs.Calls.{verb}
use Rattle.verbs.specs.Verbs.{verb_of}
use Rattle.laws_promises.proofs.Answers.{unlent_sound, unlent_known_sound}
use Rattle.pace.proofs.runs.make.Goals as goal

pub returns-then-tested : goal.returns-then-tested
returns-then-tested c = unlent_sound c.make.ensures c.requires

pub returns : goal.returns
returns c = unlent_known_sound (verb (verb_of c.args.asked)) c.make_known.ensures c.requires

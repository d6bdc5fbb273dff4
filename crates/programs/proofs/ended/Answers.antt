-- A line that is too long has the turn of an empty one. Assumes nothing.
use Rattle.programs.proofs.Turns.{no_longer}
use Rattle.programs.proofs.ended.Goals as goal

pub returns-else-n-le-LONGEST : goal.returns-else-n-le-LONGEST
returns-else-n-le-LONGEST c = record { turned = _; turn = c.turn-else-n-le-LONGEST.ensures; same = λ piece h s. let l = h.long c.if-n-le-LONGEST.false in no_longer c.args.p piece l.0 l.1 s }

-- The rows of create NRT, and then its work. Assumes nothing.
use Rattle.kernel.specs.Calls.{effect}
use Rattle.creation.proofs.Creatable.{creates}
use Rattle.creation.proofs.create_nrt_known.Goals as goal

pub returns-in_err-may_create_nrt : goal.returns-in_err-may_create_nrt
unfolding effect
returns-in_err-may_create_nrt c = search (creates, c.in_err-may_create_nrt.was, c.from_residual.ensures)

pub created-requires : goal.created-requires
created-requires c = search (creates, c.in_ok-may_create_nrt.was)

pub done_with-requires : goal.done_with-requires
done_with-requires c = search (creates, c.in_ok-may_create_nrt.was)

pub overflow_cast-class : goal.overflow_cast-class
overflow_cast-class c = search (creates, c.in_ok-may_create_nrt.was)

pub returns : goal.returns
unfolding effect
returns c = search (creates, c.in_ok-may_create_nrt.was)

-- The word of the running task's session is written. Assumes nothing.
use Rattle.std.proofs.Common.{◌≡◌, ap, subst, arith, ℕ, ◌<◌}
use Rattle.kernel.specs.declared.Session.TheVariants.{Write}
use Rattle.kernel.specs.Sizes.{most_buffers}
use Rattle.kernel.specs.Kernel.{slot_number}
use Rattle.kernel.specs.Layout.{word, running_at}
use Rattle.kernel.specs.Channels.{buffer}
use Rattle.words.proofs.Entries.{session_set}
use Rattle.buffers.proofs.with_own.Goals as goal

pub returns : goal.returns
returns c =
    let k = c.args in
    let written : (b : ℕ) → k.z ≡ Write b → b < most_buffers = λ b e. subst (λ (n : ℕ). n < most_buffers) (ap buffer e) c.requires.is_buffer in
    rw (c.set_session.ensures, c.running-t.ensures)
    (session_set (slot_number k.c (word k.w.now running_at)) k.z (omega (arith, c.requires.is_channel, c.requires.runs_task)) written c.requires.kept)

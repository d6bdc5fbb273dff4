-- A piece answers as the table and the model say. Assumes nothing.
use Rattle.std.proofs.Common.{ℕ, List, refl, arith}
use mir.Syntax.{w64}
use borrow.Author.Rules.{Fits-under}
use Rattle.kernel.specs.Channels.{own, written}
use Rattle.kernel.specs.Calls as Calls
use Rattle.kernel.specs.Calls.{effect, on_channel}
use Rattle.kernel.specs.Seen.{seen}
use Rattle.kernel.specs.Sound.{Sound}
use Rattle.kernel.proofs.Allowed.{Allowed}
use Rattle.kernel.proofs.Messages.{write_open}
use Rattle.kernel.proofs.Shows.{kept, itself}
use Rattle.refusals.proofs.Answers.{lets_pass, lent_refused, lent_took_effect}
use Rattle.channels.specs.Session.{Holds}
use Rattle.channels.proofs.Holds.{holds, held_inside}
use Rattle.writing.proofs.piece_known.Goals as goal

-- Where the rows let a piece pass, the running task holds a buffer of the channel.
holding : (w m bytes : List ℕ) (c offset : ℕ) → Sound w → Allowed (on_channel (Calls.piece c offset bytes)) (seen w) m → Holds w c
holding w m bytes c offset sound may = holds sound may.1 (write_open (own (seen w) c) may.2)

pub held-place-requires : goal.held-place-requires
unfolding effect written
held-place-requires c =
    let k = c.args in
    let a = lets_pass (c.may_write.ensures k.bytes.now refl k.memory.now refl) c.in_ok-may_write.was in
    holding k.w.now k.memory.now k.bytes.now k.c k.offset c.requires a

pub overflow_add-place : goal.overflow_add-place
unfolding effect written
overflow_add-place c =
    let k = c.args in
    let a = lets_pass (c.may_write.ensures k.bytes.now refl k.memory.now refl) c.in_ok-may_write.was in
    Fits-under w64 _ 18446744073709551616 (rw c.held-place.ensures (omega (arith, a.3, held_inside (holding k.w.now k.memory.now k.bytes.now k.c k.offset c.requires a)))) tt

pub write-requires : goal.write-requires
unfolding effect written
write-requires c =
    let k = c.args in
    let a = lets_pass (c.may_write.ensures k.bytes.now refl k.memory.now refl) c.in_ok-may_write.was in
    rw c.held-place.ensures (omega (arith, a.0, a.3, held_inside (holding k.w.now k.memory.now k.bytes.now k.c k.offset c.requires a)))

pub returns-in_err-may_write : goal.returns-in_err-may_write
unfolding effect written
returns-in_err-may_write c = lent_refused (c.may_write.ensures c.args.bytes.now refl) c.in_err-may_write.was c.from_residual.ensures refl

pub returns : goal.returns
unfolding effect written
returns c = rw (c.write.ensures, c.held-place.ensures) (lent_took_effect (c.may_write.ensures c.args.bytes.now refl) c.in_ok-may_write.was (itself (kept c.requires)) refl)

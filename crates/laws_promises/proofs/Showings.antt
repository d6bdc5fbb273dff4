-- What a showing and the screen call hand back. Assumes nothing.
use mathlib.Core.Path.{◌≡◌, sym, ◌∙◌}
use mathlib.Core.Option.{Option, none, some}
use Prim.Native.Nat.{ℕ}
use lib.IntN.{ℤ}
use Rattle.kernel.specs.declared.State.{State}
use Rattle.kernel.specs.Answer.{success, refused, said}
use Rattle.kernel.specs.Kernel.{channel}
use Rattle.kernel.specs.Channels.{buffer_start, buffer, own}
use Rattle.kernel.specs.Calls.{showing, screen, Call, on_channel, effect}
use Rattle.kernel.specs.Seen.{seen}
use Rattle.kernel.specs.Slices.{Slice, part_of}
use Rattle.kernel.specs.Promise.{handed_back, Loan, Given, Answered}
use Rattle.kernel.proofs.Said.{done_refused}
use Rattle.laws_promises.proofs.Answers.{By, says, by}

module _ {c : Call} {s : State} {l : Loan} {g : Given} (a : Answered c s l g) where
  gave : {v : ℤ} → said g.reply.answer ≡ success v → g.shown ≡ handed_back (effect c (seen s.words) l.memory.bytes).shown l
  gave {v} e = go (says c s l a.sound) (by a a.sound a.decided)
    where
      go : (o : Option ℤ) → By c s l g a.sound o → g.shown ≡ handed_back (effect c (seen s.words) l.memory.bytes).shown l
      go none h = h.shown
      go (some x) h = absurd (done_refused (sym e ∙ h.answer))

  gave_instead : {x : ℤ} → said g.reply.answer ≡ refused x → g.shown ≡ handed_back (effect c (seen s.words) l.memory.bytes).instead l
  gave_instead {x} e = go (says c s l a.sound) (by a a.sound a.decided)
    where
      go : (o : Option ℤ) → By c s l g a.sound o → g.shown ≡ handed_back (effect c (seen s.words) l.memory.bytes).instead l
      go none h = absurd (done_refused (sym h.answer ∙ e))
      go (some y) h = h.shown

-- The message of the buffer that the running task's session on channel c holds, as a part of the lent memory.
abbrev pub held_message : State → ℕ → Loan → Slice
held_message s c l = part_of l.memory (buffer_start c (buffer (own (seen s.words) c))) (channel (seen s.words) c).size

-- **message_shown**: accepted, both hand back that message, in its place; **empty_shown**: refused, a showing hands back the empty part at
-- the start of the memory; **standby_shown**: and the screen call the stand-by text itself.
module _ {n : ℕ} {s : State} {l : Loan} {g : Given} where
  pub message_shown : Answered (on_channel (showing n)) s l g → {v : ℤ} → said g.reply.answer ≡ success v → g.shown ≡ some (held_message s n l)
  unfolding effect
  message_shown a e = gave a e

  pub empty_shown : Answered (on_channel (showing n)) s l g → {x : ℤ} → said g.reply.answer ≡ refused x → g.shown ≡ some (part_of l.memory 0 0)
  unfolding effect
  empty_shown a e = gave_instead a e

  pub screen_shown : Answered (on_channel (screen n l.standby.bytes)) s l g → {v : ℤ} → said g.reply.answer ≡ success v → g.shown ≡ some (held_message s n l)
  unfolding effect
  screen_shown a e = gave a e

  pub standby_shown : Answered (on_channel (screen n l.standby.bytes)) s l g → {x : ℤ} → said g.reply.answer ≡ refused x → g.shown ≡ some l.standby
  unfolding effect
  standby_shown a e = gave_instead a e

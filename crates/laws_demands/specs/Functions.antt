-- The public functions, each by its own contract as it stands in its crate. Assumes nothing.
use Rattle.std.specs.Prelude.{◌≡◌, List, ℕ}
use Rattle.std.proofs.Math.Option.{Option, none, some}
use Rattle.std.specs.Borrow.{Bor, MutBor}
use contract.Lifetimes.{Lfts}
use Rattle.kernel.specs.declared.State.{State}
use Rattle.kernel.specs.declared.Reply.{Reply}
use Rattle.kernel.specs.declared.TaskNo.{TaskNo}
use Rattle.kernel.specs.declared.SemaphoreNo.{SemaphoreNo}
use Rattle.kernel.specs.declared.ChannelNo.{ChannelNo}
use Rattle.kernel.specs.Calls as Calls
use Rattle.kernel.specs.Calls.{Call, verb, question, on_channel}
use Rattle.kernel.specs.Promise.{reply}
use Rattle.reading.specs.declared.HandedBack.{HandedBack}
use Rattle.ticks.proofs.tick.Reads.{Post as Tick}
use Rattle.creation.proofs.create_hard.Reads.{Post as CreateHard}
use Rattle.creation.proofs.create_nrt.Reads.{Post as CreateNrt}
use Rattle.tasks.proofs.activate.Reads.{Post as Activate}
use Rattle.tasks.proofs.sleep.Reads.{Post as Sleep}
use Rattle.tasks.proofs.cycle.Reads.{Post as Cycle}
use Rattle.endings.proofs.end.Reads.{Post as End}
use Rattle.endings.proofs.kill.Reads.{Post as Kill}
use Rattle.semaphores.proofs.new_semaphore.Reads.{Post as NewSemaphore}
use Rattle.semaphores.proofs.delete.Reads.{Post as Delete}
use Rattle.semaphores.proofs.wait.Reads.{Post as Wait}
use Rattle.semaphores.proofs.signal.Reads.{Post as Signal}
use Rattle.questions.proofs.clock.Reads.{Post as Clock}
use Rattle.questions.proofs.status.Reads.{Post as Status}
use Rattle.questions.proofs.deadline.Reads.{Post as Deadline}
use Rattle.questions.proofs.period.Reads.{Post as Period}
use Rattle.questions.proofs.slack.Reads.{Post as Slack}
use Rattle.channels.proofs.open_channel.Reads.{Post as OpenChannel}
use Rattle.writing.proofs.begin_write.Reads.{Post as BeginWrite}
use Rattle.writing.proofs.piece.Reads.{Post as Piece}
use Rattle.writing.proofs.put.Reads.{Post as Put}
use Rattle.reading.proofs.begin_reading.Reads.{Post as BeginReading}
use Rattle.reading.proofs.showing.Reads.{Post as Showing}
use Rattle.reading.proofs.close.Reads.{Post as Close}
use Rattle.reading.proofs.screen.Reads.{Post as Screen}

-- The function of this call, handed the state s and the message memory, which holds the bytes m, gave the reply r and handed back these
-- bytes, if any; the memory is left with these. What its contract says of its parameters, its result and its references holds of them.
pub data Made (s : State) (m : List ℕ) (r : Reply) : Call → (left : List ℕ) → (shown : Option (List ℕ)) → Type 0 where
  tick : Tick tt (s, tt) r (s, tt) → Made s m r (verb Calls.tick) m none
  create_hard : (p c : ℕ) → CreateHard tt (s, (p, (c, tt))) r (s, (p, (c, tt))) → Made s m r (verb (Calls.create_hard p c)) m none
  create_nrt : (p : ℕ) → CreateNrt tt (s, (p, tt)) r (s, (p, tt)) → Made s m r (verb (Calls.create_nrt p)) m none
  activate : (n : TaskNo) → Activate tt (s, (n, tt)) r (s, (n, tt)) → Made s m r (verb (Calls.activate n.0)) m none
  sleep : Sleep tt (s, tt) r (s, tt) → Made s m r (verb Calls.sleep) m none
  cycle : Cycle tt (s, tt) r (s, tt) → Made s m r (verb Calls.cycle) m none
  end : End tt (s, tt) r (s, tt) → Made s m r (verb Calls.end) m none
  kill : (n : TaskNo) → Kill tt (s, (n, tt)) r (s, (n, tt)) → Made s m r (verb (Calls.kill n.0)) m none
  new_semaphore : (count : ℕ) → NewSemaphore tt (s, (count, tt)) r (s, (count, tt)) → Made s m r (verb (Calls.new_semaphore count)) m none
  delete : (n : SemaphoreNo) → Delete tt (s, (n, tt)) r (s, (n, tt)) → Made s m r (verb (Calls.delete n.0)) m none
  wait : (n : SemaphoreNo) → Wait tt (s, (n, tt)) r (s, (n, tt)) → Made s m r (verb (Calls.wait n.0)) m none
  signal : (n : SemaphoreNo) → Signal tt (s, (n, tt)) r (s, (n, tt)) → Made s m r (verb (Calls.signal n.0)) m none
  clock : Clock tt (s, tt) r (s, tt) → Made s m r (question Calls.clock) m none
  status : (n : TaskNo) → Status tt (s, (n, tt)) r (s, (n, tt)) → Made s m r (question (Calls.status n.0)) m none
  deadline : (n : TaskNo) → Deadline tt (s, (n, tt)) r (s, (n, tt)) → Made s m r (question (Calls.deadline n.0)) m none
  period : (n : TaskNo) → Period tt (s, (n, tt)) r (s, (n, tt)) → Made s m r (question (Calls.period n.0)) m none
  slack : (n : TaskNo) → Slack tt (s, (n, tt)) r (s, (n, tt)) → Made s m r (question (Calls.slack n.0)) m none
  open_channel : (size buffers : ℕ) → OpenChannel tt (s, (size, (buffers, tt))) r (s, (size, (buffers, tt))) → Made s m r (on_channel (Calls.open_channel size buffers)) m none
  begin_write : (κ : Lfts 1) (n : ChannelNo) (memory left : MutBor (List ℕ)) → memory.now ≡ m → BeginWrite κ (s, (n, (memory, tt))) r (s, (n, (left, tt)))
      → Made s m r (on_channel (Calls.begin_write n.0)) left.now none
  piece : (κ : Lfts 2) (n : ChannelNo) (offset : ℕ) (bytes : Bor (List ℕ)) (memory left : MutBor (List ℕ)) → memory.now ≡ m
      → Piece κ (s, (n, (offset, (bytes, (memory, tt))))) r (s, (n, (offset, (bytes, (left, tt))))) → Made s m r (on_channel (Calls.piece n.0 offset bytes.now)) left.now none
  put : (κ : Lfts 1) (n : ChannelNo) (memory : Bor (List ℕ)) → memory.now ≡ m → Put κ (s, (n, (memory, tt))) r (s, (n, (memory, tt)))
      → Made s m r (on_channel (Calls.put n.0)) m none
  begin_reading : (κ : Lfts 1) (n : ChannelNo) (memory : Bor (List ℕ)) → memory.now ≡ m → BeginReading κ (s, (n, (memory, tt))) r (s, (n, (memory, tt)))
      → Made s m r (on_channel (Calls.begin_reading n.0)) m none
  close : (κ : Lfts 1) (n : ChannelNo) (memory : Bor (List ℕ)) → memory.now ≡ m → Close κ (s, (n, (memory, tt))) r (s, (n, (memory, tt)))
      → Made s m r (on_channel (Calls.close n.0)) m none
  -- These two hand back a slice, and beside it the answer; the state stays.
  showing : (κ : Lfts 1) (n : ChannelNo) (memory : Bor (List ℕ)) (back : HandedBack) → memory.now ≡ m → Showing κ (s, (n, (memory, tt))) back (s, (n, (memory, tt)))
      → r ≡ reply s.words back.answer → Made s m r (on_channel (Calls.showing n.0)) m (some back.slice.now)
  screen : (κ : Lfts 1) (n : ChannelNo) (memory standby : Bor (List ℕ)) (back : HandedBack) → memory.now ≡ m
      → Screen κ (s, (n, (memory, (standby, tt)))) back (s, (n, (memory, (standby, tt))))
      → r ≡ reply s.words back.answer → Made s m r (on_channel (Calls.screen n.0 standby.now)) m (some back.slice.now)

-- Every byte outside what a call writes is what it was. Assumes nothing.
use mathlib.Core.Path.{◌≡◌, refl, sym, subst}
use mathlib.Core.List.{List}
use mathlib.Core.Logic.{inl, inr}
use mathlib.Core.Option.{Option, none, some}
use Prim.Native.Nat.{ℕ, ◌+◌, ◌≤◌}
use native.Mathlib.Omega.{arith}
use lib.IntN.{ℤ}
use lib.ListN.{length, get_or, replicate, length-replicate}
use Rattle.kernel.specs.declared.State.{State}
use Rattle.kernel.specs.Kernel.{Kernel, channel}
use Rattle.kernel.specs.Channels.{buffer_start, buffer, own, over, lowest_buffer, cleared, written}
use Rattle.kernel.specs.Calls.{OnChannel, open_channel, begin_write, piece, put, begin_reading, showing, close, screen, Call, verb, question, on_channel, channel_effect, effect}
use Rattle.kernel.specs.Seen.{seen}
use Rattle.kernel.specs.Good.{Good}
use Rattle.kernel.specs.Promise.{handed, Loan, Given, Answered}
use Rattle.kernel.proofs.Allowed.{ChannelAllowed, Allowed, allowed}
use Rattle.kernel.proofs.Messages.{write_open, inside, taken, named}
use Rattle.kernel.proofs.Over.{over_length, over_before, over_behind}
use Rattle.laws_promises.specs.Memory.{Range, written_on, written_by, Outside, SameOutside}
use Rattle.laws_promises.proofs.Answers.{says, By, by}

same : {r : Range} {m : List ℕ} → SameOutside r m m
same = record { length_is = refl; byte_is = λ x o. refl }

bytes_over : (m : List ℕ) (a : ℕ) (bs : List ℕ) → a + length bs ≤ length m → SameOutside (record { from = a; size = length bs }) m (over m a bs)
bytes_over m a bs fits = record { length_is = over_length m a bs fits; byte_is = go }
  where
    go : (x : ℕ) → Outside (record { from = a; size = length bs }) x → get_or (over m a bs) x 0 ≡ get_or m x 0
    go x (inl l) = over_before m a bs fits x l
    go x (inr l) = over_behind m a bs fits x l

-- Begin write, and a piece.
module _ (k : Kernel) (m : List ℕ) (g : Good k) (c : ℕ) where
  clears : ChannelAllowed (begin_write c) k m → SameOutside (written_on (begin_write c) k) m (cleared c k m)
  unfolding cleared
  clears a =
      let b = lowest_buffer k c in
      let zeros : List ℕ = replicate (channel k c).size 0 in
      let long : length zeros ≡ (channel k c).size = length-replicate (channel k c).size 0 in
      subst (λ (n : ℕ). SameOutside (record { from = buffer_start c b; size = n }) m (over m (buffer_start c b) zeros)) long
      (bytes_over m (buffer_start c b) zeros (omega (arith, a.0, inside g c a.1 b (taken g c a.1 a.3))))

  writes : (x : ℕ) (bs : List ℕ) → ChannelAllowed (piece c x bs) k m → SameOutside (written_on (piece c x bs) k) m (written c x bs k m)
  unfolding written
  writes x bs a =
      let b = buffer (own k c) in
      bytes_over m (buffer_start c b + x) bs (omega (arith, a.0, a.3, inside g c a.1 b (named g c a.1 (write_open (own k c) a.2))))

-- **wrote**: what a legal call writes.
pub wrote : (c : Call) (k : Kernel) (m : List ℕ) → Good k → Allowed c k m → SameOutside (written_by c k) m (effect c k m).memory
unfolding effect
wrote (verb v) k m g a = same
wrote (question q) k m g a = same
wrote (on_channel c) k m g a = go c a
  where
    go : (c : OnChannel) → ChannelAllowed c k m → SameOutside (written_on c k) m (channel_effect c k m).memory
    go (open_channel n b) a = same
    go (begin_write c) a = clears k m g c a
    go (piece c x bs) a = writes k m g c x bs a
    go (put c) a = same
    go (begin_reading c) a = same
    go (showing c) a = same
    go (close c) a = same
    go (screen c text) a = same

-- **outside_kept**: every byte outside what the call writes is what it was, and so is the memory's length.
pub outside_kept : {c : Call} {s : State} {l : Loan} {g : Given} → Answered c s l g → SameOutside (written_by c (seen s.words)) l.memory.bytes g.memory
outside_kept {c} {s} {l} {g} a = go (says c s l a.sound) refl (by a a.sound a.decided)
  where
    go : (o : Option ℤ) → says c s l a.sound ≡ o → By c s l g a.sound o → SameOutside (written_by c (seen s.words)) l.memory.bytes g.memory
    go (some x) e h = subst (SameOutside (written_by c (seen s.words)) l.memory.bytes) (sym h.memory) same
    go none e h =
        let t = allowed (handed a.sound s.words l.memory.bytes) c e in
        subst (SameOutside (written_by c (seen s.words)) l.memory.bytes) (sym h.memory) (wrote c (seen s.words) l.memory.bytes (a.decided.0 t.sound).good t.allowed)

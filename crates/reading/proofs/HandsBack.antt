-- From the verdict and the slice handed back to the promise of a showing. Assumes nothing.
use mathlib.Core.Path.{◌≡◌, refl, ap, subst}
use mathlib.Core.List.{List}
use mathlib.Core.Option.{Option, some}
use Prim.Native.Nat.{ℕ, ◌+◌}
use native.Mathlib.Omega.{arith}
use lib.ListN.{length}
use lib.Seq.{take-length}
use Rattle.std.specs.Prelude.{Ok, Err}
use Rattle.kernel.specs.Answer.{Answer}
use Rattle.kernel.specs.Sizes.{memory_size}
use Rattle.kernel.specs.Channels.{own}
use Rattle.kernel.specs.Calls.{Call, Shown, Effect, effect, showed, showing, on_channel}
use Rattle.kernel.specs.Seen.{seen}
use Rattle.kernel.specs.Sound.{Sound}
use Rattle.kernel.specs.Slices.{Slice, part_of}
use Rattle.kernel.specs.Promise.{handed_back, Loan, reply, given, Known, ShowingKnown}
use Rattle.kernel.proofs.Allowed.{Allowed}
use Rattle.kernel.proofs.Messages.{reading_open}
use Rattle.kernel.proofs.Shows.{kept, itself}
use Rattle.refusals.specs.Tested.{Said, Judged}
use Rattle.refusals.proofs.Answers.{lets_pass, turned_down, carried_out}
use Rattle.channels.specs.Session.{Holds}
use Rattle.channels.proofs.Holds.{holds}
use Rattle.reading.specs.Message as Message
use Rattle.reading.specs.Message.{message, by_verdict, answering}

-- All bytes of a slice, in their place, are the slice.
pub all_of : (x : Slice) → part_of x 0 (length x.bytes) ≡ x
all_of x =
    let here : 0 + x.place.1 ≡ x.place.1 = omega arith in
    let same = take-length x.bytes in
    λ i. record { place = (x.place.0, here i); bytes = same i }

-- A call that shows the message on channel n, or hands back x instead.
module _ {c : Call} {w : List ℕ} (l : Loan) (n : ℕ) (other : Shown) (x : Slice) (is : effect c (seen w) l.memory.bytes ≡ showed n other (seen w) l.memory.bytes)
    (due : handed_back other l ≡ some x) (h : Sound w) where
  by_rows : (v : Said) → Judged c w l.memory.bytes v → ShowingKnown c w l.memory l.standby (answering v) (by_verdict v (message (seen w) n l.memory) x)
  by_rows (Ok u) j = carried_out l j refl is (itself (kept h))
  by_rows (Err r) j =
      subst (λ (z : Option Slice). Known c w l (given (reply w (Err r)) l.memory.bytes z)) due
      (turned_down l j refl (ap (λ (e : Effect). e.instead) is))

  pub shows : {a : Answer} {r : Slice} (s : Message.Shown w n l.memory x a r) → Judged c w l.memory.bytes s.verdict → ShowingKnown c w l.memory l.standby a r
  shows s j = rw (s.answer, s.slice) (by_rows s.verdict j)

-- Where the rows of a showing let pass, a session holds a buffer, and the memory has its size.
pub readable : {w m : List ℕ} {c : ℕ} {v : Said} → Sound w → Judged (on_channel (showing c)) w m v → v ≡ Ok tt → Holds w c × (length m ≡ memory_size)
readable {w = w} {c = c} h j e = let a : Allowed (on_channel (showing c)) (seen w) _ = lets_pass j e in (holds h a.1 (reading_open (own (seen w) c) a.2), a.0)

-- Each public function keeps the promise of its call. Assumes nothing.
use mathlib.Core.Path.{◌≡◌, refl, sym, subst}
use mathlib.Core.List.{List, []}
use mathlib.Core.Option.{Option, none, some}
use Prim.Native.Nat.{ℕ}
use denote.Ref.{Bor}
use Rattle.kernel.specs.declared.State.{State}
use Rattle.kernel.specs.declared.Reply.{Reply}
use Rattle.kernel.specs.Calls.{Call}
use Rattle.kernel.specs.Slices.{Slice, slice, slice_mut}
use Rattle.kernel.specs.Promise.{Loan, Answered, Unlent, Lent, Showing, reply}
use Rattle.reading.specs.declared.HandedBack.{HandedBack}
use Rattle.laws_runs.specs.Trace.{asks, instead}
use Rattle.laws_demands.specs.Functions.{Made, tick, create_hard, create_nrt, activate, sleep, cycle, end, kill, new_semaphore, delete, wait, signal, clock, status, deadline, period, slack, open_channel, begin_write, piece, put, begin_reading, showing, close, screen}

-- The bytes of a slice that may be handed back.
abbrev pub bytes : Option Slice → Option (List ℕ)
bytes none = none
bytes (some x) = some x.bytes

-- By the promise of its call, a call gave the reply r, left these bytes in the memory, which held the bytes m, and handed back a slice of
-- these bytes. What text it was lent stands in the call.
pub record Promised (s : State) (m : List ℕ) (r : Reply) (c : Call) (left : List ℕ) (shown : Option (List ℕ)) : Type 0 where
  pub loan : Loan
  pub given : Option Slice
  pub answered : Answered c s loan (record { reply = r; memory = left; shown = given })
  pub lent : loan.memory.bytes ≡ m
  pub text : loan.standby.bytes ≡ instead (asks c)
  pub shown_is : bytes given ≡ shown

-- Bytes that lie anywhere.
abbrev pub anywhere : List ℕ → Slice
anywhere bs = record { place = (0, 0); bytes = bs }

module _ {s : State} {m : List ℕ} {r : Reply} where
  -- A function that is lent nothing.
  unlent : {c : Call} → instead (asks c) ≡ [] → Unlent c s r → Promised s m r c m none
  unlent e p =
      let l : Loan = record { memory = anywhere m; standby = anywhere [] } in
      record { loan = l; given = none; answered = p l; lent = refl; text = sym e; shown_is = refl }

  -- One that is lent the memory.
  lent : {c : Call} (memory : Slice) (left : List ℕ) → instead (asks c) ≡ [] → memory.bytes ≡ m → Lent c s memory r left → Promised s m r c left none
  lent memory left e held p =
      record {
        loan = record { memory = memory; standby = anywhere [] };
        given = none;
        answered = p (anywhere []);
        lent = held;
        text = sym e;
        shown_is = refl;
      }

  -- One that only reads it.
  reads : {c : Call} (memory : Bor (List ℕ)) → instead (asks c) ≡ [] → memory.now ≡ m → Lent c s (slice memory) r memory.now → Promised s m r c m none
  reads {c} memory e held p = lent (slice memory) m e held (subst (Lent c s (slice memory) r) held p)

  -- One that hands back a slice, and its answer beside it.
  shows : {c : Call} (memory : Bor (List ℕ)) (back : HandedBack) (text : Slice) → text.bytes ≡ instead (asks c) → memory.now ≡ m → r ≡ reply s.words back.answer
      → Showing c s (slice memory) text back.answer (slice back.slice)
      → Promised s m r c m (some back.slice.now)
  shows {c} memory back text e held f p =
      let l : Loan = record { memory = slice memory; standby = text } in
      let g = some (slice back.slice) in
      let replied = subst (λ (x : Reply). Answered c s l (record { reply = x; memory = memory.now; shown = g })) (sym f) p in
      record {
        loan = l;
        given = g;
        answered = subst (λ (n : List ℕ). Answered c s l (record { reply = r; memory = n; shown = g })) held replied;
        lent = held;
        text = e;
        shown_is = refl;
      }

  pub promised : {c : Call} {left : List ℕ} {shown : Option (List ℕ)} → Made s m r c left shown → Promised s m r c left shown
  promised (tick p) = unlent refl p
  promised (create_hard a b p) = unlent refl p
  promised (create_nrt a p) = unlent refl p
  promised (activate n p) = unlent refl p
  promised (sleep p) = unlent refl p
  promised (cycle p) = unlent refl p
  promised (end p) = unlent refl p
  promised (kill n p) = unlent refl p
  promised (new_semaphore a p) = unlent refl p
  promised (delete n p) = unlent refl p
  promised (wait n p) = unlent refl p
  promised (signal n p) = unlent refl p
  promised (clock p) = unlent refl p
  promised (status n p) = unlent refl p
  promised (deadline n p) = unlent refl p
  promised (period n p) = unlent refl p
  promised (slack n p) = unlent refl p
  promised (open_channel a b p) = unlent refl p
  promised (begin_write κ n memory left e p) = lent (slice_mut memory) left.now refl e p
  promised (piece κ n a bs memory left e p) = lent (slice_mut memory) left.now refl e p
  promised (put κ n memory e p) = reads memory refl e p
  promised (begin_reading κ n memory e p) = reads memory refl e p
  promised (close κ n memory e p) = reads memory refl e p
  promised (showing κ n memory back e p f) = shows memory back (anywhere []) refl e f (p (anywhere []))
  promised (screen κ n memory standby back e p f) = shows memory back (slice standby) refl e f p

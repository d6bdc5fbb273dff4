-- Every call has an outcome by its function's contract. Assumes nothing.
use mathlib.Core.Path.{◌≡◌, refl, sym, subst, ◌∙◌}
use mathlib.Core.Bool.{Bool, true, false}
use mathlib.Core.Logic.{◌↔◌}
use mathlib.Core.List.{List, []}
use mathlib.Core.Option.{Option, none, some}
use Prim.Native.Nat.{ℕ}
use lib.IntN.{ℤ, pos}
use denote.Ref.{Bor, MutBor}
use Rattle.std.specs.Prelude.{Ok, Err}
use Rattle.kernel.specs.declared.State.{State}
use Rattle.kernel.specs.declared.Reply.{Reply}
use Rattle.kernel.specs.Calls as Calls
use Rattle.kernel.specs.Calls.{Call, verb, question, on_channel, Shown, part, standby, Effect, told, showed, done, with_memory, effect}
use Rattle.kernel.specs.Refusals.{Row, first, rows}
use Rattle.kernel.specs.Step.{Outcome, by_table, step}
use Rattle.kernel.specs.Seen.{seen}
use Rattle.kernel.specs.Sound.{Sound}
use Rattle.kernel.specs.Slices.{Slice, slice, part_of}
use Rattle.kernel.specs.Shows.{Shows}
use Rattle.kernel.specs.Promise.{handed, handed_back, Loan, Given, Gives, Answered, reply, Unlent, Lent, Showing}
use Rattle.kernel.proofs.Said.{refusal_of}
use Rattle.kernel.proofs.Shows.{kept, itself}
use Rattle.kernel.proofs.Decided.{yes as truly, no as untrue}
use Rattle.kernel.proofs.Allowed.{allowed}
use Rattle.laws_words.proofs.Shown.{words_of, shown}
use Rattle.laws_promises.proofs.Answers.{says, has_number, next_good}
use Rattle.laws_promises.proofs.Soundness.{sound?}
use Rattle.laws_promises.proofs.Showings.{held_message}
use Rattle.reading.specs.declared.HandedBack.{HandedBack}
use Rattle.laws_demands.specs.Functions.{Made, tick, create_hard, create_nrt, activate, sleep, cycle, end, kill, new_semaphore, delete, wait, signal, clock, status, deadline, period, slack, open_channel, begin_write, piece, put, begin_reading, showing, close, screen}
use Rattle.laws_demands.specs.Every.{GivenBy}
use Rattle.laws_demands.proofs.Functions.{anywhere}

-- A reference to this value, one through which the code may write it, and one to this slice.
abbrev to : {X : Type 0} → X → Bor X
to x = record { ref_ptr = (0, 0); now = x }

abbrev to_mut : {X : Type 0} → X → MutBor X
to_mut x = record { ref_ptr = (0, 0); ghost_name = 0; now = x }

abbrev to_slice : Slice → Bor (List ℕ)
to_slice x = record { ref_ptr = x.place; now = x.bytes }

module _ (s : State) (m : List ℕ) where
  abbrev w : List ℕ
  w = s.words

  -- The memory and this text are lent.
  abbrev with_text : Slice → Loan
  with_text text = record { memory = anywhere m; standby = text }

  -- What was made is given.
  given : {c : Call} {r : Reply} {left : List ℕ} {shown : Option (List ℕ)} → Made s m r c left shown → GivenBy s m c
  given {r = r} {left = left} {shown = shown} p = record { reply = r; left = left; shown = shown; made = p }

  -- What a call does here where nothing refuses it.
  abbrev does : Call → Effect
  does c = effect c (seen w) m

  -- Whether the state is sound, told truly.
  truth : (b : Bool) × ((b ≡ true) ↔ Sound w)
  truth = elim (sound? w) [ yes h ↦ (true, truly h) | no n ↦ (false, untrue n) ]

  abbrev sound : Bool
  sound = truth.0

  -- What the table says of a call.
  abbrev judged : Call → Option ℤ
  judged c = first (rows c (handed sound w m))

  -- Where it lets the call pass, the state is sound, and there are words that show the next kernel.
  passed : (c : Call) → judged c ≡ none → Sound w
  passed c e = truth.1.0 (allowed (handed sound w m) c e).sound

  next : (c : Call) → judged c ≡ none → Shows (words_of (does c).kernel) (does c).kernel
  next c e = shown (does c).kernel (next_good c s (with_text (anywhere [])) sound truth.1 e)

  module _ {c : Call} where
    -- Where it says o, and the call does e.
    answered : {l : Loan} {g : Given} {o : Option ℤ} {e : Effect} → says c s l sound ≡ o → effect c (seen w) l.memory.bytes ≡ e
        → Gives (by_table o e (handed sound w l.memory.bytes)) w l g → Answered c s l g
    unfolding step
    answered {l} {g} is does_is h =
        record { sound = sound; decided = truth.1; gives = subst (λ (x : Outcome). Gives x w l g) (sym (λ i. by_table (is i) (does_is i) (handed sound w l.memory.bytes))) h }

    -- A function that is lent nothing: neither the rows nor the effect of its call look at the memory.
    unlent : ◌≡◌ {A = List ℕ → List Row} (λ n. rows c (handed sound w m)) (λ n. rows c (handed sound w n))
        → ◌≡◌ {A = List ℕ → Effect} (effect c (seen w)) (told (does c).number (does c).kernel)
        → ((r : Reply) → Unlent c s r → Made s m r c m none)
        → GivenBy s m c
    unlent rows_are effect_is made = go (judged c) refl
      where
        everywhere : {o : Option ℤ} → judged c ≡ o → (l : Loan) → says c s l sound ≡ o
        everywhere e l = sym (λ i. first (rows_are i l.memory.bytes)) ∙ e

        go : (o : Option ℤ) → judged c ≡ o → GivenBy s m c
        go (some x) e =
            given (made (reply w (Err (refusal_of x))) (λ l. answered (everywhere e l) (λ i. effect_is i l.memory.bytes) (record { answer = has_number c (handed sound w m) e; state = refl; running = refl; memory = refl; shown = refl })))
        go none e =
            given (made (reply (words_of (does c).kernel) (Ok (does c).number))
            (λ l. answered (everywhere e l) (λ i. effect_is i l.memory.bytes) (record { answer = refl; state = next c e; running = refl; memory = refl; shown = refl })))

    -- One that is lent the memory, and leaves the bytes n in it where nothing refuses its call.
    lent : (n : List ℕ) → does c ≡ with_memory (done (does c).kernel) n → ((r : Reply) → Lent c s (anywhere m) r m → Made s m r c m none)
        → ((r : Reply) → Lent c s (anywhere m) r n → Made s m r c n none)
        → GivenBy s m c
    lent n is unwritten wrote = go (judged c) refl
      where
        go : (o : Option ℤ) → judged c ≡ o → GivenBy s m c
        go (some x) e = given (unwritten (reply w (Err (refusal_of x))) (λ text. answered e is (record { answer = has_number c (handed sound w m) e; state = refl; running = refl; memory = refl; shown = refl })))
        go none e =
            given (wrote (reply (words_of (does c).kernel) (Ok (pos 0))) (λ text. answered e is (record { answer = refl; state = next c e; running = refl; memory = refl; shown = refl })))

    -- One that only reads it, and one that writes into it.
    reads : does c ≡ with_memory (done (does c).kernel) m → ((r : Reply) → Lent c s (anywhere m) r m → Made s m r c m none) → GivenBy s m c
    reads is made = lent m is made made

    writes : does c ≡ with_memory (done (does c).kernel) (does c).memory → ((r : Reply) (n : List ℕ) → Lent c s (anywhere m) r n → Made s m r c n none) → GivenBy s m c
    writes is made = lent (does c).memory is (λ r. made r m) (λ r. made r (does c).memory)

    -- One that shows the message on channel n or, refused, the slice x.
    shows : (n : ℕ) (other : Shown) (x : Slice) → does c ≡ showed n other (seen w) m
        → ((back : HandedBack) → ((text : Slice) → handed_back other (with_text text) ≡ some x → Showing c s (anywhere m) text back.answer (slice back.slice))
        → Made s m (reply w back.answer) c m (some back.slice.now))
        → GivenBy s m c
    shows n other x is made = go (judged c) refl
      where
        go : (o : Option ℤ) → judged c ≡ o → GivenBy s m c
        go (some y) e =
            given (made (record { slice = to_slice x; answer = Err (refusal_of y) })
            (λ text due. answered e is (record { answer = has_number c (handed sound w m) e; state = refl; running = refl; memory = refl; shown = sym due })))
        go none e =
            given (made (record { slice = to_slice (held_message s n (with_text (anywhere []))); answer = Ok (pos 0) })
            (λ text due. answered e is (record { answer = refl; state = itself (kept (passed c e)); running = refl; memory = refl; shown = refl })))

  -- **every_call**: whatever the state, the call and the bytes of the memory, there is a reply that the function's contract permits.
  pub every_call : (c : Call) → GivenBy s m c
  unfolding effect
  every_call (verb Calls.tick) = unlent refl refl (λ r. tick)
  every_call (verb (Calls.create_hard p c)) = unlent refl refl (λ r. create_hard p c)
  every_call (verb (Calls.create_nrt p)) = unlent refl refl (λ r. create_nrt p)
  every_call (verb (Calls.activate x)) = unlent refl refl (λ r. activate (record { 0 = x }))
  every_call (verb Calls.sleep) = unlent refl refl (λ r. sleep)
  every_call (verb Calls.cycle) = unlent refl refl (λ r. cycle)
  every_call (verb Calls.end) = unlent refl refl (λ r. end)
  every_call (verb (Calls.kill x)) = unlent refl refl (λ r. kill (record { 0 = x }))
  every_call (verb (Calls.new_semaphore count)) = unlent refl refl (λ r. new_semaphore count)
  every_call (verb (Calls.delete x)) = unlent refl refl (λ r. delete (record { 0 = x }))
  every_call (verb (Calls.wait x)) = unlent refl refl (λ r. wait (record { 0 = x }))
  every_call (verb (Calls.signal x)) = unlent refl refl (λ r. signal (record { 0 = x }))
  every_call (question Calls.clock) = unlent refl refl (λ r. clock)
  every_call (question (Calls.status x)) = unlent refl refl (λ r. status (record { 0 = x }))
  every_call (question (Calls.deadline x)) = unlent refl refl (λ r. deadline (record { 0 = x }))
  every_call (question (Calls.period x)) = unlent refl refl (λ r. period (record { 0 = x }))
  every_call (question (Calls.slack x)) = unlent refl refl (λ r. slack (record { 0 = x }))
  every_call (on_channel (Calls.open_channel size buffers)) = unlent refl refl (λ r. open_channel size buffers)
  every_call (on_channel (Calls.begin_write x)) = writes refl (λ r n. begin_write ([], tt) (record { 0 = x }) (to_mut m) (to_mut n) refl)
  every_call (on_channel (Calls.piece x a bs)) = writes refl (λ r n. piece ([], ([], tt)) (record { 0 = x }) a (to bs) (to_mut m) (to_mut n) refl)
  every_call (on_channel (Calls.put x)) = reads refl (λ r. put ([], tt) (record { 0 = x }) (to m) refl)
  every_call (on_channel (Calls.begin_reading x)) = reads refl (λ r. begin_reading ([], tt) (record { 0 = x }) (to m) refl)
  every_call (on_channel (Calls.showing x)) =
      shows x (part 0 0) (part_of (anywhere m) 0 0) refl
      (λ back p. showing ([], tt) (record { 0 = x }) (to m) back refl (λ text. p text refl) refl)
  every_call (on_channel (Calls.close x)) = reads refl (λ r. close ([], tt) (record { 0 = x }) (to m) refl)
  every_call (on_channel (Calls.screen x text)) =
      shows x standby (anywhere text) refl
      (λ back p. screen ([], tt) (record { 0 = x }) (to m) (to text) back refl (p (anywhere text) refl) refl)

-- The runs that give the frauds away are computed: on each demand 3 is false, so that the statement by itself rules the fraud out. Assumes
-- nothing.
use mathlib.Core.Path.{◌≡◌, refl, sym, subst, ◌∙◌}
use mathlib.Core.Bool.{Bool, true, false, false≢true, not, ◌&&◌, and-eq-true_iff}
use mathlib.Core.List.{List, [], ◌∷◌}
use mathlib.Core.Option.{Option, none, some}
use Prim.Native.Nat.{ℕ}
use borrow.Author.Tests.{eq-eqb, not-true}
use Rattle.kernel.specs.Kernel.{lowest}
use Rattle.kernel.specs.Moves.{move, dispatch, preempt, schedule}
use Rattle.kernel.specs.Tasks as Tasks
use Rattle.kernel.specs.Channels as Channels
use Rattle.kernel.specs.Channels.{same_bytes}
use Rattle.kernel.specs.Calls.{showing, on_channel, effect}
use Rattle.kernel.specs.Fresh.{fresh}
use Rattle.laws_runs.specs.Trace.{Event, accepted}
use Rattle.laws_runs.specs.Messages.{log, size_of, opened}
use Rattle.laws_runs.specs.Whole.{Whole}
use Rattle.laws_runs.specs.Run.{handed, event, after, trace}
use Rattle.laws_runs.specs.Frauds.{cheating, shows_first, shows_zeros, shows_nothing, publishes_early, takes_read_buffer, keeps_old_bytes, Case, run, first_message, zeros, no_message, early, overwritten, old_bytes, cases}

-- ---- messages compared

abbrev same : Option (List ℕ) → Option (List ℕ) → Bool
same none none = true
same none (some y) = false
same (some x) none = false
same (some x) (some y) = same_bytes x y

itself : (x : List ℕ) → same_bytes x x ≡ true
unfolding same_bytes
itself [] = refl
itself (x ∷ xs) = rw (eq-eqb x x refl) (itself xs)

one_message : (x : Option (List ℕ)) → same x x ≡ true
one_message none = refl
one_message (some x) = itself x

-- ---- cases

module _ (x : Case) where
  abbrev before : List Event
  before = trace (cheating x.fraud) x.memory x.calls

  abbrev last : Event
  last = let w = after (cheating x.fraud) x.memory x.calls in event (on_channel (showing 0)) w (cheating x.fraud (on_channel (showing 0)) (handed w))

  abbrev asked_for : Option (List ℕ)
  asked_for = opened (size_of 0 before) last.who (log 0 before)

  -- The showing is accepted, and gives what the case says and not the message that is asked for, which is as the case says too.
  abbrev caught : Bool
  caught = (accepted last && not (same last.shown asked_for)) && (same last.shown x.shown && same asked_for x.due)

  refuted : caught ≡ true → Whole (run x) → ⊥
  unfolding trace
  refuted e w =
      let c = (and-eq-true_iff (accepted last) (not (same last.shown asked_for))).0 ((and-eq-true_iff (accepted last && not (same last.shown asked_for)) _).0 e).0 in
      let g = w.0 0 (record { instead = []; asked = refl; taken = c.0 }) in
      let one : same last.shown asked_for ≡ true = subst (λ (y : Option (List ℕ)). same last.shown y ≡ true) (g.shown_is ∙ sym g.message_is) (one_message last.shown) in
      false≢true (sym (not-true (same last.shown asked_for) c.1) ∙ one)

-- ---- all of them

abbrev all_caught : List Case → Bool
all_caught [] = true
all_caught (x ∷ xs) = caught x && all_caught xs

-- Demand 3 is false of each run.
abbrev pub Refuted : List Case → Type 0
Refuted [] = Unit {0}
Refuted (x ∷ xs) = (Whole (run x) → ⊥) × Refuted xs

all_refuted : (xs : List Case) → all_caught xs ≡ true → Refuted xs
all_refuted [] e = tt
all_refuted (x ∷ xs) e = let c = (and-eq-true_iff (caught x) (all_caught xs)).0 e in (refuted x c.0, all_refuted xs c.1)

-- **frauds_refuted**
pub frauds_refuted : Refuted cases
unfolding cases first_message zeros no_message early overwritten old_bytes cheating shows_first shows_zeros shows_nothing publishes_early takes_read_buffer keeps_old_bytes same_bytes after trace fresh effect lowest move dispatch preempt schedule Tasks.lowest_free Tasks.create Tasks.activate Tasks.sleep Channels.some_session Channels.lowest_buffer Channels.lowest_channel Channels.open_channel Channels.begin_write Channels.cleared Channels.written Channels.put Channels.begin_reading
frauds_refuted = all_refuted cases refl

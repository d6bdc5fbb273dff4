-- A tick stops the kernel where document 01 says so, and a stop changes only clock and stop reason. Assumes nothing.
use mathlib.Core.Path.{◌≡◌, refl, ap, sym, subst, ◌∙◌}
use mathlib.Core.Bool.{Bool, true, false, true≢false, cond, and-eq-true_iff}
use mathlib.Core.Logic.{◌↔◌}
use mathlib.Core.Option.{Option, none, some}
use mathlib.Core.List.{List}
use Prim.Native.Nat.{ℕ, ◌+◌}
use native.Mathlib.Omega.{arith}
use lib.IntN.{ℤ}
use lib.ListN.{set}
use lib.Seq.{get_or-set_other}
use lib.Dec.{eqb, ltb}
use borrow.Author.Tests.{eqb-true, eqb-false, ltb-true, lt-ltb}
use Rattle.kernel.specs.declared.Stop.{Stop}
use Rattle.kernel.specs.declared.Stop.TheVariants.{Going, Overrun, Lifetime}
use Rattle.kernel.specs.declared.State.{State}
use Rattle.kernel.specs.Sizes.{lifetime}
use Rattle.kernel.specs.Status.{stop_number}
use Rattle.kernel.specs.Kernel.{Kernel, task, hard, with_clock, with_stop}
use Rattle.kernel.specs.Tick as Tick
use Rattle.kernel.specs.Tick.{free_zombies, wake_idle, overrun}
use Rattle.kernel.specs.Calls.{Call, tick, verb, effect}
use Rattle.kernel.specs.Layout.{word, clock_at, stop_at, running_at}
use Rattle.kernel.specs.Seen.{seen}
use Rattle.kernel.specs.Sound.{Sound}
use Rattle.kernel.specs.Promise.{handed, Loan, Given, Answered}
use Rattle.kernel.proofs.Allowed.{allowed}
use Rattle.kernel.proofs.Shows.{kept, then}
use Rattle.laws_effects.proofs.Untouched.{Untouched, frees, wakes}
use Rattle.words.proofs.Numbers.{clock_set, stop_set}
use Rattle.laws_words.proofs.Determined.{determined}
use Rattle.laws_promises.specs.Outcome.{TookEffect}
use Rattle.laws_promises.specs.Stops.{Late, Reason, Ticked, stopped, StopOnly}
use Rattle.laws_promises.proofs.Answers.{By, says, by, takes_effect}

-- A tick that goes on leaves the stop reason.
stop_untouched : Untouched (λ k. k.stop)
stop_untouched = record { by_tasks = λ k ts qs. refl; by_running = λ k x. refl; by_total = λ k n. refl }

-- ---- the model's tick

module _ (k : Kernel) where
  -- There is one reason.
  one_reason : (v w : Stop) → Reason k v → Reason k w → v ≡ w
  one_reason Lifetime Lifetime p q = refl
  one_reason Lifetime Overrun p q = absurd (q.0 p)
  one_reason Lifetime Going p q = absurd (q.0 p)
  one_reason Overrun Lifetime p q = absurd (p.0 q)
  one_reason Overrun Overrun p q = refl
  one_reason Overrun Going p q = absurd (q.1 p.1)
  one_reason Going Lifetime p q = absurd (p.0 q)
  one_reason Going Overrun p q = absurd (p.1 q.1)
  one_reason Going Going p q = refl

  exact : (v : Stop) → Reason k v → (w : Stop) → (v ≡ w) ↔ Reason k w
  exact v r w = (λ e. subst (Reason k) e r, one_reason v w r)

  abbrev later : Kernel
  later = with_clock k (k.clock + 1)

  late : (overrun later ≡ true) ↔ Late k
  late =
      let a = task k k.running in
      let both = and-eq-true_iff (hard a.class) (ltb a.deadline (k.clock + 1)) in (
        λ e. record { hard_runs = (both.0 e).0; past = ltb-true a.deadline (k.clock + 1) (both.0 e).1 },
        λ l. both.1 (l.hard_runs, lt-ltb a.deadline (k.clock + 1) l.past),
      )

  -- **tick_stops**: the model's tick stops any kernel that was going on exactly where document 01 says so, and a stop changes only clock and stop reason.
  pub tick_stops : k.stop ≡ Going → Ticked k (Tick.tick k)
  unfolding Tick.tick
  tick_stops going = go (eqb (k.clock + 1) lifetime) refl (overrun later) refl
    where
      go : (a : Bool) → eqb (k.clock + 1) lifetime ≡ a → (b : Bool) → overrun later ≡ b
          → Ticked k (cond a (with_stop later Lifetime) (cond b (with_stop later Overrun) (wake_idle (free_zombies later))))
      go true e b f = record { exactly = exact Lifetime (eqb-true (k.clock + 1) lifetime e); only = λ n. refl }
      go false e true f = record { exactly = exact Overrun (eqb-false (k.clock + 1) lifetime e, late.0 f); only = λ n. refl }
      go false e false f =
          let on = wakes stop_untouched (free_zombies later) ∙ frees stop_untouched later ∙ going in
          let why = exact Going (eqb-false (k.clock + 1) lifetime e, λ l. true≢false (sym (late.1 l) ∙ f)) in
          record { exactly = subst (λ (v : Stop). (w : Stop) → (v ≡ w) ↔ Reason k w) (sym on) why; only = λ n. absurd (n on) }

-- ---- the promise of tick

-- Beside clock and stop reason every word stays.
beside : (w : List ℕ) (clock : ℕ) (x : Stop) (j : ℕ) → (j ≡ clock_at → ⊥) → (j ≡ stop_at → ⊥) → word (stopped w clock x) j ≡ word w j
beside w clock x j nc ns = get_or-set_other (set w clock_at clock) stop_at j (stop_number x) 0 ns ∙ get_or-set_other w clock_at j clock 0 nc

-- A call that changes the state was handed a sound one.
changed_sound : {c : Call} {s : State} {l : Loan} {g : Given} → Answered c s l g → (g.reply.state.words ≡ s.words → ⊥) → Sound s.words
changed_sound {c} {s} {l} {g} a changed = go (says c s l a.sound) refl (by a a.sound a.decided)
  where
    go : (o : Option ℤ) → says c s l a.sound ≡ o → By c s l g a.sound o → Sound s.words
    go none e h = a.decided.0 (allowed (handed a.sound s.words l.memory.bytes) c e).sound
    go (some x) e h = absurd (changed h.state)

module _ {s : State} {l : Loan} {g : Given} (a : Answered (verb tick) s l g) (going : (seen s.words).stop ≡ Going) where
  took : Sound s.words → TookEffect (effect (verb tick) (seen s.words) l.memory.bytes) l g
  took h = takes_effect a h (rw going refl)

  ticked : Sound s.words → Ticked (seen s.words) (seen g.reply.state.words)
  unfolding effect
  ticked h = subst (Ticked (seen s.words)) (sym (took h).state.is) (tick_stops (seen s.words) going)

  -- **stops_exactly**: a tick on a sound state stops, or goes on, exactly where document 01 says so.
  pub stops_exactly : Sound s.words → (w : Stop) → ((seen g.reply.state.words).stop ≡ w) ↔ Reason (seen s.words) w
  stops_exactly h = (ticked h).exactly

  -- **stop_only**: on any state that is not stopped, a tick that stops changes only clock and stop reason.
  pub stop_only : ((seen g.reply.state.words).stop ≡ Going → ⊥) → StopOnly s l.memory.bytes g.reply g.memory
  unfolding effect
  stop_only stops =
      let h = changed_sound a (λ e. stops (ap (λ (v : List ℕ). (seen v).stop) e ∙ going)) in
      let t = took h in
      let w = s.words in
      let v = g.reply.state.words in
      let clock = clock_set ((seen w).clock + 1) (kept h) in
      let stop = then (λ k. with_stop k (seen v).stop) clock (stop_set (seen v).stop clock.kept) in
      let only : v ≡ stopped w ((seen w).clock + 1) (seen v).stop = determined (record { kept = t.state.kept; is = (ticked h).only stops }) stop in
      let others : (j : ℕ) → (j ≡ clock_at → ⊥) → (j ≡ stop_at → ⊥) → word v j ≡ word w j =
      λ j nc ns. ap (λ (u : List ℕ). word u j) only ∙ beside w ((seen w).clock + 1) (seen v).stop j nc ns in
      record {
        reason = (stops_exactly h (seen v).stop).0 refl;
        state = only;
        others = others;
        running = a.gives.running ∙ (λ i. record { 0 = others running_at (λ e. omega arith) (λ e. omega arith) i });
        memory = t.memory;
        answer = t.answer;
      }

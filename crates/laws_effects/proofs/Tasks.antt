-- Create, activate, sleep, cycle, end and kill, where nothing refuses them, keep the kernel good. Assumes nothing.
use mathlib.Core.Path.{◌≡◌, refl, ap, ◌∙◌}
use mathlib.Core.Bool.{Bool, true, false, false≢true, cond}
use mathlib.Core.Logic.{◌⊎◌, inl, inr}
use Prim.Native.Nat.{ℕ, ◌+◌, ◌≤◌, ◌<◌}
use native.Mathlib.Omega.{arith}
use lib.Dec.{ltb, eqb}
use borrow.Author.Tests.{ltb-true, ltb-false, eqb-true, eqb-false}
use Rattle.kernel.specs.declared.Class.{Class}
use Rattle.kernel.specs.declared.Class.TheVariants.{Nrt, Hard}
use Rattle.kernel.specs.declared.Status.TheVariants.{Sleep, Ready, Idle, Zombie}
use Rattle.kernel.specs.Sizes.{task_count, channel_count, lifetime, whole}
use Rattle.kernel.specs.Status.{FREE, READY, EXE, SLEEP, status_number, stop_number}
use Rattle.kernel.specs.Kernel.{Bare, Kernel, task, hard, period_of, share_of, is, with_status, with_running, with_sessions, next_period}
use Rattle.kernel.specs.Moves.{move, dispatch}
use Rattle.kernel.specs.Tasks.{lowest_free, first_deadline, create, release, activate, sleep, cycle, ended, close_sessions, finish, end, kill}
use Rattle.kernel.specs.Good.{Good, Fits, Timely}
use Rattle.kernel.proofs.Lowest.{found}
use Rattle.laws_effects.specs.UnderWay.{Steady}
use Rattle.laws_effects.proofs.Steady.{earliest, steady, exe, good}
use Rattle.laws_effects.proofs.Sessions.{sessions_closed, closed_steady}
use Rattle.laws_effects.proofs.Changed.{Runner, still_earliest, changed, apart, leaves, counted_in_use, anew, restated}
use Rattle.laws_effects.proofs.Processor.{dispatched, gives_way, scheduled}

-- ---- deadlines, by class

first_timely : (clock : ℕ) (c : Class) → Timely clock c SLEEP (first_deadline c clock)
first_timely clock (Hard p c) = omega arith
first_timely clock (Nrt p) = (λ z. absurd (omega arith), λ z. refl)

released : {n : ℕ} (clock d : ℕ) (c : Class) → clock ≤ lifetime → (n ≡ FREE → ⊥) → Timely clock c n d → Timely clock c READY (release c clock d) × (clock ≤ release c clock d)
released clock d (Hard p c) l u t = (omega arith, omega arith)
released clock d (Nrt p) l u t = let e = t.1 u in ((λ z. absurd (omega arith), λ z. e), omega arith)

-- A HARD task that is due is given its next deadline.
pub renewed : (clock d : ℕ) (c : Class) → hard c ≡ true → d ≤ clock → Timely clock c READY (d + period_of c)
renewed clock d (Hard p c) h l = omega arith
renewed clock d (Nrt p) h l = absurd (false≢true h)

-- Who has ended is not READY.
pub ended_not_ready : (a : Bare) (c : Class) → status_number (ended a c).status ≡ READY → ⊥
ended_not_ready a (Hard p c) = omega arith
ended_not_ready a (Nrt p) = omega arith

module _ {k : Kernel} (g : Good k) (going : stop_number k.stop ≡ 0) where
  -- The record of the running task.
  abbrev own : Bare
  own = task k k.running

  s : Steady k
  s = steady g going

  runs : k.running < task_count
  runs = g.runs.running

  in_use : status_number own.status ≡ FREE → ⊥
  in_use z = let e = exe s runs in omega arith

  pub create_good : (c : Class) → Fits c → (lowest_free k ≡ task_count → ⊥) → k.total + share_of c ≤ whole → Good (create c k)
  unfolding move create lowest_free
  create_good c f some l =
      let i = lowest_free k in
      let r = found task_count (λ x. is FREE (task k x)) some in
      let e = eqb-true (status_number (task k i).status) FREE r.1 in
      let other : i ≡ 0 → ⊥ = λ z. not_free ((g.tasks i r.0).main_or_sized.main_status z) e in
      good
      (changed s
      (record {
        is_task = r.0;
        runner = apart s i r.0 (omega arith) (omega arith);
        main_class = λ z. absurd (other z);
        fits = λ ne. f;
        timely = first_timely k.clock c;
        asks = other;
        share = rw r.1 (omega arith);
        share_fits = l;
      }))
      runs
      (still_earliest s (earliest g) i (record { class = c; status = Sleep; deadline = first_deadline c k.clock }) r.0 (omega arith) (omega arith))
    where
      not_free : {n : ℕ} → (n ≡ EXE) ⊎ (n ≡ READY) → n ≡ FREE → ⊥
      not_free (inl z) e = omega arith
      not_free (inr z) e = omega arith

  pub activate_good : (n : ℕ) → n < task_count → status_number (task k n).status ≡ SLEEP → Good (activate n k)
  unfolding move activate
  activate_good n l e =
      let r = released k.clock (task k n).deadline (task k n).class g.clocked.clock (omega arith) (g.tasks n l).timely in
      scheduled (anew s n l (omega arith) Ready (omega arith) (release (task k n).class k.clock (task k n).deadline) (apart s n l (omega arith) (omega arith)) r.0 r.1) runs

  pub sleep_good : (k.running ≡ 0 → ⊥) → Good (sleep k)
  unfolding sleep
  sleep_good ne = gives_way s runs Sleep (omega arith) (omega arith) ne

  pub cycle_good : (k.running ≡ 0 → ⊥) → hard own.class ≡ true → Good (cycle k)
  unfolding move cycle
  cycle_good ne h = go (ltb k.clock own.deadline) refl
    where
      go : (b : Bool) → ltb k.clock own.deadline ≡ b
          → Good (dispatch (move k k.running (cond b (with_status own Idle) (next_period own))))
      go true z = gives_way s runs Idle (omega arith) (omega arith) (ne, h, ltb-true k.clock own.deadline z)
      go false z =
          let due = ltb-false k.clock own.deadline z in
          dispatched _ (anew s k.running runs in_use Ready (omega arith) (own.deadline + period_of own.class) (leaves runs (omega arith))
          (renewed k.clock own.deadline own.class h due) (omega (arith, (s.runs k.running runs).1 (exe s runs))))

  -- A task in use that is not the main one is finished, and e is the EXE one from then on.
  finished : (n : ℕ) {e : ℕ} → n < task_count → (n ≡ 0 → ⊥) → (status_number (task k n).status ≡ FREE → ⊥) → ((m : ℕ) → (m ≡ EXE → ⊥) → Runner k.running n m e)
      → Steady (with_running (finish n k) e)
  unfolding move finish
  finished n {e} l ne used r = go (task k n).class refl
    where
      go : (c : Class) → (task k n).class ≡ c → Steady (with_running (with_sessions (move k n (ended (task k n) c)) (close_sessions channel_count n k.sessions)) e)
      go (Hard p c) z = restated (closed_steady k n s) n l used Zombie (omega arith) (r _ (omega arith)) (ne, ap hard z, sessions_closed k n)
      go (Nrt p) z =
          changed (closed_steady k n s)
          (record {
            is_task = l;
            runner = r _ (omega arith);
            main_class = λ w. absurd (ne w);
            fits = λ w. omega arith;
            timely = (λ w. refl, λ w. absurd (w refl));
            asks = (ne, refl, sessions_closed k n);
            share = omega (arith, counted_in_use (task k n) used, ap share_of z);
            share_fits = g.shared.total_fits;
          })

  pub end_good : (k.running ≡ 0 → ⊥) → Good (end k)
  unfolding end
  end_good ne = dispatched _ (finished k.running runs ne in_use (λ m. leaves runs))

  pub kill_good : (n : ℕ) → n < task_count → (n ≡ 0 → ⊥) → (status_number (task k n).status ≡ FREE → ⊥) → Good (kill n k)
  unfolding move finish kill
  kill_good n l ne used = go (eqb n k.running) refl
    where
      go : (b : Bool) → eqb n k.running ≡ b → Good (cond b (end k) (finish n k))
      go true z = end_good (λ w. ne (eqb-true n k.running z ∙ w))
      go false z =
          let other : status_number (task k n).status ≡ EXE → ⊥ = λ w. eqb-false n k.running z ((g.tasks n l).exe.0 w) in
          let a = ended (task k n) (task k n).class in
          good (finished n l ne used (λ m. apart s n l other)) runs (still_earliest s (earliest g) n a l other (ended_not_ready (task k n) (task k n).class))

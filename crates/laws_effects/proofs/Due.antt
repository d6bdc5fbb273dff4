-- While a tick is under way a zombie that is due goes, and an IDLE task that is due wakes. Assumes nothing.
use mathlib.Core.Path.{◌≡◌, refl, ap, ◌∙◌}
use mathlib.Core.List.{List, [], ◌∷◌}
use mathlib.Core.Logic.{◌⊎◌, inl, inr}
use Prim.Native.Nat.{ℕ, zero, suc, ◌≤◌, ◌<◌, zero-le}
use native.Mathlib.Omega.{arith}
use lib.ListN.{get_or}
use borrow.Author.Tests.{eq-eqb}
use Rattle.laws_chain.specs.Lists.{remove}
use Rattle.kernel.specs.declared.Status.TheVariants.{Ready}
use Rattle.kernel.specs.declared.Stop.TheVariants.{Overrun}
use Rattle.kernel.specs.declared.Session.{Session}
use Rattle.kernel.specs.declared.Session.TheVariants.{Closed, Write, Reading}
use Rattle.kernel.specs.Sizes.{task_count}
use Rattle.kernel.specs.Status.{FREE, READY, EXE, IDLE, ZOMBIE, status_number, queue_of, queue_count, idle_queue, zombie_queue}
use Rattle.kernel.specs.Kernel.{Bare, Kernel, task, queue, session, blank, share_of, with_stop, next_period}
use Rattle.kernel.specs.Moves.{move}
use Rattle.kernel.specs.Tick.{free, wake}
use Rattle.kernel.specs.Good.{standing, counted_share, shares}
use Rattle.kernel.proofs.Moves.{Movable, kept_queue}
use Rattle.laws_effects.specs.UnderWay.{Freeing, Steady, Ticking}
use Rattle.laws_effects.proofs.Standing.{stands}
use Rattle.laws_effects.proofs.Asks.{Sessionless}
use Rattle.laws_effects.proofs.Sessions.{busy}
use Rattle.laws_effects.proofs.Changed.{movable, each, still_earliest, changed, apart, counted_in_use, anew}
use Rattle.laws_effects.proofs.Tasks.{renewed}
use Rattle.laws_effects.proofs.Sweep.{Acts}

-- ---- what a tick finds

counted_part : (ts : List Bare) (x : ℕ) → counted_share (get_or ts x blank) ≤ shares ts
counted_part [] x = zero-le
counted_part (t ∷ ts) zero = omega arith
counted_part (t ∷ ts) (suc x) = omega (arith, counted_part ts x)

-- The share of a task in use is part of the total.
pub share_part : {k : Kernel} → Steady k → (x : ℕ) → (status_number (task k x).status ≡ FREE → ⊥) → share_of (task k x).class ≤ k.total
share_part {k} s x used = omega (arith, counted_in_use (task k x) used, s.shared.total_is, counted_part k.tasks x)

never_main : {k : Kernel} → Steady k → (x : ℕ) → x < task_count → (status_number (task k x).status ≡ EXE → ⊥) → (status_number (task k x).status ≡ READY → ⊥)
    → x ≡ 0 → ⊥
never_main {k} s x l not_exe not_ready z = go ((s.tasks x l).main_or_sized.main_status z)
  where
    go : (status_number (task k x).status ≡ EXE) ⊎ (status_number (task k x).status ≡ READY) → ⊥
    go (inl e) = not_exe e
    go (inr e) = not_ready e

zombie_closed : {k : Kernel} → Steady k → (x : ℕ) → x < task_count → status_number (task k x).status ≡ ZOMBIE → Sessionless k x
zombie_closed {k} s x l e c lc = go (session k c x) refl
  where
    go : (z : Session) → session k c x ≡ z → z ≡ Closed
    go Closed w = refl
    go (Write b) w = absurd ((busy (s.channels c lc) x b l (inl w)).1 e)
    go (Reading b) w = absurd ((busy (s.channels c lc) x b l (inr w)).1 e)

-- The first of a queue, once it has moved to another.
first_out : {k : Kernel} {x q : ℕ} {xs : List ℕ} → Movable k x → (a : Bare) → q < queue_count → (q ≡ queue_of a.status → ⊥) → queue k q ≡ x ∷ xs
    → queue (move k x a) q ≡ xs
first_out {x = x} {q} m a l ne e = kept_queue m a q l ne ∙ ap (remove x) e ∙ rw (eq-eqb x x refl) refl

-- ---- what a tick does

module _ {k : Kernel} (t : Ticking k) (x : ℕ) (l : x < task_count) where
  s : Steady (with_stop k Overrun)
  s = t.steady

  -- Task x changes, and is not IDLE then: no other becomes late.
  idle_kept : (a : Bare) → (status_number a.status ≡ IDLE → ⊥) → (y : ℕ) → y < task_count → status_number (task (move k x a) y).status ≡ IDLE
      → k.clock ≤ (task (move k x a) y).deadline
  unfolding move
  idle_kept a ne =
      each (λ (y : ℕ) (r : Bare). y < task_count → status_number r.status ≡ IDLE → k.clock ≤ r.deadline) (movable s x l)
      (λ ly z. absurd (ne z)) (λ y ny. t.idle y)

  pub freed : status_number (task k x).status ≡ ZOMBIE → Ticking (free k x)
  unfolding move free
  freed e =
      let other = never_main s x l (omega arith) (omega arith) in
      record {
        steady = changed s
            (record {
              is_task = l;
              runner = apart s x l (omega arith) (omega arith);
              main_class = λ z. absurd (other z);
              fits = λ z. omega arith;
              timely = (λ z. refl, λ z. absurd (z refl));
              asks = (other, refl, zombie_closed s x l e);
              share = omega (arith, share_part s x (omega arith), counted_in_use (task k x) (omega arith));
              share_fits = omega (arith, s.shared.total_fits);
            });
        idle = idle_kept blank (omega arith);
        going = t.going;
        running = t.running;
      }

  pub woken : status_number (task k x).status ≡ IDLE → (task k x).deadline ≤ k.clock → Ticking (wake k x)
  unfolding move wake
  woken e due =
      let a = task k x in
      let hard = (s.tasks x l).suited.idle_hard e in
      record {
        steady = anew s x l (omega arith) Ready (omega arith) (next_period a).deadline (apart s x l (omega arith) (omega arith))
            (renewed k.clock a.deadline a.class hard due) (omega (arith, t.idle x l e));
        idle = idle_kept (next_period a) (omega arith);
        going = t.going;
        running = t.running;
      }

-- ---- the sweeps

first_in : {k : Kernel} {x q : ℕ} {xs : List ℕ} → Ticking k → q < queue_count → queue k q ≡ x ∷ xs → (x < task_count) × (standing k x ≡ q)
first_in {q = q} t l e = (rw e at (t.steady.queues q l).only).0

pub first_zombie : {k : Kernel} {x : ℕ} {xs : List ℕ} → Ticking k → queue k zombie_queue ≡ x ∷ xs → (x < task_count) × (status_number (task k x).status ≡ ZOMBIE)
first_zombie {k} {x} t e = let i = first_in t (omega arith) e in (i.0, (stands (task k x).status).in_zombie.1 i.1)

pub first_idle : {k : Kernel} {x : ℕ} {xs : List ℕ} → Ticking k → queue k idle_queue ≡ x ∷ xs → (x < task_count) × (status_number (task k x).status ≡ IDLE)
first_idle {k} {x} t e = let i = first_in t (omega arith) e in (i.0, (stands (task k x).status).in_idle.1 i.1)

pub frees : Acts Freeing free zombie_queue
unfolding move free
frees =
    record {
      rising = λ p. (p.0.steady.queues zombie_queue (omega arith)).rising;
      acts = λ {k} {x} p e due.
          let t = p.0 in
          let i = first_zombie t e in
          let z = i.1 in (
            (freed t x i.0 z, still_earliest t.steady p.1 x blank i.0 (omega arith) (omega arith)),
            first_out (movable t.steady x i.0) blank (omega arith) (omega arith) e,
          );
    }

pub wakes : Acts Ticking wake idle_queue
unfolding move wake
wakes =
    record {
      rising = λ t. (t.steady.queues idle_queue (omega arith)).rising;
      acts = λ {k} {x} t e due.
          let i = first_idle t e in
          (woken t x i.0 i.1 due, first_out (movable t.steady x i.0) (next_period (task k x)) (omega arith) (omega arith) e);
    }

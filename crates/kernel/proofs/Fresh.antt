-- The fresh kernel is good, at any clock before lifetime. Assumes nothing.
use mathlib.Core.Path.{◌≡◌, refl, ap}
use mathlib.Core.Logic.{inl, inr}
use mathlib.Core.Bool.{false≢true}
use mathlib.Core.List.{[]}
use Prim.Native.Nat.{ℕ, zero, suc, ◌-◌, ◌*◌, ◌<◌}
use native.Mathlib.Omega.{arith}
use lib.ListN.{get_or, replicate}
use Rattle.laws_chain.specs.Filing.{Queue}
use Rattle.kernel.specs.declared.Channel.{Channel}
use Rattle.std.specs.Prelude.{Some}
use Rattle.kernel.specs.declared.Session.TheVariants.{Closed}
use Rattle.kernel.specs.declared.Slot.{Slot}
use Rattle.kernel.specs.Sizes.{task_count, semaphore_count, channel_count, lifetime}
use Rattle.kernel.specs.Status.{queue_of, queue_count}
use Rattle.kernel.specs.Kernel.{Bare, blank, task, queue, semaphore, channel, session, unused_semaphore, unused_channel, slot, slot_number}
use Rattle.kernel.specs.Good.{Good, GoodTask, GoodSemaphore, GoodChannel, Opens, standing, deadline_of}
use Rattle.kernel.specs.Fresh.{main, fresh, fresh_at}

-- A list of one thing holds it at each number, past its end too where that is what is read there.
everywhere : {A : Type 0} (n : ℕ) (a : A) (i : ℕ) → get_or (replicate n a) i a ≡ a
everywhere zero a i = refl
everywhere (suc n) a zero = refl
everywhere (suc n) a (suc i) = everywhere n a i

-- ---- what stands at a number

others : (x : ℕ) → task fresh (suc x) ≡ blank
unfolding fresh
others x = everywhere (task_count - 1) blank x

no_one : (q : ℕ) → queue fresh q ≡ []
unfolding fresh
no_one q = everywhere queue_count [] q

in_none : (x : ℕ) → queue_of (task fresh x).status ≡ queue_count
unfolding fresh
in_none zero = refl
in_none (suc x) = ap (λ (a : Bare). queue_of a.status) (others x)

no_semaphore : (s : ℕ) → semaphore fresh s ≡ unused_semaphore
unfolding fresh
no_semaphore s = everywhere semaphore_count unused_semaphore s

pub no_channel : (c : ℕ) → channel fresh c ≡ unused_channel
unfolding fresh
no_channel c = everywhere channel_count unused_channel c

pub no_session : (c t : ℕ) → session fresh c t ≡ Closed
unfolding fresh
no_session c t = ap (λ (z : Slot). z.session) (everywhere (task_count * channel_count) (slot Closed) (slot_number c t))

-- ---- the kernel, at any clock

module _ (n : ℕ) where
  main_good : GoodTask (fresh_at n) 0 main
  unfolding fresh
  main_good =
      record {
        exe = (λ e. refl, λ e. refl);
        main_or_sized = record { main_class = λ e. refl; main_status = λ e. inl refl; fits = λ ne. absurd (ne refl) };
        timely = (λ e. absurd (omega arith), λ ne. refl);
        suited = record { free = λ e. absurd (omega arith); hard_never_waits = λ e. absurd (false≢true e); idle_hard = λ e. absurd (omega arith); zombie_hard = λ e. absurd (omega arith) };
        waits = tt;
        idle_ahead = λ g e. absurd (omega arith);
      }

  blank_good : (x : ℕ) → GoodTask (fresh_at n) (suc x) blank
  unfolding fresh
  blank_good x =
      record {
        exe = (λ e. absurd (omega arith), λ e. absurd (omega arith));
        main_or_sized = record { main_class = λ e. absurd (omega arith); main_status = λ e. absurd (omega arith); fits = λ ne. omega arith };
        timely = (λ e. refl, λ ne. absurd (ne refl));
        suited = record { free = λ e. refl; hard_never_waits = λ e. absurd (false≢true e); idle_hard = λ e. absurd (omega arith); zombie_hard = λ e. absurd (omega arith) };
        waits = tt;
        idle_ahead = λ g e. absurd (omega arith);
      }

  task_good : (x : ℕ) → GoodTask (fresh_at n) x (task fresh x)
  unfolding fresh
  task_good zero = main_good
  task_good (suc x) = rw others (blank_good x)

  queue_good : (q : ℕ) → q < queue_count → Queue task_count (standing (fresh_at n)) (deadline_of (fresh_at n)) q (queue fresh q)
  queue_good q h =
      record {
        only = rw no_one tt;
        all = λ x lx e. let none = in_none x in absurd (omega arith);
        once = rw no_one tt;
        rising = rw no_one tt;
      }

  semaphore_good : (s : ℕ) → GoodSemaphore (fresh_at n) s
  semaphore_good s =
      record {
        fits = rw no_semaphore (omega arith);
        counting = λ h. no_one _;
        unused_count = λ e. rw no_semaphore refl;
        unused_waiters = λ e. no_one _;
      }

  channel_good : (c : ℕ) → GoodChannel (fresh_at n) c
  channel_good c =
      record {
        unused = λ e. record { buffers = rw no_channel refl; latest = rw no_channel refl; sessions = λ t h. no_session c t };
        used = λ h. absurd (let e = ap (λ (x : Channel). x.size) (no_channel c) in omega arith);
        latest = λ b e. absurd (no_put b e);
        sessions = λ t b h e. absurd (no_open t b e);
        one_writer = λ t u b ht hu e. absurd (no_open t b (inl e));
        not_latest = λ t b h e. absurd (no_open t b (inl e));
        not_read = λ t u b ht hu e. absurd (no_open t b (inl e));
        put_first = λ t b h e. absurd (no_open t b (inr e));
      }
    where
      no_put : (b : ℕ) → (channel fresh c).latest ≡ Some b → ⊥
      no_put b e =
          let none = ap (λ (x : Channel). x.latest) (no_channel c) in
          let w : ◌≡◌ {A = ℕ} 0 1 = cc in
          omega arith

      no_open : (t b : ℕ) → Opens (session fresh c t) b → ⊥
      no_open t b (inl e) = let none = no_session c t in let w : ◌≡◌ {A = ℕ} 0 1 = cc in omega arith
      no_open t b (inr e) = let none = no_session c t in let w : ◌≡◌ {A = ℕ} 0 1 = cc in omega arith

  pub fresh_at_good : n < lifetime → Good (fresh_at n)
  unfolding fresh
  fresh_at_good h =
      record {
        sized = record { tasks = refl; queues = refl; semaphores = refl; channels = refl; sessions = refl };
        tasks = λ x lx. task_good x;
        runs = record { running = omega arith; earliest = tt; in_time = λ g e. absurd (false≢true e) };
        queues = queue_good;
        shared = record { total_is = refl; total_fits = omega arith };
        semaphores = λ s ls. semaphore_good s;
        channels = λ c lc. channel_good c;
        clocked = record { clock = omega arith; expired = (λ e. absurd (omega arith), λ e. absurd (omega arith)) };
      }

pub fresh_good : Good fresh
unfolding fresh
fresh_good = fresh_at_good 0 (omega arith)

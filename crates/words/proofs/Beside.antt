-- What a write to heads and records leaves: all that stands beside them. Assumes nothing.
use mathlib.Core.Path.{◌≡◌, refl, subst, sym, ◌∙◌}
use mathlib.Core.List.{List}
use Prim.Native.Nat.{ℕ, ◌≤◌, ◌<◌}
use native.Mathlib.Omega.{arith}
use lib.ListN.{length}
use Rattle.kernel.specs.Sizes.{task_count}
use Rattle.kernel.specs.Status.{queue_count}
use Rattle.kernel.specs.Kernel.{Bare, Kernel, queue, with_tasks}
use Rattle.kernel.specs.Good.{Queued, standing}
use Rattle.kernel.specs.Layout.{word, clock_at, stop_at, running_at, total_at, head_at, field, next_word, spare_word}
use Rattle.kernel.specs.Codes.{stop_of}
use Rattle.kernel.specs.Seen.{bare_in, seen}
use Rattle.kernel.specs.Form.{Formed}
use Rattle.kernel.specs.Sound.{LinksHold}
use Rattle.kernel.specs.Shows.{Shows}
use Rattle.words.proofs.Tables.{tabulate_same}
use Rattle.words.proofs.Seen.{bare_same, semaphores_same, channels_same, sessions_same}

-- But for heads, and the words of records from number a to the spare ones, the words are the same.
pub record Beside (a : ℕ) (w v : List ℕ) : Type 0 where
  pub long : length v ≡ length w
  pub kept : (j : ℕ) → ((q : ℕ) → q < queue_count → j ≡ head_at q → ⊥) → ((x f : ℕ) → x < task_count → a ≤ f → f < spare_word → j ≡ field x f → ⊥) → word v j ≡ word w j

pub unchanged : {a : ℕ} {w : List ℕ} → Beside a w w
unchanged = record { long = refl; kept = λ j nh nf. refl }

-- One write, and then another that leaves no more.
pub beside_both : {a b : ℕ} {w v u : List ℕ} → b ≤ a → Beside a w v → Beside b v u → Beside b w u
beside_both l s t = record { long = t.long ∙ s.long; kept = λ j nh nf. t.kept j nh nf ∙ s.kept j nh (λ x f lx lf. nf x f lx (omega arith)) }

module _ {w v : List ℕ} where
  -- Only links and heads are written: so the records stay.
  pub bare_beside : Beside next_word w v → (x : ℕ) → bare_in v x ≡ bare_in w x
  bare_beside s x = bare_same w v x (λ f l. s.kept (field x f) (λ q lq e. omega arith) (λ y g ly a b e. omega arith))

  pub tasks_beside : Beside next_word w v → (seen v).tasks ≡ (seen w).tasks
  tasks_beside s = tabulate_same task_count _ _ (λ x l. bare_beside s x)

  module _ {a : ℕ} (s : Beside a w v) where
    seen_beside : seen v ≡ with_tasks (seen w) (seen v).tasks (seen v).queues
    seen_beside =
        λ i.
        record {
          clock = number clock_at (omega arith) i;
          stop = stop_of (number stop_at (omega arith) i);
          running = number running_at (omega arith) i;
          total = number total_at (omega arith) i;
          tasks = (seen v).tasks;
          queues = (seen v).queues;
          semaphores = semaphores_same w v (λ j b c. s.kept j (λ q l e. omega arith) (λ x f l d g e. omega arith)) i;
          channels = channels_same w v (λ j b c. s.kept j (λ q l e. omega arith) (λ x f l d g e. omega arith)) i;
          sessions = sessions_same w v (λ j b c. s.kept j (λ q l e. omega arith) (λ x f l d g e. omega arith)) i;
        }
      where
        number : (j : ℕ) → j < head_at 0 → word v j ≡ word w j
        number j l = s.kept j (λ q lq e. omega arith) (λ x f lx c d e. omega arith)

    -- So where tasks, queues and links are a kernel's, the words show it.
    pub shows_beside : {ts : List Bare} {qs : List (List ℕ)} {k : Kernel} → (seen v).tasks ≡ ts → (seen v).queues ≡ qs → with_tasks (seen w) ts qs ≡ k
        → Formed w → LinksHold v (standing k) (queue k) → Queued k → Shows v k
    shows_beside {k = k} tasks queues rest f filed queued =
        record {
          kept = record {
            formed = record {
              long = s.long ∙ f.long;
              stop = subst (λ (n : ℕ). n ≤ 2) (sym (s.kept stop_at (λ q l e. omega arith) (λ x g l c d e. omega arith))) f.stop;
              spare = λ x g l b c. s.kept (field x g) (λ q lq e. omega arith) (λ y h ly d k e. omega arith) ∙ f.spare x g l b c;
            };
            filed = subst (λ (j : Kernel). LinksHold v (standing j) (queue j)) (sym is) filed;
            queues = subst Queued (sym is) queued;
          };
          is = is;
        }
      where
        is : seen v ≡ k
        is = seen_beside ∙ (λ i. with_tasks (seen w) (tasks i) (queues i)) ∙ rest

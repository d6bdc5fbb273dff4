-- What the tests decide one by one is, together, soundness. Assumes nothing.
use mathlib.Core.Path.{refl}
use mathlib.Core.Logic.{◌↔◌}
use mathlib.Core.List.{List}
use Prim.Native.Nat.{ℕ, ◌*◌, ◌<◌}
use Rattle.laws_chain.specs.Chain.{end}
use Rattle.laws_chain.proofs.Lists.{all_map, all_zip}
use Rattle.laws_chain.proofs.Stretch.{below, once}
use Rattle.kernel.specs.Sizes.{task_count, semaphore_count, channel_count}
use Rattle.kernel.specs.Status.{queue_count}
use Rattle.kernel.specs.Kernel.{task, queue}
use Rattle.kernel.specs.Good.{Sized, GoodTask, GoodSemaphore, GoodChannel, Runs, Shared, Clocked, Queued, standing}
use Rattle.kernel.specs.Seen.{next_in, previous_in, head_in, seen}
use Rattle.kernel.specs.Form.{Formed}
use Rattle.kernel.specs.Sound.{Filed, Sound}
use Rattle.words.proofs.Tables.{tabulate_length}
use Rattle.soundness.specs.Tests.{GoodQueue, FiledTask}

-- What each test decides.
pub record Parts (w : List ℕ) : Type 0 where
  pub formed : Formed w
  pub queues : (q : ℕ) → q < queue_count → GoodQueue w q
  pub filed : (x : ℕ) → x < task_count → FiledTask w x
  pub tasks : (x : ℕ) → x < task_count → GoodTask (seen w) x (task (seen w) x)
  pub runs : Runs (seen w)
  pub shared : Shared (seen w)
  pub semaphores : (s : ℕ) → s < semaphore_count → GoodSemaphore (seen w) s
  pub clocked : Clocked (seen w)
  pub channels : (c : ℕ) → c < channel_count → GoodChannel (seen w) c

module _ (w : List ℕ) where
  -- A chain holds tasks alone, and none twice: that needs no test of its own.
  listed : Parts w → Queued (seen w)
  listed p q l =
      let xs = queue (seen w) q in
      let chain = (p.queues q l).linked.whole in
      record {
        only = all_zip (λ x b e. (b, e)) xs (below task_count (next_in w) (previous_in w) end end (head_in w q) xs chain) (p.queues q l).sorted.only;
        all = λ x lx e. rw e at ((p.filed x lx).stands (rw e l));
        once = once task_count (next_in w) (previous_in w) end (head_in w q) xs chain;
        rising = (p.queues q l).sorted.rising;
      }

  -- **sound_decided**: the tests together say just that the words are sound. No clause is dropped on either side.
  pub sound_decided : Parts w ↔ Sound w
  sound_decided = (
    λ p.
        let sized : Sized (seen w) = record {
          tasks = tabulate_length task_count _;
          queues = tabulate_length queue_count _;
          semaphores = tabulate_length semaphore_count _;
          channels = tabulate_length channel_count _;
          sessions = tabulate_length (task_count * channel_count) _;
        } in
        let filed : Filed w = record { linked = λ q l. (p.queues q l).linked; alone_next = λ x l h. ((p.filed x l).loose h).next; alone_previous = λ x l h. ((p.filed x l).loose h).previous } in
        let queues = listed p in
        search,
    λ g.
        let queues : (q : ℕ) → q < queue_count → GoodQueue w q = λ q l.
        record { linked = g.filed.linked q l; sorted = record { only = all_map (λ x o. o.1) (queue (seen w) q) (g.good.queues q l).only; rising = (g.good.queues q l).rising } } in
        let filed : (x : ℕ) → x < task_count → FiledTask w x = λ x l.
        record {
          stands = λ h. (g.good.queues (standing (seen w) x) h).all x l refl;
          loose = λ h. record { next = g.filed.alone_next x l h; previous = g.filed.alone_previous x l h };
        } in
        search,
  )

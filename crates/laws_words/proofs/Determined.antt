-- Words in form whose queues are in order are determined by what is seen of them. Assumes nothing.
use mathlib.Core.Path.{◌≡◌, ap, sym, subst, ◌∙◌}
use mathlib.Core.List.{List}
use Prim.Native.Nat.{ℕ, zero, suc, ◌+◌, ◌<◌}
use native.Mathlib.Omega.{arith}
use lib.ListN.{get_or}
use lib.Seq.{ext_get_or}
use Rattle.laws_chain.proofs.Filing as Filing
use Rattle.kernel.specs.declared.Channel.{Channel}
use Rattle.kernel.specs.declared.Slot.{Slot}
use Rattle.kernel.specs.declared.Session.TheVariants.{Closed}
use Rattle.kernel.specs.Sizes.{task_count, channel_count}
use Rattle.kernel.specs.Status.{queue_count, stop_number}
use Rattle.kernel.specs.Kernel.{Bare, Kernel, task, queue, semaphore, channel, slot}
use Rattle.kernel.specs.Good.{standing}
use Rattle.kernel.specs.Layout.{word, heads_at, record_size, field, channel_at}
use Rattle.kernel.specs.Codes.{period_code, amount_code, status_of, status_code, semaphore_of, semaphore_code, latest_of, latest_code, session_of, session_code}
use Rattle.kernel.specs.Seen.{bare_in, next_in, previous_in, head_in, channel_in, seen}
use Rattle.kernel.specs.Sound.{LinksHold}
use Rattle.kernel.specs.Shows.{Shows}
use Rattle.kernel.proofs.Codes.{once, link_once, class_kept, status_kept, stop_kept, semaphore_kept, latest_kept, session_kept}
use Rattle.laws_words.proofs.Ranges.{Ranges, everywhere}
use Rattle.words.proofs.Seen.{task_seen, semaphore_seen, channel_seen, slot_seen}

module _ {a b : List ℕ} {k : Kernel} (g : Shows a k) (h : Shows b k) where
  abbrev Equal : ℕ → Type 0
  Equal j = word a j ≡ word b j

  e : seen a ≡ seen b
  e = g.is ∙ sym h.is

  links : ((x : ℕ) → x < task_count → (next_in a x ≡ next_in b x) × (previous_in a x ≡ previous_in b x)) × ((q : ℕ) → q < queue_count → head_in a q ≡ head_in b q)
  links =
      Filing.determined g.kept.filed
      (subst (λ (j : Kernel). LinksHold b (standing j) (queue j)) (sym e) h.kept.filed)
      g.kept.queues

  -- ---- range by range

  number : (j : ℕ) → j < heads_at → Equal j
  number zero l = ap (λ (j : Kernel). j.clock) e
  number (suc zero) l = sym (stop_kept _ g.kept.formed.stop) ∙ ap (λ (j : Kernel). stop_number j.stop) e ∙ stop_kept _ h.kept.formed.stop
  number (suc (suc zero)) l = ap (λ (j : Kernel). j.running) e
  number (suc (suc (suc zero))) l = ap (λ (j : Kernel). j.total) e
  number (suc (suc (suc (suc j)))) l = absurd (omega arith)

  same_task : (x : ℕ) → x < task_count → bare_in a x ≡ bare_in b x
  same_task x l = sym (task_seen a x l) ∙ ap (λ (j : Kernel). task j x) e ∙ task_seen b x l

  of_task : (x f : ℕ) → x < task_count → f < record_size → Equal (field x f)
  of_task x zero l lf = sym (class_kept _ _).0 ∙ ap (λ (c : Bare). period_code c.class) (same_task x l) ∙ (class_kept _ _).0
  of_task x (suc zero) l lf = sym (class_kept (word a (field x 0)) _).1 ∙ ap (λ (c : Bare). amount_code c.class) (same_task x l) ∙ (class_kept (word b (field x 0)) _).1
  of_task x (suc (suc zero)) l lf = once status_of (λ s. status_code s) status_kept _ _ (ap (λ (c : Bare). c.status) (same_task x l))
  of_task x (suc (suc (suc zero))) l lf = ap (λ (c : Bare). c.deadline) (same_task x l)
  of_task x (suc (suc (suc (suc zero)))) l lf = link_once _ _ (links.0 x l).0
  of_task x (suc (suc (suc (suc (suc zero))))) l lf = link_once _ _ (links.0 x l).1
  of_task x (suc (suc (suc (suc (suc (suc f)))))) l lf = g.kept.formed.spare x _ l (omega arith) lf ∙ sym (h.kept.formed.spare x _ l (omega arith) lf)

  same_channel : (c : ℕ) → c < channel_count → channel_in a c ≡ channel_in b c
  same_channel c l = sym (channel_seen a c l) ∙ ap (λ (j : Kernel). channel j c) e ∙ channel_seen b c l

  of_channel : (c f : ℕ) → c < channel_count → f < 3 → Equal (channel_at c + f)
  of_channel c zero l lf = ap (λ (z : Channel). z.size) (same_channel c l)
  of_channel c (suc zero) l lf = ap (λ (z : Channel). z.buffers) (same_channel c l)
  of_channel c (suc (suc zero)) l lf = once latest_of (λ z. latest_code z) latest_kept _ _ (ap (λ (z : Channel). z.latest) (same_channel c l))
  of_channel c (suc (suc (suc f))) l lf = absurd (omega arith)

  equal : Ranges Equal
  equal =
      record {
        numbers = number;
        heads = λ q l. link_once _ _ (links.1 q l);
        semaphores = λ s l. once semaphore_of (λ z. semaphore_code z) semaphore_kept _ _ (sym (semaphore_seen a s l) ∙ ap (λ (j : Kernel). semaphore j s) e ∙ semaphore_seen b s l);
        tasks = of_task;
        sessions = λ z l.
            once session_of (λ s. session_code s) session_kept _ _
            (ap (λ (s : Slot). s.session) (sym (slot_seen a z l) ∙ ap (λ (j : Kernel). get_or j.sessions z (slot Closed)) e ∙ slot_seen b z l));
        channels = of_channel;
      }

  -- **determined**: two lists of words that show one kernel are the same.
  pub determined : a ≡ b
  determined = ext_get_or 0 a b (g.kept.formed.long ∙ sym h.kept.formed.long) (λ j l. everywhere Equal equal j (omega (arith, g.kept.formed.long)))

-- What is seen again: which words a part of the kernel is seen in. Assumes nothing.
use mathlib.Core.Path.{◌≡◌, refl, ap, sym, subst, ◌∙◌}
use mathlib.Core.List.{List, [], ◌∷◌}
use mathlib.Core.Logic.{dite}
use Prim.Native.Nat.{ℕ, zero, suc, ◌+◌, ◌*◌, ◌≤◌, ◌<◌}
use native.Mathlib.Omega.{arith}
use native.Mathlib.Decide.{dec_lt}
use lib.IntN.{ℤ}
use lib.ListN.{length, get_or}
use Rattle.laws_chain.specs.Chain.{target, walk, end}
use Rattle.laws_chain.proofs.Walk.{walk_none, walk_some}
use Rattle.laws_chain.proofs.Lists.{all_map}
use Rattle.laws_chain.proofs.Stretch.{below, framed}
use Rattle.kernel.specs.Sizes.{task_count, semaphore_count, channel_count}
use Rattle.kernel.specs.Status.{queue_count}
use Rattle.kernel.specs.declared.Session.TheVariants.{Closed}
use Rattle.kernel.specs.declared.Slot.{Slot}
use Rattle.kernel.specs.Kernel.{Kernel, task, queue, semaphore, channel, session, blank, slot, slot_number, unused_semaphore, unused_channel, with_tasks}
use Rattle.kernel.specs.Good.{Queued, standing}
use Rattle.kernel.specs.Layout.{word, stop_at, heads_at, head_at, semaphores_at, semaphore_at, tasks_at, field, next_word, previous_word, spare_word, record_size, sessions_at, session_at, channels_at, channel_at, word_count}
use Rattle.kernel.specs.Codes.{link, class_of, status_of, semaphore_of, latest_of, session_of}
use Rattle.kernel.specs.Seen.{bare_in, next_in, previous_in, head_in, queue_in, semaphore_in, slot_in, channel_in, seen}
use Rattle.kernel.specs.Sound.{LinksHold}
use Rattle.kernel.specs.Shows.{Kept, Shows}
use Rattle.words.proofs.Tables.{tabulate_at, tabulate_past, tabulate_same}

module _ (w : List ℕ) (x : ℕ) where
  pub task_seen : x < task_count → task (seen w) x ≡ bare_in w x
  task_seen l = tabulate_at task_count (bare_in w) x blank l

  pub queue_seen : x < queue_count → queue (seen w) x ≡ queue_in w x
  queue_seen l = tabulate_at queue_count (queue_in w) x [] l

  pub semaphore_seen : x < semaphore_count → semaphore (seen w) x ≡ semaphore_in w x
  semaphore_seen l = tabulate_at semaphore_count (semaphore_in w) x unused_semaphore l

  pub channel_seen : x < channel_count → channel (seen w) x ≡ channel_in w x
  channel_seen l = tabulate_at channel_count (channel_in w) x unused_channel l

  pub slot_seen : x < task_count * channel_count → get_or (seen w).sessions x (slot Closed) ≡ slot_in w x
  slot_seen l = tabulate_at (task_count * channel_count) (slot_in w) x (slot Closed) l

  -- Past a table stands what stands for nothing.
  pub task_past : task_count ≤ x → task (seen w) x ≡ blank
  task_past l = tabulate_past task_count (bare_in w) x blank l

  pub queue_past : queue_count ≤ x → queue (seen w) x ≡ []
  queue_past l = tabulate_past queue_count (queue_in w) x [] l

  pub semaphore_past : semaphore_count ≤ x → semaphore (seen w) x ≡ unused_semaphore
  semaphore_past l = tabulate_past semaphore_count (semaphore_in w) x unused_semaphore l

  pub channel_past : channel_count ≤ x → channel (seen w) x ≡ unused_channel
  channel_past l = tabulate_past channel_count (channel_in w) x unused_channel l

-- The session of task t on channel c.
pub session_seen : (w : List ℕ) (c t : ℕ) → c < channel_count → t < task_count → session (seen w) c t ≡ (slot_in w (slot_number c t)).session
session_seen w c t lc lt = ap (λ (s : Slot). s.session) (slot_seen w (slot_number c t) (omega arith))

-- A walk looks at the links of tasks alone.
walk_same : (n : ℕ) (next next' : ℕ → ℤ) → ((x : ℕ) → x < n → next' x ≡ next x) → (most : ℕ) (head : ℤ) → walk n next' most head ≡ walk n next most head
unfolding walk
walk_same n next next' same zero head = refl
walk_same n next next' same (suc most) head =
    dite (dec_lt (target n head) n)
    (λ l.
    walk_some n next' most head l
    ∙ ap (λ (xs : List ℕ). target n head ∷ xs) (walk_same n next next' same most (next' (target n head)) ∙ ap (walk n next most) (same (target n head) l))
    ∙ sym (walk_some n next most head l))
    (λ ne. walk_none n next' (suc most) head (omega arith) ∙ sym (walk_none n next (suc most) head (omega arith)))

-- ---- the words from a to b are the same

abbrev pub Same : List ℕ → List ℕ → ℕ → ℕ → Type 0
Same w v a b = (j : ℕ) → a ≤ j → j < b → word v j ≡ word w j

module _ (w v : List ℕ) where
  -- The words that are read for a task's record.
  pub bare_same : (x : ℕ) → ((f : ℕ) → f < 4 → word v (field x f) ≡ word w (field x f)) → bare_in v x ≡ bare_in w x
  bare_same x h =
      λ i. record { class = class_of (h 0 (omega arith) i) (h 1 (omega arith) i); status = status_of (h 2 (omega arith) i); deadline = h 3 (omega arith) i }

  pub semaphores_same : Same w v semaphores_at tasks_at → (seen v).semaphores ≡ (seen w).semaphores
  semaphores_same same = tabulate_same semaphore_count _ _ (λ s l. ap semaphore_of (same (semaphore_at s) (omega arith) (omega arith)))

  pub sessions_same : Same w v sessions_at channels_at → (seen v).sessions ≡ (seen w).sessions
  sessions_same same = tabulate_same (task_count * channel_count) _ _ (λ z l. ap (λ (n : ℕ). slot (session_of n)) (same (session_at z) (omega arith) (omega arith)))

  -- The words that are read for a channel's record.
  pub channel_same : (c : ℕ) → ((f : ℕ) → f < 3 → word v (channel_at c + f) ≡ word w (channel_at c + f)) → channel_in v c ≡ channel_in w c
  channel_same c h = λ i. record { size = h 0 (omega arith) i; buffers = h 1 (omega arith) i; latest = latest_of (h 2 (omega arith) i) }

  pub channels_same : Same w v channels_at word_count → (seen v).channels ≡ (seen w).channels
  channels_same same = tabulate_same channel_count _ _ (λ c l. channel_same c (λ f lf. same (channel_at c + f) (omega arith) (omega arith)))

  -- Heads and links stay: so the queues stay.
  module _ (heads : Same w v heads_at semaphores_at) (links : (x f : ℕ) → x < task_count → next_word ≤ f → f < spare_word → word v (field x f) ≡ word w (field x f)) where
    next_same : (x : ℕ) → x < task_count → next_in v x ≡ next_in w x
    next_same x l = ap link (links x next_word l (omega arith) (omega arith))

    previous_same : (x : ℕ) → x < task_count → previous_in v x ≡ previous_in w x
    previous_same x l = ap link (links x previous_word l (omega arith) (omega arith))

    head_same : (q : ℕ) → q < queue_count → head_in v q ≡ head_in w q
    head_same q l = ap link (heads (head_at q) (omega arith) (omega arith))

    pub queues_kept : (seen v).queues ≡ (seen w).queues
    queues_kept =
        tabulate_same queue_count _ _
        (λ q l. walk_same task_count (next_in w) (next_in v) next_same task_count (head_in v q) ∙ ap (walk task_count (next_in w) task_count) (head_same q l))

    pub links_kept : (p : ℕ → ℕ) (qs : ℕ → List ℕ) → LinksHold w p qs → LinksHold v p qs
    links_kept p qs f =
        record {
          linked = λ q l.
              let s = (f.linked q l).whole in
              record {
                whole = rw (head_same q l)
                    (framed task_count _ _ (next_in v) (previous_in v) end end (head_in w q) (qs q)
                    (all_map (λ x lx. (next_same x lx, previous_same x lx)) (qs q) (below task_count _ _ end end (head_in w q) (qs q) s)) s);
              };
          alone_next = λ x l h. next_same x l ∙ f.alone_next x l h;
          alone_previous = λ x l h. previous_same x l ∙ f.alone_previous x l h;
        }

  module _ (heads : Same w v heads_at semaphores_at) (records : Same w v tasks_at sessions_at) where
    own : (x f : ℕ) → x < task_count → f < record_size → word v (field x f) ≡ word w (field x f)
    own x f l lf = records (field x f) (omega arith) (omega arith)

    own_links : (x f : ℕ) → x < task_count → next_word ≤ f → f < spare_word → word v (field x f) ≡ word w (field x f)
    own_links x f l a b = own x f l (omega arith)

    -- Heads and records stay: so the queues stay in order, whatever the other words become; and those alone are seen anew.
    pub rest_set : {k : Kernel} → length v ≡ length w → word v stop_at ≤ 2 → Kept w → with_tasks (seen v) (seen w).tasks (seen w).queues ≡ k → Shows v k
    rest_set long stop k e =
        record {
          kept = record {
            formed = record {
              long = long ∙ k.formed.long;
              stop = stop;
              spare = λ x f l a b. own x f l b ∙ k.formed.spare x f l a b;
            };
            filed = subst (λ (j : Kernel). LinksHold v (standing j) (queue j)) (sym same) (links_kept heads own_links _ _ k.filed);
            queues = subst Queued (sym same) k.queues;
          };
          is = same ∙ e;
        }
      where
        tasks_same : (seen v).tasks ≡ (seen w).tasks
        tasks_same = tabulate_same task_count _ _ (λ x l. bare_same x (λ f lf. own x f l (omega arith)))

        same : seen v ≡ with_tasks (seen v) (seen w).tasks (seen w).queues
        same = λ i. with_tasks (seen v) (tasks_same i) (queues_kept heads own_links i)

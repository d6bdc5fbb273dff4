-- Every good kernel is seen in words. Assumes nothing.
use mathlib.Core.Path.{◌≡◌, refl, ap, sym, subst, ◌∙◌}
use mathlib.Core.Bool.{cond}
use mathlib.Core.List.{List, [], ◌∷◌}
use mathlib.Core.Logic.{inl, dite}
use Prim.Native.Nat.{ℕ, zero, suc, ◌+◌, ◌-◌, ◌*◌, ◌/◌, ◌%◌, ◌≤◌, ◌<◌}
use native.Mathlib.Omega.{arith}
use native.Mathlib.Nat.{div-add-mod', mod-lt, mul_comm, add-sub_cancel_left}
use native.Mathlib.Decide.{ℕ_discrete, dec_lt}
use lib.ListN.{length, get_or, get_or-eq_default}
use lib.Seq.{ext_get_or}
use lib.Dec.{eqb, ltb}
use borrow.Author.Tests.{lt-ltb, le-ltb}
use lib.IntN.{ℤ, pos}
use Rattle.laws_chain.specs.Lists.{All}
use Rattle.laws_chain.specs.Chain.{end, start}
use Rattle.laws_chain.proofs.Lists.{all_map}
use Rattle.laws_chain.proofs.Stretch.{found}
use Rattle.laws_chain.proofs.Laid.{after, before, laid}
use Rattle.kernel.specs.declared.Class.{Class}
use Rattle.kernel.specs.declared.Class.TheVariants.{Nrt, Hard}
use Rattle.kernel.specs.declared.Session.TheVariants.{Closed}
use Rattle.kernel.specs.Sizes.{task_count, semaphore_count, channel_count, most_buffers}
use Rattle.kernel.specs.Status.{queue_count, stop_number}
use Rattle.kernel.specs.Kernel.{Kernel, task, queue, semaphore, channel, slot, slot_number, blank, unused_semaphore, unused_channel}
use Rattle.kernel.specs.Good.{Good, Opens, Fits, standing, Queued}
use Rattle.kernel.proofs.Decided.{either}
use Rattle.kernel.proofs.Places.{numbered}
use Rattle.kernel.proofs.Sizes.{sizes}
use Rattle.kernel.specs.Layout.{word, heads_at, head_at, semaphores_at, semaphore_at, tasks_at, record_size, field, spare_word, sessions_at, session_at, channels_at, channel_at, word_count}
use Rattle.kernel.specs.Codes.{link, link_code, Classed, class_of, period_code, amount_code, status_of, status_code, stop_of, semaphore_of, semaphore_code, latest_of, latest_code, session_of, session_code}
use Rattle.kernel.specs.Seen.{tabulate, bare_in, head_in, queue_in, seen}
use Rattle.kernel.specs.Sound.{LinksHold}
use Rattle.kernel.specs.Shows.{Shows}
use Rattle.kernel.proofs.Codes.{link_none, link_some, class_nrt, class_hard, status_read, stop_read, stop_small, semaphore_read, latest_read, session_read}
use Rattle.words.proofs.Tables.{tabulate_length, tabulate_at}

-- ---- a kernel's words

abbrev pub number : Kernel → ℕ → ℕ
number k zero = k.clock
number k (suc zero) = stop_number k.stop
number k (suc (suc zero)) = k.running
number k (suc (suc (suc j))) = k.total

abbrev pub of_task : Kernel → ℕ → ℕ → ℕ
of_task k x zero = period_code (task k x).class
of_task k x (suc zero) = amount_code (task k x).class
of_task k x (suc (suc zero)) = status_code (task k x).status
of_task k x (suc (suc (suc zero))) = (task k x).deadline
of_task k x (suc (suc (suc (suc zero)))) = link_code (after (queue k (standing k x)) x)
of_task k x (suc (suc (suc (suc (suc zero))))) = link_code (before end (queue k (standing k x)) x)
of_task k x (suc (suc (suc (suc (suc (suc f)))))) = 0

abbrev pub of_channel : Kernel → ℕ → ℕ → ℕ
of_channel k c zero = (channel k c).size
of_channel k c (suc zero) = (channel k c).buffers
of_channel k c (suc (suc f)) = latest_code (channel k c).latest

unfoldable pub code : Kernel → ℕ → ℕ
code k j =
    cond (ltb j heads_at) (number k j)
    (cond (ltb j semaphores_at) (link_code (start end (queue k (j - heads_at))))
    (cond (ltb j tasks_at) (semaphore_code (semaphore k (j - semaphores_at)))
    (cond (ltb j sessions_at) (of_task k ((j - tasks_at) / record_size) ((j - tasks_at) % record_size))
    (cond (ltb j channels_at) (session_code (get_or k.sessions (j - sessions_at) (slot Closed)).session)
    (of_channel k ((j - channels_at) / 3) ((j - channels_at) % 3))))))

unfoldable pub words_of : Kernel → List ℕ
words_of k = tabulate word_count (code k)

-- ---- what stands in them

-- A number that is told by quotient and remainder.
divided : (n c b : ℕ) → 0 < n → b < n → ((n * c + b) / n ≡ c) × ((n * c + b) % n ≡ b)
divided n c b pn l =
    let q = (n * c + b) / n in
    let r = (n * c + b) % n in
    let d : n * q + r ≡ n * c + b = omega (arith, div-add-mod' (n * c + b) n, mul_comm q n) in
    let same : q ≡ c = numbered n q r c b (mod-lt (n * c + b) pn) l d in
    (same, omega (arith, ap (λ (z : ℕ). n * z) same))

module _ (k : Kernel) where
  abbrev w : List ℕ
  w = words_of k

  at : (j : ℕ) → j < word_count → word w j ≡ code k j
  unfolding words_of
  at j l = tabulate_at word_count (code k) j 0 l

  pub number_at : (j : ℕ) → j < heads_at → word w j ≡ number k j
  unfolding code
  number_at j l = at j (omega arith) ∙ rw (lt-ltb j heads_at l) refl

  pub head_word : (q : ℕ) → q < queue_count → word w (head_at q) ≡ link_code (start end (queue k q))
  unfolding code
  head_word q l = at (head_at q) (omega arith) ∙ rw (le-ltb (head_at q) heads_at (omega arith), lt-ltb (head_at q) semaphores_at (omega arith), add-sub_cancel_left) refl

  pub semaphore_word : (s : ℕ) → s < semaphore_count → word w (semaphore_at s) ≡ semaphore_code (semaphore k s)
  unfolding code
  semaphore_word s l =
      at (semaphore_at s) (omega arith)
      ∙ rw (le-ltb (semaphore_at s) heads_at (omega arith), le-ltb (semaphore_at s) semaphores_at (omega arith), lt-ltb (semaphore_at s) tasks_at (omega arith), add-sub_cancel_left) refl

  pub task_word : (x f : ℕ) → x < task_count → f < record_size → word w (field x f) ≡ of_task k x f
  unfolding code
  task_word x f l lf =
      let j = field x f in
      let e : j - tasks_at ≡ record_size * x + f = omega arith in
      let d = divided record_size x f (omega arith) lf in
      at j (omega arith)
      ∙ rw (le-ltb j heads_at (omega arith), le-ltb j semaphores_at (omega arith), le-ltb j tasks_at (omega arith), lt-ltb j sessions_at (omega arith), e, d.0, d.1) refl

  pub session_word : (z : ℕ) → z < task_count * channel_count → word w (session_at z) ≡ session_code (get_or k.sessions z (slot Closed)).session
  unfolding code
  session_word z l =
      let j = session_at z in
      at j (omega arith)
      ∙ rw (le-ltb j heads_at (omega arith), le-ltb j semaphores_at (omega arith), le-ltb j tasks_at (omega arith), le-ltb j sessions_at (omega arith), lt-ltb j channels_at (omega arith), add-sub_cancel_left) refl

  pub channel_word : (c f : ℕ) → c < channel_count → f < 3 → word w (channel_at c + f) ≡ of_channel k c f
  unfolding code
  channel_word c f l lf =
      let j = channel_at c + f in
      let e : j - channels_at ≡ 3 * c + f = omega arith in
      let d = divided 3 c f (omega arith) lf in
      at j (omega arith)
      ∙ rw (le-ltb j heads_at (omega arith), le-ltb j semaphores_at (omega arith), le-ltb j tasks_at (omega arith), le-ltb j sessions_at (omega arith), le-ltb j channels_at (omega arith), e, d.0, d.1) refl

-- ---- links between tasks

abbrev pub Tasks : List ℕ → Type 0
Tasks xs = All (λ (x : ℕ). x < task_count) xs

-- What -1 and each link to a task have, every link of a list of tasks has.
module _ (P : ℤ → Type 0) (at_end : P end) (at_task : (x : ℕ) → x < task_count → P (pos x)) where
  pub start_has : (xs : List ℕ) → Tasks xs → P (start end xs)
  start_has [] a = at_end
  start_has (x ∷ xs) a = at_task x a.0

  pub after_has : (xs : List ℕ) (i : ℕ) → Tasks xs → P (after xs i)
  after_has [] i a = at_end
  after_has (x ∷ xs) i a = either P (eqb x i) (λ e. start_has xs a.1) (λ e. after_has xs i a.1)

  pub before_has : (back : ℤ) (xs : List ℕ) (i : ℕ) → P back → Tasks xs → P (before back xs i)
  before_has back [] i z a = at_end
  before_has back (x ∷ xs) i z a = either P (eqb x i) (λ e. z) (λ e. before_has (pos x) xs i (at_task x a.0) a.1)

-- It is read again.
abbrev Again : ℤ → Type 0
Again z = link (link_code z) ≡ z

task_again : (x : ℕ) → x < task_count → Again (pos x)
task_again x l = link_some x (omega arith)

-- ---- a good kernel is seen in its words

module _ (k : Kernel) (g : Good k) where
  abbrev ws : List ℕ
  ws = words_of k

  -- Task 0 is NRT, and others keep the sizes: a period is never 0.
  class_again : (x : ℕ) → x < task_count → Classed (task k x).class
  class_again x l =
      dite (ℕ_discrete x 0) (λ e. let m = (g.tasks x l).main_or_sized.main_class e in rw m (class_nrt _)) (λ ne. fits (task k x).class ((g.tasks x l).main_or_sized.fits ne))
    where
      fits : (c : Class) → Fits c → Classed c
      fits (Nrt p) h = class_nrt p
      fits (Hard p c) h = class_hard p c (sizes h).some_period

  bare_again : (x : ℕ) → x < task_count → bare_in ws x ≡ task k x
  bare_again x l =
      (λ i.
      record {
        class = class_of (task_word k x 0 l (omega arith) i) (task_word k x 1 l (omega arith) i);
        status = status_of (task_word k x 2 l (omega arith) i);
        deadline = task_word k x 3 l (omega arith) i;
      })
      ∙ (λ i. record { class = class_again x l i; status = status_read (task k x).status i; deadline = (task k x).deadline })

  -- No channel has more buffers than channels can have.
  pub few_buffers : (c : ℕ) → c < channel_count → (channel k c).buffers ≤ most_buffers
  few_buffers c l = dite (dec_lt 0 (channel k c).size) (λ u. ((g.channels c l).used u).most) (λ u. omega (arith, ((g.channels c l).unused (omega arith)).buffers))

  -- So no session names another.
  pub few : (z b : ℕ) → z < task_count * channel_count → Opens (get_or k.sessions z (slot Closed)).session b → b < most_buffers
  few z b l o =
      let c = z / task_count in
      let t = z % task_count in
      let d : c * task_count + t ≡ z = div-add-mod' z task_count in
      let lt : t < task_count = mod-lt z (omega arith) in
      let lc : c < channel_count = omega arith in
      let n : z ≡ slot_number c t = omega arith in
      let named = ((g.channels c lc).sessions t b lt (subst (λ (y : ℕ). Opens (get_or k.sessions y (slot Closed)).session b) n o)).named in
      omega (arith, few_buffers c lc, named)

  no_queue : (q : ℕ) → queue_count ≤ q → queue k q ≡ []
  no_queue q l = get_or-eq_default k.queues [] (omega (arith, g.sized.queues))

  pub tasks_of : (q : ℕ) → Tasks (queue k q)
  tasks_of q = dite (dec_lt q queue_count) (λ l. all_map (λ x o. o.0) (queue k q) (g.queues q l).only) (λ ne. let e : queue k q ≡ [] = no_queue q (omega arith) in rw e tt)

  holds : LinksHold ws (standing k) (queue k)
  holds =
      laid g.queues no_queue
      (λ x l. (
        ap link (task_word k x 4 l (omega arith)) ∙ after_has Again link_none task_again (queue k (standing k x)) x (tasks_of (standing k x)),
        ap link (task_word k x 5 l (omega arith)) ∙ before_has Again link_none task_again end (queue k (standing k x)) x link_none (tasks_of (standing k x)),
      ))
      (λ q l. ap link (head_word k q l) ∙ start_has Again link_none task_again (queue k q) (tasks_of q))

  -- A list is that of its entries.
  entries : {A : Type 0} (n : ℕ) (f : ℕ → A) (l : List A) (d : A) → length l ≡ n → ((x : ℕ) → x < n → f x ≡ get_or l x d) → tabulate n f ≡ l
  entries n f l d long h =
      ext_get_or d (tabulate n f) l (tabulate_length n f ∙ sym long) (λ x lx. let lt : x < n = omega (arith, tabulate_length n f) in tabulate_at n f x d lt ∙ h x lt)

  is : seen ws ≡ k
  is =
      λ i.
      record {
        clock = number_at k 0 (omega arith) i;
        stop = (ap stop_of (number_at k 1 (omega arith)) ∙ stop_read k.stop) i;
        running = number_at k 2 (omega arith) i;
        total = number_at k 3 (omega arith) i;
        tasks = entries task_count (bare_in ws) k.tasks blank g.sized.tasks bare_again i;
        queues = entries queue_count (queue_in ws) k.queues [] g.sized.queues (λ q l. found task_count _ _ end (head_in ws q) (queue k q) (holds.linked q l).whole) i;
        semaphores =
            entries semaphore_count _ k.semaphores unused_semaphore g.sized.semaphores
            (λ s l. ap semaphore_of (semaphore_word k s l) ∙ semaphore_read (semaphore k s) (g.semaphores s l).unused_count) i;
        channels =
            entries channel_count _ k.channels unused_channel g.sized.channels
            (λ c l. λ n.
            record {
              size = channel_word k c 0 l (omega arith) n;
              buffers = channel_word k c 1 l (omega arith) n;
              latest = (ap latest_of (channel_word k c 2 l (omega arith)) ∙ latest_read (channel k c).latest) n;
            }) i;
        sessions =
            entries (task_count * channel_count) _ k.sessions (slot Closed) g.sized.sessions (λ z l. ap slot (ap session_of (session_word k z l) ∙ session_read _ (λ b e. few z b l (inl e)))) i;
      }

  -- **shown**: every good kernel is seen in words, and those are sound.
  pub shown : Shows ws k
  unfolding words_of
  shown =
      record {
        kept = record {
          formed = record {
            long = tabulate_length word_count (code k);
            stop = rw (number_at k 1 (omega arith)) (stop_small k.stop);
            spare = λ x f l a b. let e : f ≡ suc (suc (suc (suc (suc (suc (f - spare_word)))))) = omega arith in task_word k x f l b ∙ rw e refl;
          };
          filed = subst (λ (j : Kernel). LinksHold ws (standing j) (queue j)) (sym is) holds;
          queues = subst Queued (sym is) g.queues;
        };
        is = is;
      }

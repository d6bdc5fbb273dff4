-- Whether words are sound is decided, clause by clause. Assumes nothing.
use mathlib.Core.Path.{◌≡◌, refl, ap, sym, subst, ◌∙◌}
use mathlib.Core.Bool.{true, Bool-discrete, false≢true}
use mathlib.Core.Logic.Dec
use mathlib.Core.Logic.{inl, inr, ⊎_elim}
use mathlib.Core.List.{List, [], ◌∷◌}
use Prim.Native.Nat.{ℕ, ◌≤◌, ◌<◌}
use native.Mathlib.Omega.{arith}
use native.Mathlib.Decide.{ℕ_discrete, dec_le, dec_lt, map_dec}
use lib.IntN.{ℤ, pos, ℤ_discrete}
use lib.ListN.{length}
use Rattle.laws_chain.specs.Lists.{Among, Once, Rising}
use Rattle.laws_chain.specs.Chain.{end, Stretch, Chain}
use Rattle.laws_chain.specs.Filing.{Queue}
use Rattle.kernel.specs.declared.Class.{Class}
use Rattle.kernel.specs.declared.Class.TheVariants.{Nrt, Hard}
use Rattle.kernel.specs.declared.Status.{Status}
use Rattle.kernel.specs.declared.Status.TheVariants.{Free, Sleep, Exe, Ready, Idle, Zombie, Wait}
use Rattle.kernel.specs.declared.Semaphore.{Semaphore}
use Rattle.std.specs.declared.option.Option.{Option}
use Rattle.std.specs.Prelude.{None, Some}
use Rattle.kernel.specs.declared.Session.{Session}
use Rattle.kernel.specs.declared.Session.TheVariants.{Closed, Write, Reading}
use Rattle.kernel.specs.Sizes.{task_count, semaphore_count, channel_count, fitting, last_priority}
use Rattle.kernel.specs.Status.{status_number, queue_count, ready_queue, waiters}
use Rattle.kernel.specs.Kernel.{Bare, Kernel, task, queue, semaphore, channel, session, hard}
use Rattle.kernel.specs.Good.{Sized, Fits, Timely, Names, MainOrSized, Suited, GoodTask, NoLater, Runs, Shared, Counted, Unused, Used, Opens, GoodSession, GoodChannel, Clocked, Good, standing, deadline_of}
use Rattle.kernel.specs.Layout.{word, stop_at, record_size, field, spare_word, word_count}
use Rattle.kernel.specs.Seen.{next_in, previous_in, head_in, seen}
use Rattle.kernel.specs.Form.{Formed}
use Rattle.kernel.specs.Sound.{Filed, Sound}
use Rattle.laws_promises.proofs.Decisions.{never, part, where_so, exactly_where, one_or_other, each_below, each_of}

-- A record is decided as its fields together are.
by_fields : {A R : Type 0} → (R → A) → Dec A → (A → R) → Dec R
by_fields fields d made = map_dec made fields d

both : {A B R : Type 0} → (R → A) → (R → B) → R → A × B
both f g r = (f r, g r)

-- What is decided of numbers, flags, and what is made of such.
ruleset deciding = (ℕ_discrete, dec_le, dec_lt, Bool-discrete, Dec.and, never, where_so, exactly_where, one_or_other)

-- ---- queues and links

among? : (i : ℕ) (xs : List ℕ) → Dec (Among i xs)
among? i [] = never
among? i (x ∷ xs) = one_or_other (ℕ_discrete x i) (among? i xs)

once? : (xs : List ℕ) → Dec (Once xs)
once? [] = yes tt
once? (x ∷ xs) = Dec.and (each_of (λ y. where_so (ℕ_discrete x y) never) xs) (once? xs)

rising? : (deadline : ℕ → ℕ) (xs : List ℕ) → Dec (Rising deadline xs)
rising? deadline [] = yes tt
rising? deadline (x ∷ xs) = Dec.and (each_of (λ y. dec_le (deadline x) (deadline y)) xs) (rising? deadline xs)

queue? : (n : ℕ) (standing deadline : ℕ → ℕ) (q : ℕ) (xs : List ℕ) → Dec (Queue n standing deadline q xs)
queue? n standing deadline q xs =
    let only = each_of (λ x. Dec.and (dec_lt x n) (ℕ_discrete (standing x) q)) xs in
    let all = each_below n (λ x. where_so (ℕ_discrete (standing x) q) (among? x xs)) in
    by_fields (λ r. (r.only, (r.all, (r.once, r.rising)))) (Dec.and only (Dec.and all (Dec.and (once? xs) (rising? deadline xs)))) (λ h. search)

stretch? : (n : ℕ) (next previous : ℕ → ℤ) (back head : ℤ) (xs : List ℕ) → Dec (Stretch n next previous end back head xs)
stretch? n next previous back head [] = ℤ_discrete head end
stretch? n next previous back head (x ∷ xs) =
    by_fields (λ s. (s.0, (s.1, (s.2, s.3))))
    (Dec.and (dec_lt x n) (Dec.and (ℤ_discrete head (pos x)) (Dec.and (ℤ_discrete (previous x) back) (stretch? n next previous (pos x) (next x) xs)))) (λ h. search)

filed? : (w : List ℕ) → Dec (Filed w)
filed? w =
    let next = next_in w in
    let previous = previous_in w in
    let alone : (link : ℕ → ℤ) → Dec ((x : ℕ) → x < task_count → queue_count ≤ standing (seen w) x → link x ≡ end) =
    λ link. each_below task_count (λ x. where_so (dec_le queue_count (standing (seen w) x)) (ℤ_discrete (link x) end)) in
    let chain : (q : ℕ) → Dec (Chain task_count next previous (head_in w q) (queue (seen w) q)) =
    λ q. map_dec (λ whole. record { whole = whole }) (λ c. c.whole) (stretch? task_count next previous end (head_in w q) (queue (seen w) q)) in
    by_fields (λ r. (r.linked, (r.alone_next, r.alone_previous))) (Dec.and (each_below queue_count chain) (Dec.and (alone next) (alone previous))) (λ h. search)

-- ---- tasks

nrt? : (c : Class) (p : ℕ) → Dec (c ≡ Nrt p)
nrt? (Hard a b) p = no (λ e. false≢true (sym (ap hard e)))
nrt? (Nrt a) p = map_dec (ap Nrt) (λ e. cc) (ℕ_discrete a p)

fits? : (c : Class) → Dec (Fits c)
fits? (Hard p c) = Bool-discrete (fitting p c) true
fits? (Nrt p) = dec_le p last_priority

main_or_sized? : (x : ℕ) (c : Class) (n : ℕ) → Dec (MainOrSized x c n)
main_or_sized? x c n = by_fields (both (λ r. r.main_class) (both (λ r. r.main_status) (λ r. r.fits))) (search (deciding, nrt?, fits? c)) (λ h. search)

timely? : (clock : ℕ) (c : Class) (n d : ℕ) → Dec (Timely clock c n d)
timely? clock (Hard p c) n d = search deciding
timely? clock (Nrt p) n d = search deciding

suited? : (c : Class) (n : ℕ) → Dec (Suited c n)
suited? c n = by_fields (both (λ r. r.free) (both (λ r. r.hard_never_waits) (both (λ r. r.idle_hard) (λ r. r.zombie_hard)))) (search (deciding, nrt?)) (λ h. search)

names? : (k : Kernel) (t : Status) → Dec (Names k t)
names? k (Wait s) = Dec.and (dec_lt s.0 semaphore_count) (Bool-discrete (semaphore k s.0).used true)
names? k Free = yes tt
names? k Sleep = yes tt
names? k Exe = yes tt
names? k Ready = yes tt
names? k Idle = yes tt
names? k Zombie = yes tt

task? : (k : Kernel) (x : ℕ) (a : Bare) → Dec (GoodTask k x a)
task? k x a =
    let n = status_number a.status in
    by_fields (both (λ r. r.exe) (both (λ r. r.main_or_sized) (both (λ r. r.timely) (both (λ r. r.suited) (both (λ r. r.waits) (λ r. r.idle_ahead))))))
    (search (deciding, main_or_sized?, timely? k.clock a.class n a.deadline, suited?, names? k a.status) depth 9) (λ h. search)

-- ---- the running task, shares, the clock

no_later? : (k : Kernel) (d : ℕ) (xs : List ℕ) → Dec (NoLater k d xs)
no_later? k d [] = yes tt
no_later? k d (x ∷ xs) = dec_le d (task k x).deadline

runs? : (k : Kernel) → Dec (Runs k)
runs? k =
    let a = task k k.running in
    by_fields (both (λ r. r.running) (both (λ r. r.earliest) (λ r. r.in_time))) (search (deciding, no_later? k a.deadline (queue k ready_queue))) (λ h. search)

shared? : (k : Kernel) → Dec (Shared k)
shared? k = by_fields (both (λ r. r.total_is) (λ r. r.total_fits)) (search deciding) (λ h. search)

clocked? : (k : Kernel) → Dec (Clocked k)
clocked? k = by_fields (both (λ r. r.clock) (λ r. r.expired)) (search deciding) (λ h. search)

-- ---- semaphores

empty? : (xs : List ℕ) → Dec (xs ≡ [])
empty? [] = yes refl
empty? (x ∷ xs) = no (λ e. omega (arith, ap length e))

counted? : {none : Type 0} (a : Semaphore) → Dec none → Dec (Counted a none)
counted? a d = by_fields (both (λ r. r.fits) (both (λ r. r.counting) (both (λ r. r.unused_count) (λ r. r.unused_waiters)))) (search deciding) (λ h. search)

-- ---- channels

-- What differs by its kind is not equal: congruence leads to this.
clash : ◌≡◌ {A = ℕ} 0 1 → ⊥
clash e = omega arith

closed? : (z : Session) → Dec (z ≡ Closed)
closed? Closed = yes refl
closed? (Write b) = no (λ e. clash cc)
closed? (Reading b) = no (λ e. clash cc)

nothing? : (l : Option ℕ) → Dec (l ≡ None)
nothing? None = yes refl
nothing? (Some b) = no (λ e. clash cc)

-- A clause on the buffer that is named, whichever it is: it is the one that stands there.
module _ {P : ℕ → Type 0} (d : (b : ℕ) → Dec (P b)) where
  latest? : (l : Option ℕ) → Dec ((b : ℕ) → l ≡ Some b → P b)
  latest? None = yes (λ b e. absurd (clash cc))
  latest? (Some a) = map_dec (λ p b e. let w : a ≡ b = cc in subst P w p) (λ f. f a refl) (d a)

  writes? : (z : Session) → Dec ((b : ℕ) → z ≡ Write b → P b)
  writes? Closed = yes (λ b e. absurd (clash cc))
  writes? (Write a) = map_dec (λ p b e. let w : a ≡ b = cc in subst P w p) (λ f. f a refl) (d a)
  writes? (Reading a) = yes (λ b e. absurd (clash cc))

  reads? : (z : Session) → Dec ((b : ℕ) → z ≡ Reading b → P b)
  reads? Closed = yes (λ b e. absurd (clash cc))
  reads? (Write a) = yes (λ b e. absurd (clash cc))
  reads? (Reading a) = map_dec (λ p b e. let w : a ≡ b = cc in subst P w p) (λ f. f a refl) (d a)

  opens? : (z : Session) → Dec ((b : ℕ) → Opens z b → P b)
  opens? z =
      part (λ f b e. f b (inl e)) (writes? z) λ writes.
      part (λ f b e. f b (inr e)) (reads? z) λ reads.
      yes (λ b. ⊎_elim (writes b) (reads b))

unused? : (k : Kernel) (c : ℕ) → Dec (Unused k c)
unused? k c = by_fields (both (λ r. r.buffers) (both (λ r. r.latest) (λ r. r.sessions))) (search (deciding, nothing?, each_below task_count (λ t. closed? (session k c t)))) (λ h. search)

used? : (k : Kernel) (c : ℕ) → Dec (Used k c)
used? k c = by_fields (both (λ r. r.size) (both (λ r. r.fewest) (λ r. r.most))) (search deciding) (λ h. search)

session? : (n b buffers : ℕ) → Dec (GoodSession n b buffers)
session? n b buffers = by_fields (both (λ r. r.not_free) (both (λ r. r.not_zombie) (λ r. r.named))) (search deciding) (λ h. search)

channel? : (k : Kernel) (c : ℕ) → Dec (GoodChannel k c)
channel? k c =
    let h = channel k c in
    let z = session k c in
    let other : (a b : ℕ) → Dec (a ≡ b → ⊥) = λ a b. where_so (ℕ_discrete a b) never in
    part (λ r. r.unused) (where_so (ℕ_discrete h.size 0) (unused? k c)) λ unused.
    part (λ r. r.used) (where_so (dec_lt 0 h.size) (used? k c)) λ used.
    part (λ r. r.latest) (latest? (λ b. dec_lt b h.buffers) h.latest) λ latest.
    part (λ r t l b. r.sessions t b l) (each_below task_count (λ t. opens? (λ b. session? (status_number (task k t).status) b h.buffers) (z t))) λ sessions.
    part (λ r t l b p u m a q e. r.one_writer t u b l m p (q ∙ ap Write e))
    (each_below task_count (λ t. writes? (λ b. each_below task_count (λ u. writes? (λ a. where_so (ℕ_discrete a b) (ℕ_discrete t u)) (z u))) (z t))) λ one_writer.
    part (λ r t l b p a q e. r.not_latest t b l p (q ∙ ap Some e)) (each_below task_count (λ t. writes? (λ b. latest? (λ a. other a b) h.latest) (z t))) λ not_latest.
    part (λ r t l b p u m a q e. r.not_read t u b l m p (q ∙ ap Reading e))
    (each_below task_count (λ t. writes? (λ b. each_below task_count (λ u. reads? (λ a. other a b) (z u))) (z t))) λ not_read.
    part (λ r t l b. r.put_first t b l) (each_below task_count (λ t. reads? (λ b. where_so (nothing? h.latest) never) (z t))) λ put_first.
    yes
    (record {
      unused = unused;
      used = used;
      latest = latest;
      sessions = λ t b l. sessions t l b;
      one_writer = λ t u b l m p q. one_writer t l b p u m b q refl;
      not_latest = λ t b l p q. not_latest t l b p b q refl;
      not_read = λ t u b l m p q. not_read t l b p u m b q refl;
      put_first = λ t b l. put_first t l b;
    })

-- ---- all of it

formed? : (w : List ℕ) → Dec (Formed w)
formed? w =
    part (λ r. r.long) (ℕ_discrete (length w) word_count) λ long.
    part (λ r. r.stop) (dec_le (word w stop_at) 2) λ stop.
    part (λ r x l f m s. r.spare x f l s m) (each_below task_count (λ x. each_below record_size (λ f. where_so (dec_le spare_word f) (ℕ_discrete (word w (field x f)) 0)))) λ spare.
    yes (record { long = long; stop = stop; spare = λ x f l s m. spare x l f m s })

sized? : (k : Kernel) → Dec (Sized k)
sized? k = by_fields (both (λ r. r.tasks) (both (λ r. r.queues) (both (λ r. r.semaphores) (both (λ r. r.channels) (λ r. r.sessions))))) (search deciding) (λ h. search)

good? : (k : Kernel) → Dec (Good k)
good? k =
    let tasks = each_below task_count (λ x. task? k x (task k x)) in
    let queues = each_below queue_count (λ q. queue? task_count (standing k) (deadline_of k) q (queue k q)) in
    let semaphores = each_below semaphore_count (λ s. counted? (semaphore k s) (empty? (queue k (waiters s)))) in
    let channels = each_below channel_count (channel? k) in
    by_fields (λ r. (r.sized, (r.runs, (r.shared, (r.clocked, (r.tasks, (r.queues, (r.semaphores, r.channels))))))))
    (Dec.and (sized? k) (Dec.and (runs? k) (Dec.and (shared? k) (Dec.and (clocked? k) (Dec.and tasks (Dec.and queues (Dec.and semaphores channels))))))) (λ h. search)

-- **sound?**: words are sound or not, whatever they are.
pub sound? : (w : List ℕ) → Dec (Sound w)
sound? w = by_fields (λ r. (r.formed, (r.filed, r.good))) (Dec.and (formed? w) (Dec.and (filed? w) (good? (seen w)))) (λ h. search)

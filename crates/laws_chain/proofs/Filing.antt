-- Many queues through one table: a task goes from one to another, and the rest stay as they were. Assumes nothing.
use mathlib.Core.Path.{◌≡◌, refl, ap, sym, ◌∙◌}
use mathlib.Core.Bool.{Bool, cond}
use mathlib.Core.List.{List, [], ◌∷◌, ◌++◌}
use Prim.Native.Nat.{ℕ, ◌≤◌, ◌<◌}
use native.Mathlib.Omega.{arith}
use native.Mathlib.Decide.{dec_lt, ℕ_discrete}
use lib.IntN.{ℤ, pos}
use lib.Dec.{leb, eqb}
use borrow.Author.Tests.{eq-eqb, ne_eqb}
use Rattle.laws_chain.specs.Lists.{All, Among, Once, Rising, insert, remove}
use Rattle.laws_chain.specs.Chain.{end, start, finish, Chain, Gap}
use Rattle.laws_chain.specs.Filing.{Queue, Filed}
use Rattle.laws_chain.proofs.Lists.{Absent, More, all_map, all_zip, all_left, all_right, all_among, more_all, less_all, more_here, more_among, less_among, more_once, less_once, less_rising, rising_same, removed, remove_absent, inserted, insert_rising}
use Rattle.laws_chain.proofs.Stretch.{no_task, framed, same_links}
use Rattle.laws_chain.proofs.Splice.{Relinked, Written, kept, neighbours, gone, come}

-- ---- the lists

-- A task of another queue does not stand in this one.
pub absent : {n : ℕ} {standing deadline : ℕ → ℕ} {q : ℕ} {xs : List ℕ} (i : ℕ) → Queue n standing deadline q xs → (standing i ≡ q → ⊥) → Absent i xs
absent {standing = standing} {xs = xs} i k ne = all_map (λ x o e. ne (ap standing e ∙ o.1)) xs k.only

-- The places where task i stands in no queue.
abbrev pub loosened : ℕ → ℕ → (ℕ → ℕ) → ℕ → ℕ
loosened m i standing x = cond (eqb x i) m (standing x)

pub loose_here : (m i : ℕ) (standing : ℕ → ℕ) → m ≤ loosened m i standing i
loose_here m i standing = rw (eq-eqb i i refl) (omega arith)

pub loose_there : (m i : ℕ) (standing : ℕ → ℕ) (x : ℕ) → (x ≡ i → ⊥) → loosened m i standing x ≡ standing x
loose_there m i standing x ne = rw (ne_eqb x i ne)

-- Task i takes another place and another deadline; the others keep theirs.
module _ {n : ℕ} {standing deadline place' deadline' : ℕ → ℕ} {i q : ℕ} {xs : List ℕ} (k : Queue n standing deadline q xs)
    (places : (x : ℕ) → (x ≡ i → ⊥) → place' x ≡ standing x) (deadlines : (x : ℕ) → (x ≡ i → ⊥) → deadline' x ≡ deadline x) where
  -- A list without i, of the tasks that stay here.
  stays : (ys : List ℕ) → (place' i ≡ q → ⊥) → Absent i ys → All (λ (x : ℕ). (x < n) × (standing x ≡ q)) ys → ((x : ℕ) → (x ≡ i → ⊥) → Among x xs → Among x ys) → Once ys → Rising deadline ys
      → Queue n place' deadline' q ys
  stays ys ne a only all once rising =
      record {
        only = all_zip (λ x n o. (o.0, places x (λ e. n (sym e)) ∙ o.1)) ys a only;
        all = λ x l e. let n : x ≡ i → ⊥ = λ z. ne (ap place' (sym z) ∙ e) in all x n (k.all x l (sym (places x n) ∙ e));
        once = once;
        rising = rising_same deadline deadline' ys (all_map (λ x n. deadlines x (λ e. n (sym e))) ys a) rising;
      }

  -- It does not come here, whether it stood here or not.
  pub queue_left : i < n → (place' i ≡ q → ⊥) → Queue n place' deadline' q (remove i xs)
  queue_left l ne = go (ℕ_discrete (standing i) q)
    where
      go : Dec (standing i ≡ q) → Queue n place' deadline' q (remove i xs)
      go (yes e) =
          let m = removed i xs (k.all i l e) in
          let o = less_once m k.once in
          stays (remove i xs) ne o.0 (less_all m _ k.only) (less_among m) o.1 (less_rising m deadline k.rising)
      go (no e) = let a = absent i k e in rw (remove_absent i xs a) (stays xs ne a k.only (λ x n m. m) k.once k.rising)

  -- It comes here, behind those of a deadline no later than its own.
  pub queue_joined : (passes : ℕ → Bool) → ((x : ℕ) → passes x ≡ leb (deadline x) (deadline' i)) → i < n → (standing i ≡ q → ⊥) → place' i ≡ q → Queue n place' deadline' q (insert passes i xs)
  queue_joined passes p l ne e =
      let m = inserted passes i xs in
      let a = absent i k ne in
      let same : All (λ (x : ℕ). deadline' x ≡ deadline x) xs = all_map (λ x n. deadlines x (λ z. n (sym z))) xs a in
      record {
        only = more_all m (λ (x : ℕ). (x < n) × (place' x ≡ q)) (l, e) (all_zip (λ x n o. (o.0, places x (λ z. n (sym z)) ∙ o.1)) xs a k.only);
        all = λ x lx ex. here m x lx ex (ℕ_discrete x i);
        once = more_once m a k.once;
        rising = insert_rising deadline' passes i xs (all_map (λ x d. p x ∙ ap (λ (y : ℕ). leb y (deadline' i)) (sym d)) xs same) (rising_same deadline deadline' xs same k.rising);
      }
    where
      here : More i (insert passes i xs) xs → (x : ℕ) → x < n → place' x ≡ q → Dec (x ≡ i) → Among x (insert passes i xs)
      here m x lx ex (yes z) = rw z (more_here m)
      here m x lx ex (no n) = more_among m x (k.all x lx (sym (places x n) ∙ ex))

-- ---- the links

module _ {n m : ℕ} {standing place' : ℕ → ℕ} {next previous head next' previous' head' : ℕ → ℤ} {queue queue' : ℕ → List ℕ} (f : Filed n m standing next previous head queue)
    (i p : ℕ) (only : (q : ℕ) → q < m → All (λ (x : ℕ). (standing x ≡ q) × (q < m)) (queue q)) (places : (x : ℕ) → (x ≡ i → ⊥) → place' x ≡ standing x)
    (others : (q : ℕ) → q < m → (q ≡ p → ⊥) → (head' q ≡ head q) × (queue' q ≡ queue q) × Absent i (queue q))
    (alone : m ≤ place' i → (next' i ≡ end) × (previous' i ≡ end)) where
  -- Between the tasks us and vs of queue p the links are turned, and queue p is right: then all is.
  refiled : {before after v w : ℤ} (us vs : List ℕ) → before ≡ finish end us → after ≡ start end vs → Relinked n i before after v w next previous next' previous'
      → All (λ (x : ℕ). (standing x ≡ p) × (p < m)) us → All (λ (x : ℕ). (standing x ≡ p) × (p < m)) vs
      → (p < m → Chain n next' previous' (head' p) (queue' p)) → Filed n m place' next' previous' head' queue'
  refiled us vs eb ea r pu pv c =
      record {
        linked = λ q l. chain q l (ℕ_discrete q p);
        alone_next = λ x l h. (free x l h (ℕ_discrete x i)).0;
        alone_previous = λ x l h. (free x l h (ℕ_discrete x i)).1;
      }
    where
      off : (x : ℕ) → (standing x ≡ p → p < m → ⊥) → (zs : List ℕ) → All (λ (x : ℕ). (standing x ≡ p) × (p < m)) zs → Absent x zs
      off x ne zs a = all_map (λ y o e. ne (ap standing e ∙ o.0) o.1) zs a

      as_was : (x : ℕ) → (i ≡ x → ⊥) → (standing x ≡ p → p < m → ⊥) → (next' x ≡ next x) × (previous' x ≡ previous x)
      as_was x ni ne = kept r us vs eb ea x ni (off x ne us pu) (off x ne vs pv)

      chain : (q : ℕ) → q < m → Dec (q ≡ p) → Chain n next' previous' (head' q) (queue' q)
      chain q l (yes e) = rw e (c (rw (sym e) l))
      chain q l (no ne) =
          let o = others q l ne in
          rw (o.0, o.1)
          (record { whole = framed n next previous next' previous' end end (head q) (queue q) (all_zip (λ x ni e. as_was x ni (λ z h. ne (sym e.0 ∙ z))) (queue q) o.2 (only q l)) (f.linked q l).whole })

      free : (x : ℕ) → x < n → m ≤ place' x → Dec (x ≡ i) → (next' x ≡ end) × (previous' x ≡ end)
      free x l h (yes e) = rw e (alone (rw e at h))
      free x l h (no ne) =
          let g : m ≤ standing x = rw (places x ne) at h in
          let w = as_was x (λ e. ne (sym e)) (λ e z. let y : standing x ≡ p = e in omega arith) in
          (w.0 ∙ f.alone_next x l g, w.1 ∙ f.alone_previous x l g)

-- A queue holds its own tasks.
its : {n : ℕ} {standing deadline : ℕ → ℕ} {q : ℕ} {xs : List ℕ} (m : ℕ) → Queue n standing deadline q xs → q < m → All (λ (x : ℕ). (standing x ≡ q) × (q < m)) xs
its {xs = xs} m k l = all_map (λ x o. (o.1, l)) xs k.only

module _ {n m : ℕ} {standing deadline place' : ℕ → ℕ} {next previous head next' previous' head' : ℕ → ℤ} {queue : ℕ → List ℕ} {i : ℕ}
    (f : Filed n m standing next previous head queue) (k : (q : ℕ) → q < m → Queue n standing deadline q (queue q)) (li : i < n)
    (places : (x : ℕ) → (x ≡ i → ⊥) → place' x ≡ standing x) where
  -- Task i goes out of its queue.
  pub left : standing i < m → m ≤ place' i → Written n m i (standing i) (previous i) (next i) (next i) (previous i) end end next previous head next' previous' head'
      → Filed n m place' next' previous' head' (λ q. remove i (queue q))
  left lp l w =
      let xs = queue (standing i) in
      let kp = k (standing i) lp in
      let g = removed i xs (kp.all i li refl) in
      let b = neighbours g (f.linked (standing i) lp) in
      let o : All (λ (x : ℕ). (standing x ≡ standing i) × (standing i < m)) (g.front ++ i ∷ g.back) = rw g.more at (its m kp lp) in
      refiled f i (standing i) (λ q lq. its m (k q lq) lq) places
      (λ q lq ne. let a = absent i (k q lq) (λ e. ne (sym e)) in (w.heads_kept q lq ne, remove_absent i (queue q) a, a))
      (λ h. (w.next_is, w.previous_is)) g.front g.back b.0 b.1 w.sides
      (all_left _ g.front (i ∷ g.back) o) (all_right _ g.front (i ∷ g.back) o).1 (λ h. gone g w.sides w.head_is (f.linked (standing i) lp))

  -- Task i, which stands in no queue, comes into one.
  pub joined : (passes : ℕ → Bool) {before after : ℤ} {queue' : ℕ → List ℕ} → m ≤ standing i → place' i < m → Gap passes (queue (place' i)) before after
      → Written n m i (place' i) before after (pos i) (pos i) after before next previous head next' previous' head'
      → queue' (place' i) ≡ insert passes i (queue (place' i)) → ((q : ℕ) → q < m → (q ≡ place' i → ⊥) → queue' q ≡ queue q)
      → Filed n m place' next' previous' head' queue'
  joined passes free lp gap w here there =
      let xs = queue (place' i) in
      let kp = k (place' i) lp in
      let g = inserted passes i xs in
      let a : (q : ℕ) → q < m → Absent i (queue q) = λ q lq. absent i (k q lq) (λ e. omega arith) in
      let o : All (λ (x : ℕ). (standing x ≡ place' i) × (place' i < m)) (g.front ++ g.back) = rw g.less at (its m kp lp) in
      refiled f i (place' i) (λ q lq. its m (k q lq) lq) places (λ q lq ne. (w.heads_kept q lq ne, there q lq ne, a q lq)) (λ h. absurd (omega arith))
      g.front g.back gap.before_is gap.after_is w.sides (all_left _ g.front g.back o) (all_right _ g.front g.back o)
      (λ h. rw here (come g gap.before_is gap.after_is li (a (place' i) lp) w.sides w.next_is w.previous_is w.head_is (f.linked (place' i) lp)))

  -- Task i stands in no queue, and stays in none.
  pub stored : {queue' : ℕ → List ℕ} → m ≤ standing i → m ≤ place' i → ((x : ℕ) → (x ≡ i → ⊥) → (next' x ≡ next x) × (previous' x ≡ previous x)) → next' i ≡ end → previous' i ≡ end
      → ((q : ℕ) → q < m → head' q ≡ head q) → ((q : ℕ) → q < m → queue' q ≡ queue q) → Filed n m place' next' previous' head' queue'
  stored free l same en ep hs there =
      refiled f i m (λ q lq. its m (k q lq) lq) places (λ q lq ne. (hs q lq, there q lq, absent i (k q lq) (λ e. omega arith))) (λ h. (en, ep)) {v = end} {w = end} [] [] refl refl
      (record {
        next_turned = λ x h ne e. absurd (no_task x e);
        next_kept = λ x ne e. (same x ne).0;
        previous_turned = λ x h ne e. absurd (no_task x e);
        previous_kept = λ x ne e. (same x ne).1;
      }) tt tt (λ h. absurd (omega arith))

-- ---- what is seen is all there is

-- The links are determined by the lists.
pub determined : {n m : ℕ} {standing deadline : ℕ → ℕ} {next previous head next' previous' head' : ℕ → ℤ} {queue : ℕ → List ℕ}
    → Filed n m standing next previous head queue → Filed n m standing next' previous' head' queue → ((q : ℕ) → q < m → Queue n standing deadline q (queue q))
    → ((x : ℕ) → x < n → (next x ≡ next' x) × (previous x ≡ previous' x)) × ((q : ℕ) → q < m → head q ≡ head' q)
determined {n} {m} {standing} {deadline} {next} {previous} {head} {next'} {previous'} {head'} {queue} f g k = ((λ x l. links x l (dec_lt (standing x) m)), λ q l. (same q l).0)
  where
    same : (q : ℕ) → q < m → (head q ≡ head' q) × All (λ (x : ℕ). (next x ≡ next' x) × (previous x ≡ previous' x)) (queue q)
    same q l = same_links n next previous next' previous' end (head q) (head' q) (queue q) (f.linked q l).whole (g.linked q l).whole

    links : (x : ℕ) → x < n → Dec (standing x < m) → (next x ≡ next' x) × (previous x ≡ previous' x)
    links x l (yes h) = all_among _ x (queue (standing x)) (same (standing x) h).1 ((k (standing x) h).all x l refl)
    links x l (no ne) =
        let h : m ≤ standing x = omega arith in
        (f.alone_next x l h ∙ sym (g.alone_next x l h), f.alone_previous x l h ∙ sym (g.alone_previous x l h))

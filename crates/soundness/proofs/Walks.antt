-- The walks of the test through a queue, in the words' terms. Assumes nothing.
use mathlib.Core.Path.{◌≡◌, ap, sym, ◌∙◌}
use mathlib.Core.Bool.{true, false}
use mathlib.Core.Logic.{◌↔◌, inl, inr, ⊎_elim}
use mathlib.Core.List.{List, [], ◌∷◌}
use Prim.Native.Nat.{ℕ, ◌+◌, ◌-◌, ◌≤◌, ◌<◌}
use native.Mathlib.Omega.{arith}
use lib.ListN.{length}
use lib.Dec.{eqb}
use borrow.Author.Rules.{rules}
use Rattle.laws_chain.specs.Lists.{Among}
use Rattle.laws_chain.specs.Chain.{target}
use Rattle.laws_chain.proofs.Tests.{Untested, test_end, test_out, test_step, test_not, Walking, onward, walking, at_task, goes_on, at_end, Ordered, ordered}
use Rattle.kernel.specs.Sizes.{task_count}
use Rattle.kernel.specs.Status.{queue_of, queue_count}
use Rattle.kernel.specs.Kernel.{Bare, queue}
use Rattle.kernel.specs.Good.{standing, deadline_of}
use Rattle.kernel.proofs.Decided.{yes, no, means, equal}
use Rattle.kernel.specs.Layout.{word, field, head_at, next_word, previous_word}
use Rattle.kernel.specs.Codes.{none, link}
use Rattle.kernel.specs.Seen.{next_in, previous_in, status_in, deadline_in, seen}
use Rattle.kernel.proofs.Codes.{link_none, link_once, leads_some, leads_none}
use Rattle.words.proofs.Seen.{task_seen, queue_seen}
use Rattle.queues.specs.Links.{Linked}
use Rattle.soundness.specs.Tests.{Sorted}

-- ---- is it a chain?

-- After so many links, what the test of those from the word `now` on says is whether X.
pub record Testing (w : List ℕ) (passed back now : ℕ) (X : Type 0) : Type 0 where
  pub iff : Untested task_count (next_in w) (previous_in w) (task_count - passed) (link back) (link now) ↔ X

-- From the head that is read.
pub test_begins : {w : List ℕ} {q h : ℕ} → q < queue_count → h ≡ word w (head_at q) → Testing w 0 none h (Linked w q)
test_begins {w} {q} lq is = let e = queue_seen w q lq in rw is (record { iff = rw link_none ((λ u. record { whole = rw e u }), λ c. rw e at c.whole) })

-- A word is that of -1 where its link is -1.
ends : {X : Type 0} (now : ℕ) → (link now ≡ link none) ↔ X → (eqb now none ≡ true) ↔ X
ends now i = means (equal now none) (λ e. i.0 (ap link e)) (λ x. link_once now none (i.1 x))

module _ {w : List ℕ} {passed back now : ℕ} {X : Type 0} (t : Testing w passed back now X) where
  pub links_out : task_count ≤ passed → (eqb now none ≡ true) ↔ X
  links_out l = ends now (rw link_none (test_out task_count _ _ (task_count - passed) (link back) (link now) (omega arith) t.iff))

  -- The number x of the word, and the word p of the previous link there.
  module _ {x : ℕ} (wide : x ≡ now) where
    pub links_end : task_count ≤ x → (eqb now none ≡ true) ↔ X
    links_end l = ends now (rw link_none (test_end task_count _ _ (task_count - passed) (link back) (link now) (leads_none now (rw wide at l)) t.iff))

    module _ {p : ℕ} (z : passed < task_count) (l : x < task_count) (read : p ≡ word w (field x previous_word)) where
      is_task : now < task_count
      is_task = rw wide at l

      previous : p ≡ word w (field now previous_word)
      previous = rw wide at read

      pub links_step : {n : ℕ} → p ≡ back → n ≡ word w (field x next_word) → Testing w (passed + 1) now n X
      links_step e next =
          let r = leads_some now is_task in
          let fewer : task_count - passed - 1 ≡ task_count - (passed + 1) = omega arith in
          rw (next, wide) (record { iff = rw (r, fewer) at (test_step task_count _ _ (task_count - passed) (link back) (link now) (omega arith) (rw r is_task) (rw r (ap link (sym previous ∙ e))) t.iff) })

      pub links_wrong : (p ≡ back → ⊥) → (false ≡ true) ↔ X
      links_wrong ne =
          let r = leads_some now is_task in
          no (test_not task_count _ _ (task_count - passed) (link back) (link now) (omega arith) (rw r is_task) (rw r (λ e. ne (previous ∙ link_once _ _ e))) t.iff)

-- The needs of that loop.
pub ruleset testing = (rules, test_begins, links_out, links_end, links_step, links_wrong)

-- ---- what does it hold?

-- What T of the tasks from the word n on says is whether X.
record At (w : List ℕ) (n : ℕ) (T : List ℕ → Type 0) (X : Type 0) : Type 0 where
  walk : Walking task_count (next_in w) (previous_in w) (target task_count (link n)) T X

-- How many tasks are left from a word on.
unfoldable pub left : List ℕ → ℕ → ℕ
left w n = length (onward task_count (next_in w) (previous_in w) (target task_count (link n)))

begins : (w : List ℕ) (q : ℕ) (T : List ℕ → Type 0) → q < queue_count → Linked w q → At w (word w (head_at q)) T (T (queue (seen w) q))
begins w q T lq c = let e = queue_seen w q lq in record { walk = rw e (walking task_count (next_in w) (previous_in w) T _ (rw e at c.whole)) }

-- At the end nothing is left.
ended : {w : List ℕ} {n : ℕ} {T : List ℕ → Type 0} {X : Type 0} → At w n T X → task_count ≤ n → T [] ↔ X
ended {n = n} a l = at_end task_count _ _ a.walk (leads_none n l)

-- The walk stands at task x.
module _ {w : List ℕ} {x : ℕ} {T : List ℕ → Type 0} {X : Type 0} (a : At w x T X) (l : x < task_count) where
  here : Walking task_count (next_in w) (previous_in w) x T X
  here = rw (leads_some x l) at a.walk

  -- It goes on to the next, n and its number z, where what is asked of the rest says the same.
  onward_goes : {n z : ℕ} {T' : List ℕ → Type 0} → n ≡ word w (field x next_word) → z ≡ n → ((ys : List ℕ) → T (x ∷ ys) ↔ X → T' ys ↔ X) → At w z T' X × (left w z < left w x)
  unfolding left
  onward_goes {T' = T'} next wide f =
      let g = goes_on task_count _ _ T' here l (f _ (at_task task_count _ _ here l)) in
      rw (wide, next) (record { walk = g.0 }, rw (leads_some x l) g.1)

-- ---- is it in order?

-- Each has the status of queue q, and a deadline no earlier than the one before it.
abbrev Rises : List ℕ → ℕ → ℕ → List ℕ → Type 0
Rises w q low xs = Ordered (λ x. standing (seen w) x ≡ q) (deadline_of (seen w)) low xs

pub record Sorting (w : List ℕ) (q low x : ℕ) (X : Type 0) : Type 0 where
  at : At w x (Rises w q low) X

-- From the head h that is read, and its number x.
pub sort_begins : {w : List ℕ} {q h x : ℕ} → q < queue_count → Linked w q → h ≡ word w (head_at q) → x ≡ h → Sorting w q 0 x (Sorted (seen w) q)
sort_begins {w} {q} lq c is wide =
    let b = (begins w q (Rises w q 0) lq c).walk in
    let o = ordered (λ x. standing (seen w) x ≡ q) (deadline_of (seen w)) (queue (seen w) q) in
    rw (wide, is)
    (record {
      at = record {
        walk = record {
          now = b.now;
          back = b.back;
          stretch = b.stretch;
          task = b.task;
          iff = means b.iff (λ t. let r = o.0 t in record { only = r.0; rising = r.1 }) (λ g. o.1 (g.only, g.rising));
        };
      };
    })

module _ {w : List ℕ} {q low x : ℕ} {X : Type 0} (a : Sorting w q low x X) where
  pub in_order : task_count ≤ x → (true ≡ true) ↔ X
  in_order l = yes ((ended a.at l).0 tt)

  -- The queue p of its status, and its deadline d.
  module _ {p : ℕ} (l : x < task_count) (place : p ≡ queue_of (status_in w x)) where
    place_read : standing (seen w) x ≡ p
    place_read = ap (λ (b : Bare). queue_of b.status) (task_seen w x l) ∙ sym place

    pub misplaced : (p ≡ q → ⊥) → (false ≡ true) ↔ X
    misplaced ne = no (λ g. ne (sym place_read ∙ ((at_task task_count _ _ (here a.at l) l).1 g).0))

    module _ {d : ℕ} (deadline : d ≡ deadline_in w x) where
      deadline_read : deadline_of (seen w) x ≡ d
      deadline_read = ap (λ (b : Bare). b.deadline) (task_seen w x l) ∙ sym deadline

      pub too_early : d < low → (false ≡ true) ↔ X
      too_early h = no (λ g. let r : low ≤ deadline_of (seen w) x = ((at_task task_count _ _ (here a.at l) l).1 g).1 in let e = deadline_read in omega arith)

      module _ {n z : ℕ} (e : p ≡ q) (h : low ≤ d) (next : n ≡ word w (field x next_word)) (wide : z ≡ n) where
        sort_goes : At w z (Rises w q d) X × (left w z < left w x)
        sort_goes =
            rw (← deadline_read)
            (onward_goes a.at l {T' = Rises w q (deadline_of (seen w) x)} next wide (λ ys i. ((λ r. i.0 (place_read ∙ e, rw deadline_read h, r)), λ t. (i.1 t).2)))

        pub sort_again : Sorting w q d z X
        sort_again = record { at = sort_goes.0 }

        pub sort_less : left w z < left w x
        sort_less = sort_goes.1

-- The needs of that loop.
pub ruleset sorting = (rules, sort_begins, in_order, misplaced, too_early, sort_again, sort_less)

-- ---- who stands there?

pub record Looking (w : List ℕ) (x y : ℕ) (X : Type 0) : Type 0 where
  at : At w y (Among x) X

pub look_begins : {w : List ℕ} {q x h y : ℕ} → q < queue_count → Linked w q → h ≡ word w (head_at q) → y ≡ h → Looking w x y (Among x (queue (seen w) q))
look_begins {w} {q} {x} lq c is wide = rw (wide, is) (record { at = begins w q (Among x) lq c })

module _ {w : List ℕ} {x y : ℕ} {X : Type 0} (a : Looking w x y X) where
  pub not_met : task_count ≤ y → (false ≡ true) ↔ X
  not_met l = no (ended a.at l).1

  module _ (l : y < task_count) where
    pub met : y ≡ x → (true ≡ true) ↔ X
    met e = yes ((at_task task_count _ _ (here a.at l) l).0 (inl e))

    module _ {n z : ℕ} (ne : y ≡ x → ⊥) (next : n ≡ word w (field y next_word)) (wide : z ≡ n) where
      look_goes : At w z (Among x) X × (left w z < left w y)
      look_goes = onward_goes a.at l {T' = Among x} next wide (λ ys i. ((λ m. i.0 (inr m)), λ t. ⊎_elim (λ e. absurd (ne e)) (λ m. m) (i.1 t)))

      pub look_again : Looking w x z X
      look_again = record { at = look_goes.0 }

      pub look_less : left w z < left w y
      look_less = look_goes.1

-- The needs of that loop.
pub ruleset looking = (rules, look_begins, not_met, met, look_again, look_less)

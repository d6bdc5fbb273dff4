-- The scan of a queue for the place of a task, in the words' terms. Assumes nothing.
use mathlib.Core.Path.{◌≡◌, refl, ap, ◌∙◌}
use mathlib.Core.Bool.{Bool, true, false}
use mathlib.Core.List.{List}
use Prim.Native.Nat.{ℕ, ◌+◌, ◌≤◌, ◌<◌}
use native.Mathlib.Omega.{arith}
use lib.ListN.{length}
use lib.Dec.{leb}
use borrow.Author.Rules.{rules}
use borrow.Author.Tests.{le-leb, lt-leb}
use Rattle.laws_chain.specs.Lists.{lead}
use Rattle.laws_chain.specs.Chain.{end, target, walk}
use Rattle.laws_chain.proofs.Lists.{at_most}
use Rattle.laws_chain.proofs.Stretch.{below, once}
use Rattle.laws_chain.proofs.Scan.{Scanning, Ahead, ahead, nothing_left, scan_begin, scan_step, scan_stop, scan_end}
use Rattle.kernel.specs.Sizes.{task_count}
use Rattle.kernel.specs.Status.{queue_count}
use Rattle.kernel.specs.Kernel.{Bare}
use Rattle.kernel.specs.Layout.{word, head_at, field, next_word}
use Rattle.kernel.specs.Codes.{none, link}
use Rattle.kernel.specs.Seen.{deadline_in, next_in, previous_in, head_in, queue_in}
use Rattle.kernel.proofs.Codes.{link_none, leads_some, leads_none}
use Rattle.words.proofs.Seen.{task_seen, queue_seen}
use Rattle.queues.specs.Links.{Linked, Found, passes}

-- The tasks from a word on.
abbrev ahead_of : List ℕ → ℕ → List ℕ
ahead_of w x = walk task_count (next_in w) task_count (link x)

-- How many they are.
abbrev pub left : List ℕ → ℕ → ℕ
left w x = length (ahead_of w x)

-- The scan of queue q for the deadline d stands between two links, the second of which has the number x, and has passed n tasks.
pub record At (w : List ℕ) (q d before after x n : ℕ) : Type 0 where
  pub number : x ≡ after
  pub scanning : Scanning task_count (next_in w) (previous_in w) (passes w d) (head_in w q) (link before) (link after)
  pub count : n + length (lead (passes w d) (ahead_of w after)) ≡ length (lead (passes w d) (queue_in w q))
  pub few : n + left w after ≤ task_count

module _ {w : List ℕ} {q d : ℕ} (lq : q < queue_count) where
  pub begins : {h x : ℕ} → h ≡ word w (head_at q) → x ≡ h → Linked w q → At w q d none h x 0
  begins e is c =
      let s = rw (queue_seen w q lq) at c in
      let most = at_most task_count (queue_in w q) (once task_count _ _ end (head_in w q) (queue_in w q) s.whole) (below task_count _ _ end end (head_in w q) (queue_in w q) s.whole) in
      record { number = is; scanning = rw (e, link_none) (scan_begin task_count _ _ _ (head_in w q) s); count = rw e (omega arith); few = rw e (omega (arith, most)) }

  module _ {before after x n : ℕ} (a : At w q d before after x n) where
    -- The second link leads to task x.
    module _ (l : x < task_count) where
      led : target task_count (link after) ≡ x
      led = rw a.number (leads_some after (rw a.number at l))

      read : (b : Bool) → leb (deadline_in w x) d ≡ b → passes w d (target task_count (link after)) ≡ b
      read b e = rw led (ap (λ (y : Bare). leb y.deadline d) (task_seen w x l) ∙ e)

      first : Ahead task_count (next_in w) (previous_in w) (link after)
      first = ahead task_count _ _ (link before) (link after) a.scanning.stretch (rw led l)

      -- There stands the deadline f; the next is e.
      module _ {e f : ℕ} (deadline : f ≡ deadline_in w x) (next : e ≡ word w (field x next_word)) (h : f ≤ d) where
        goes : At w q d after e e (n + 1) × (left w e < left w after)
        goes =
            let p = read true (le-leb _ _ (rw deadline at h)) in
            let t = rw (led, ← next) at (scan_step task_count _ _ (passes w d) (head_in w q) a.scanning (rw led l) p) in
            let c = rw (first.is, p) at a.count in
            (record { number = refl; scanning = t.0; count = rw (rw (led, ← next) at first.then) (omega (arith, c)); few = omega (arith, t.1, a.few) }, t.1)

        pub goes_on : {y : ℕ} → y ≡ e → At w q d after e y (n + 1)
        goes_on is = rw is goes.0

        pub falls : left w e < left w after
        falls = goes.1

      pub stops : {f : ℕ} → f ≡ deadline_in w x → d < f → Found w q d before after n
      stops e h =
          let p = read false (lt-leb _ _ (rw e at h)) in
          let c = rw (first.is, p) at a.count in
          record { sides = rw (queue_seen w q lq) (scan_stop task_count _ _ (passes w d) (head_in w q) a.scanning (rw led l) p); count = rw (queue_seen w q lq) (omega (arith, c)) }

    pub ends : task_count ≤ x → Found w q d before after n
    ends l =
        let h = leads_none after (rw a.number at l) in
        let c = rw (nothing_left task_count _ _ (link before) (link after) a.scanning.stretch h).0 at a.count in
        record { sides = rw (queue_seen w q lq) (scan_end task_count _ _ (passes w d) (head_in w q) a.scanning h); count = rw (queue_seen w q lq) (omega (arith, c)) }

    pub counts : x < task_count → n + 1 < 18446744073709551616
    counts l = omega (arith, a.few)

pub ruleset scans = (rules, begins, goes_on, falls, stops, ends, counts)

-- What taking out and filing mean: the words show the kernel's move. Assumes nothing.
use mathlib.Core.Path.{◌≡◌, refl, ap, sym, ◌∙◌}
use mathlib.Core.List.{List, [], ◌∷◌}
use mathlib.Core.Logic.{dite}
use Prim.Native.Nat.{ℕ, ◌≤◌, ◌<◌}
use native.Mathlib.Omega.{arith}
use native.Mathlib.Decide.{dec_lt}
use lib.ListN.{length, get_or, set}
use lib.Seq.{ext_get_or}
use lib.Dec.{leb}
use borrow.Author.Rules.{rules}
use Rattle.laws_chain.specs.Chain.{end, Gap}
use Rattle.laws_chain.proofs.Stretch.{found}
use Rattle.laws_chain.proofs.Filing.{loosened, loose_here, loose_there, joined, stored}
use Rattle.kernel.specs.declared.Status.{Status}
use Rattle.kernel.specs.Sizes.{task_count}
use Rattle.kernel.specs.Status.{queue_of, queue_count}
use Rattle.kernel.specs.Kernel.{Bare, Kernel, queue, blank}
use Rattle.kernel.specs.Moves.{move}
use Rattle.kernel.specs.Good.{standing}
use Rattle.kernel.proofs.Moves as Moves
use Rattle.kernel.specs.Layout.{field, period_word, amount_word, status_word, deadline_word, next_word, previous_word, word_count}
use Rattle.kernel.specs.Codes.{none, link, class_of, status_of, status_code}
use Rattle.kernel.specs.Seen.{bare_in, head_in, queue_in, seen}
use Rattle.kernel.specs.Sound.{LinksHold}
use Rattle.kernel.specs.Shows.{Kept, Shows}
use Rattle.words.specs.Writes.{with_filing}
use Rattle.kernel.proofs.Codes.{link_none, link_some, status_read}
use Rattle.words.proofs.Tables.{tabulate_length, tabulate_set}
use Rattle.words.proofs.Seen.{task_seen, queue_seen, queue_past, bare_same}
use Rattle.words.proofs.Beside.{Beside, beside_both, bare_beside, tasks_beside, shows_beside}
use Rattle.words.proofs.Records.{Own, own, own_at, own_beside, own_others, own_heads}
use Rattle.queues.specs.Links.{Linked, Found, passes, relinked, taken_out, FiledIn}
use Rattle.queues.specs.Moved.{filed_record, scanned, Moved}
use Rattle.queues.proofs.Relinks.{relinked_beside, written}
use Rattle.queues.proofs.Out.{Out, out}

-- What links hold is what is seen.
held : (v : List ℕ) {p : ℕ → ℕ} {qs : ℕ → List ℕ} → LinksHold v p qs → (q : ℕ) → q < queue_count → queue (seen v) q ≡ qs q
held v {p} {qs} f q l = queue_seen v q l ∙ found task_count _ _ end (head_in v q) (qs q) (f.linked q l).whole

-- A task is filed in queue q, that of its status, or in none.
module _ (w : List ℕ) {q : ℕ} (st : Status) (e : q ≡ queue_of st) where
  pub linked_there : (queue_of st < queue_count → Linked w (queue_of st)) → q < queue_count → Linked w q
  linked_there h l = rw e (h (rw e at l))

  pub filed_one : {v u : List ℕ} {i d before after n : ℕ} → q < queue_count → Found w q d before after n → v ≡ relinked w q before after i i → u ≡ with_filing v i st d after before → FiledIn w i st d u n
  filed_one l f v is = record { in_one = λ h. record { before = _; after = _; found = rw e at f; is = rw (v, e) at is }; in_none = λ h. absurd (omega arith); none_passed = λ h. absurd (omega arith) }

  pub filed_none : {u : List ℕ} {i d : ℕ} → queue_count ≤ q → u ≡ with_filing w i st d none none → FiledIn w i st d u 0
  filed_none l is = record { in_one = λ h. absurd (omega arith); in_none = λ h. is; none_passed = λ h. refl }

pub ruleset filing = (rules, linked_there, filed_one, filed_none)

module _ {w : List ℕ} {i : ℕ} (h : Kept w) (li : i < task_count) where
  abbrev t : List ℕ
  t = taken_out w i

  o : Out w i t
  o = out h li

  -- The kernel that is seen can be moved in.
  m : Moves.Movable (seen w) i
  m = record { tasks = tabulate_length task_count _; lists = tabulate_length queue_count _; queues = h.queues; is_task = li }

  pub linked : {v : List ℕ} {q : ℕ} → v ≡ t → q < queue_count → Linked v q
  linked {q = q} e l = rw (e, held t o.filed q l) (o.filed.linked q l)

  module _ (st : Status) (d : ℕ) where
    abbrev b : Bare
    b = filed_record (seen w) i st d

    abbrev k : Kernel
    k = move (seen w) i b

    abbrev q : ℕ
    q = queue_of st

    -- The deadlines that the scan compares are those before the move.
    same_passes : passes t d ≡ passes w d
    same_passes = ap (λ (l : List Bare). λ (x : ℕ). leb (get_or l x blank).deadline d) (tasks_beside o.beside)

    places : (x : ℕ) → (x ≡ i → ⊥) → standing k x ≡ loosened queue_count i (standing (seen w)) x
    places x ne = Moves.kept_place m b x ne ∙ sym (loose_there queue_count i (standing (seen w)) x ne)

    -- Once links and heads are turned, as in u, task i gets its status, its deadline and its links.
    module _ {u : List ℕ} (s : Beside next_word w u) (next previous : ℕ) where
      abbrev v : List ℕ
      v = with_filing u i st d next previous

      long : length u ≡ word_count
      long = s.long ∙ h.formed.long

      its : Own status_word u v i next previous
      its = own u i li long status_word (status_code st ∷ d ∷ next ∷ previous ∷ []) refl (omega arith)

      own_bare : bare_in v i ≡ b
      own_bare =
          let at = own_at u i li long status_word (status_code st ∷ d ∷ next ∷ previous ∷ []) refl in
          (λ j.
          record {
            class = class_of (its.kept (field i period_word) (λ g a c e. omega arith) j) (its.kept (field i amount_word) (λ g a c e. omega arith) j);
            status = (ap status_of (at status_word (omega arith) (omega arith)) ∙ status_read st) j;
            deadline = at deadline_word (omega arith) (omega arith) j;
          })
          ∙ ap (λ (a : Bare). record { class = a.class; status = st; deadline = d }) (bare_beside s i ∙ sym (task_seen w i li))

      same_tasks : (seen v).tasks ≡ set (seen w).tasks i b
      same_tasks =
          tabulate_set task_count (bare_in w) (bare_in v) i (λ x l ne. bare_same u v x (λ f lf. own_others its x f ne (omega arith)) ∙ bare_beside s x)
          ∙ ap (set (seen w).tasks i) own_bare

      -- Where the links hold the move's queues, the words show the move.
      shown : LinksHold v (standing k) (queue k) → Shows v k
      shown f =
          shows_beside (beside_both (omega arith) s (own_beside its li)) same_tasks
          (ext_get_or [] (seen v).queues k.queues (tabulate_length queue_count _ ∙ sym (Moves.move_sized (seen w) i b ∙ m.lists))
          (λ p l. held v f p (omega (arith, tabulate_length queue_count (queue_in v)))))
          (sym (Moves.move_is (seen w) i b)) h.formed f (Moves.moved_queues m b)

    in_none : queue_count ≤ q → Shows (with_filing t i st d none none) k
    in_none l =
        let e = its o.beside none none in
        shown o.beside none none
        (stored o.filed (Moves.out_queues m) li places (loose_here queue_count i (standing (seen w))) (rw (Moves.moved_place m b) l)
        (λ x ne. (ap link (own_others e x next_word ne (omega arith)), ap link (own_others e x previous_word ne (omega arith))))
        (ap link e.next_is ∙ link_none) (ap link e.previous_is ∙ link_none)
        (λ p lp. ap link (own_heads e p lp)) (λ p lp. Moves.kept_queue m b p lp (λ z. omega arith)))

    in_one : (before after : ℕ) → q < queue_count → Gap (passes t d) (queue (seen t) q) (link before) (link after) → Shows (with_filing (relinked t q before after i i) i st d after before) k
    in_one before after l g =
        let s = beside_both (omega arith) o.beside (relinked_beside t q before after i i l) in
        let stands : standing k i ≡ q = Moves.moved_place m b in
        shown s after before
        (joined o.filed (Moves.out_queues m) li places (passes w d) {before = link before} {after = link after} (loose_here queue_count i (standing (seen w))) (rw stands l)
        (rw stands (rw (held t o.filed q l, same_passes) at g))
        (rw stands (rw (link_some i (omega arith)) at (written t q before after i i l (o.beside.long ∙ h.formed.long) (its s after before))))
        (rw stands (Moves.moved_queue m b l)) (λ p lp ne. Moves.kept_queue m b p lp (λ z. ne (z ∙ sym stands))))

    -- **moved**: taken out and filed, task i has moved as the kernel says.
    pub moved : (r : List ℕ) (n : ℕ) → FiledIn t i st d r n → Moved w i b r n
    unfolding scanned
    moved r n f =
        dite (dec_lt q queue_count)
        (λ l.
        let x = f.in_one l in
        record { shows = rw x.is (in_one x.before x.after l x.found.sides); count = x.found.count ∙ rw (same_passes, held t o.filed q l) refl })
        (λ ne.
        let l : queue_count ≤ q = omega arith in
        record { shows = rw (f.in_none l) (in_none l); count = f.none_passed l ∙ rw (queue_past w q l) refl })

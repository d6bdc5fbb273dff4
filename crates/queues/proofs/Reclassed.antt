-- A task that gets another class, and then moves, has moved with that class. Assumes nothing.
use mathlib.Core.Path.{◌≡◌, ap, ap₂, subst, ◌∙◌}
use mathlib.Core.List.{List}
use Prim.Native.Nat.{ℕ, ◌<◌}
use native.Mathlib.Omega.{arith}
use lib.ListN.{length}
use lib.Seq.{get_or-set_same}
use lib.Dec.{leb}
use Rattle.laws_chain.specs.Lists.{lead, remove}
use Rattle.kernel.specs.declared.Class.{Class}
use Rattle.kernel.specs.declared.Status.{Status}
use Rattle.kernel.specs.Sizes.{task_count}
use Rattle.kernel.specs.Status.{queue_of}
use Rattle.kernel.specs.Kernel.{Bare, Kernel, task, queue, blank}
use Rattle.kernel.specs.Moves.{move}
use Rattle.kernel.proofs.Moves.{of_class, reclassed, reclassed_deadlines, reclassed_move}
use Rattle.kernel.specs.Codes.{Classed}
use Rattle.kernel.specs.Seen.{bare_in, seen}
use Rattle.kernel.specs.Shows.{Kept, Shows}
use Rattle.words.specs.Writes.{with_class}
use Rattle.words.proofs.Tables.{tabulate_length}
use Rattle.words.proofs.Records.{class_set}
use Rattle.queues.specs.Moved.{filed_record, scanned, Moved}

reclassed_scanned : (k : Kernel) (i : ℕ) (c : Class) (a : Bare) → scanned (reclassed k i c) i a ≡ scanned k i a
unfolding scanned
reclassed_scanned k i c a =
    ap (λ (deadline : ℕ → ℕ). length (lead (λ x. leb (deadline x) a.deadline) (remove i (queue k (queue_of a.status))))) (reclassed_deadlines k i c)

module _ {w v : List ℕ} {i : ℕ} {c : Class} (h : Kept w) (l : i < task_count) (means : Classed c) (e : v ≡ with_class w i c) where
  shows : Shows v (reclassed (seen w) i c)
  shows = rw e (class_set i c l means h)

  pub still_kept : Kept v
  still_kept = shows.kept

  abbrev is : seen v ≡ reclassed (seen w) i c
  is = shows.is

  with_it : (st : Status) (d : ℕ) → filed_record (seen v) i st d ≡ record { class = c; status = st; deadline = d }
  with_it st d =
      ap (λ (k : Kernel). filed_record k i st d) is
      ∙ ap (λ (a : Bare). record { class = a.class; status = st; deadline = d })
      (get_or-set_same (seen w).tasks i (of_class (task (seen w) i) c) blank (omega (arith, tabulate_length task_count (bare_in w))))

  pub moved_so : {st : Status} {d : ℕ} {u : List ℕ} {n : ℕ} → Moved v i (filed_record (seen v) i st d) u n → Moved w i (record { class = c; status = st; deadline = d }) u n
  moved_so {st = st} {d = d} {u = u} m =
      record {
        shows = subst (Shows u) (ap₂ (λ (k : Kernel) (a : Bare). move k i a) is (with_it st d) ∙ reclassed_move (seen w) i c _) m.shows;
        count = m.count ∙ ap₂ (λ (k : Kernel) (a : Bare). scanned k i a) is (with_it st d) ∙ reclassed_scanned (seen w) i c _;
      }

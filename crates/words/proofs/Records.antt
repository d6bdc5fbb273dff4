-- The record of one task is written: all of it up to its links, or its class. Assumes nothing.
use mathlib.Core.Path.{◌≡◌, ap, ap₂, sym, subst, ◌∙◌, refl}
use mathlib.Core.List.{List, [], ◌∷◌}
use Prim.Native.Nat.{ℕ, ◌+◌, ◌-◌, ◌≤◌, ◌<◌}
use native.Mathlib.Omega.{arith}
use lib.ListN.{length, get_or, set}
use Rattle.kernel.specs.declared.Class.{Class}
use Rattle.kernel.specs.Sizes.{task_count}
use Rattle.kernel.specs.Status.{queue_count}
use Rattle.kernel.specs.Layout.{word, head_at, record_at, record_size, field, next_word, previous_word, spare_word, word_count, heads_at, semaphores_at, period_word, amount_word, status_word, deadline_word}
use Rattle.kernel.specs.Kernel.{Bare, task, queue}
use Rattle.kernel.proofs.Moves.{of_class, reclassed, reclassed_standing, reclassed_queues}
use Rattle.kernel.specs.Codes.{class_of, period_code, amount_code, Classed, status_of}
use Rattle.kernel.specs.Seen.{bare_in, seen}
use Rattle.kernel.specs.Sound.{LinksHold}
use Rattle.kernel.specs.Shows.{Kept, Shows}
use Rattle.words.specs.Writes.{puts, with_class}
use Rattle.words.proofs.Puts.{puts_length, puts_kept, puts_at}
use Rattle.words.proofs.Beside.{Beside, shows_beside}
use Rattle.words.proofs.Tables.{tabulate_set}
use Rattle.words.proofs.Seen.{task_seen, bare_same, queues_kept, links_kept}

-- But for the words of the record of task i from number a to the spare ones, the words are the same; its links are these.
pub record Own (a : ℕ) (w v : List ℕ) (i next previous : ℕ) : Type 0 where
  pub long : length v ≡ length w
  pub kept : (j : ℕ) → ((f : ℕ) → a ≤ f → f < spare_word → j ≡ field i f → ⊥) → word v j ≡ word w j
  pub next_is : word v (field i next_word) ≡ next
  pub previous_is : word v (field i previous_word) ≡ previous

module _ (w : List ℕ) (i : ℕ) (l : i < task_count) (long : length w ≡ word_count) (a : ℕ) (ns : List ℕ) (e : a + length ns ≡ spare_word) where
  -- What stands in the record at a number from a on.
  pub own_at : (f : ℕ) → a ≤ f → f < spare_word → word (puts w (record_at i) a ns) (field i f) ≡ get_or ns (f - a) 0
  own_at f la lf = let z : field i f ≡ record_at i + a + (f - a) = omega arith in rw z (puts_at (record_at i) w a ns (f - a) (omega arith) (omega arith))

  pub own : a ≤ next_word → Own a w (puts w (record_at i) a ns) i (get_or ns (next_word - a) 0) (get_or ns (previous_word - a) 0)
  own la =
      record {
        long = puts_length (record_at i) w a ns;
        kept = λ j ne. puts_kept (record_at i) w a ns j (λ n ln z. ne (a + n) (omega arith) (omega arith) (omega arith));
        next_is = own_at next_word (omega arith) (omega arith);
        previous_is = own_at previous_word (omega arith) (omega arith);
      }

module _ {a i next previous : ℕ} {w v : List ℕ} (o : Own a w v i next previous) where
  pub own_beside : i < task_count → Beside a w v
  own_beside l = record { long = o.long; kept = λ j nh nf. o.kept j (λ f. nf i f l) }

  -- The other tasks' records, and the heads.
  pub own_others : (x f : ℕ) → (x ≡ i → ⊥) → f < record_size → word v (field x f) ≡ word w (field x f)
  own_others x f ne l = o.kept (field x f) (λ g lg hg e. ne (omega arith))

  pub own_heads : (q : ℕ) → q < queue_count → word v (head_at q) ≡ word w (head_at q)
  own_heads q l = o.kept (head_at q) (λ f lf hf e. omega arith)

-- ---- its class: the queues stay in order, and nothing else that is seen changes

module _ {w : List ℕ} (i : ℕ) (c : Class) (l : i < task_count) (means : Classed c) (k : Kept w) where
  abbrev v : List ℕ
  v = with_class w i c

  abbrev ns : List ℕ
  ns = period_code c ∷ amount_code c ∷ []

  kept : (j : ℕ) → ((f : ℕ) → f < status_word → j ≡ field i f → ⊥) → word v j ≡ word w j
  kept j ne = puts_kept (record_at i) w period_word ns j (λ f lf e. ne f (omega arith) (omega arith))

  at : (f : ℕ) → f < status_word → word v (field i f) ≡ get_or ns f 0
  at f lf = let e : field i f ≡ record_at i + period_word + f = omega arith in rw e (puts_at (record_at i) w period_word ns f lf (omega (arith, k.formed.long)))

  beside : Beside period_word w v
  beside = record { long = puts_length (record_at i) w period_word ns; kept = λ j nh nf. kept j (λ f lf. nf i f l (omega arith) (omega arith)) }

  own_bare : bare_in v i ≡ of_class (task (seen w) i) c
  own_bare =
      (λ j.
      record {
        class = (ap₂ class_of (at period_word (omega arith)) (at amount_word (omega arith)) ∙ means) j;
        status = status_of (kept (field i status_word) (λ f lf e. omega arith) j);
        deadline = kept (field i deadline_word) (λ f lf e. omega arith) j;
      })
      ∙ ap (λ (a : Bare). of_class a c) (sym (task_seen w i l))

  same_tasks : (seen v).tasks ≡ (reclassed (seen w) i c).tasks
  same_tasks =
      tabulate_set task_count (bare_in w) (bare_in v) i (λ x lx ne. bare_same w v x (λ f lf. kept (field x f) (λ g lg e. ne (omega arith))))
      ∙ ap (set (seen w).tasks i) own_bare

  heads : (j : ℕ) → heads_at ≤ j → j < semaphores_at → word v j ≡ word w j
  heads j a b = kept j (λ f lf e. omega arith)

  links : (x f : ℕ) → x < task_count → next_word ≤ f → f < spare_word → word v (field x f) ≡ word w (field x f)
  links x f lx a b = kept (field x f) (λ g lg e. omega arith)

  pub class_set : Shows v (reclassed (seen w) i c)
  class_set =
      shows_beside beside same_tasks (queues_kept w v heads links) refl k.formed
      (links_kept w v heads links _ _ (subst (λ (p : ℕ → ℕ). LinksHold w p (queue (seen w))) (sym (reclassed_standing (seen w) i c)) k.filed))
      (reclassed_queues (seen w) i c k.queues)

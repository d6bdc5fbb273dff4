-- The task that a queue's head leads to is its first, whatever the links are. Assumes nothing.
use mathlib.Core.Path.{◌≡◌, refl, sym, ap, ◌∙◌}
use mathlib.Core.List.{List, ◌∷◌}
use Prim.Native.Nat.{ℕ, ◌-◌, ◌<◌}
use Rattle.laws_chain.proofs.Walk.{walk_none, walk_some}
use Rattle.kernel.specs.Sizes.{task_count}
use Rattle.kernel.specs.Status.{queue_count}
use Rattle.kernel.specs.Layout.{word, head_at}
use Rattle.kernel.specs.Seen.{next_in, head_in}
use Rattle.kernel.proofs.Codes.{leads_some, leads_none}
use Rattle.words.proofs.Seen.{queue_seen}
use Rattle.queues.specs.First.{First, rest}

pub first_is : {w : List ℕ} {q h y : ℕ} → q < queue_count → h ≡ word w (head_at q) → y ≡ h → First w q y
first_is {w = w} {q = q} lq head is =
    let x = word w (head_at q) in
    rw (is ∙ head)
    (record {
      is = refl;
      some = λ l.
          let e = leads_some x l in
          let t = rw e at (walk_some task_count (next_in w) (task_count - 1) (head_in w q) (rw e l)) in
          rw (queue_seen w q lq) (t ∙ ap (λ (xs : List ℕ). x ∷ rest xs) (sym t));
      none = λ l. rw (queue_seen w q lq) (walk_none task_count (next_in w) task_count (head_in w q) (leads_none x l));
    })

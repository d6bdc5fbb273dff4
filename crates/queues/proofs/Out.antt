-- What taking a task out means: every queue is without it, and the links hold that. Assumes nothing.
use mathlib.Core.Path.{◌≡◌, refl, ap, ◌∙◌}
use mathlib.Core.List.{List, [], ◌∷◌}
use Prim.Native.Nat.{ℕ, ◌≤◌, ◌<◌}
use native.Mathlib.Omega.{arith}
use lib.Dec.{ltb}
use borrow.Author.Tests.{ltb-true, ltb-false}
use Rattle.laws_chain.specs.Lists.{remove}
use Rattle.laws_chain.proofs.Lists.{remove_absent}
use Rattle.laws_chain.proofs.Filing.{absent, loosened, loose_here, loose_there, left, stored}
use Rattle.kernel.specs.Sizes.{task_count}
use Rattle.kernel.specs.Status.{queue_of, queue_count}
use Rattle.kernel.specs.Kernel.{Bare, queue}
use Rattle.kernel.specs.Good.{standing}
use Rattle.kernel.proofs.Decided.{either}
use Rattle.kernel.specs.Layout.{word, field, next_word, previous_word}
use Rattle.kernel.specs.Codes.{none}
use Rattle.kernel.specs.Seen.{status_in, seen}
use Rattle.kernel.specs.Sound.{LinksHold}
use Rattle.kernel.specs.Shows.{Kept}
use Rattle.words.specs.Writes.{with_links}
use Rattle.kernel.proofs.Codes.{link_none}
use Rattle.words.proofs.Seen.{task_seen}
use Rattle.words.proofs.Beside.{Beside, unchanged, beside_both}
use Rattle.words.proofs.Records.{own, own_beside}
use Rattle.queues.specs.Links.{relinked, taken_out}
use Rattle.queues.proofs.Relinks.{relinked_beside, written}

-- In v the queues are those of w without i, and no record has changed.
pub record Out (w : List ℕ) (i : ℕ) (v : List ℕ) : Type 0 where
  pub filed : LinksHold v (loosened queue_count i (standing (seen w))) (λ q. remove i (queue (seen w) q))
  pub beside : Beside next_word w v

module _ {w : List ℕ} {i : ℕ} (k : Kept w) (li : i < task_count) where
  abbrev p : ℕ
  p = queue_of (status_in w i)

  stood : standing (seen w) i ≡ p
  stood = ap (λ (b : Bare). queue_of b.status) (task_seen w i li)

  out_of_one : p < queue_count → (let before = word w (field i previous_word) in let after = word w (field i next_word) in Out w i (with_links (relinked w p before after after before) i none none))
  out_of_one l =
      let before = word w (field i previous_word) in
      let after = word w (field i next_word) in
      let s = relinked_beside w p before after after before l in
      let o = own (relinked w p before after after before) i li (s.long ∙ k.formed.long) next_word (none ∷ none ∷ []) refl (omega arith) in
      record {
        filed =
            left k.filed k.queues li (loose_there queue_count i (standing (seen w))) (rw stood l) (loose_here queue_count i (standing (seen w)))
            (rw stood (rw link_none at (written w p before after after before l k.formed.long o)));
        beside = beside_both (omega arith) s (own_beside o li);
      }

  out_of_none : queue_count ≤ p → Out w i w
  out_of_none l =
      let free : queue_count ≤ standing (seen w) i = rw stood l in
      record {
        filed =
            stored k.filed k.queues li (loose_there queue_count i (standing (seen w))) free (loose_here queue_count i (standing (seen w))) (λ x ne. (refl, refl))
            (k.filed.alone_next i li free) (k.filed.alone_previous i li free) (λ q lq. refl)
            (λ q lq. remove_absent i (queue (seen w) q) (absent i (k.queues q lq) (λ e. omega arith)));
        beside = unchanged;
      }

  pub out : Out w i (taken_out w i)
  unfolding taken_out
  out = either (Out w i) (ltb p queue_count) (λ e. out_of_one (ltb-true p queue_count e)) (λ e. out_of_none (ltb-false p queue_count e))

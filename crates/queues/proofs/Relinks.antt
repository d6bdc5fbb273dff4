-- What relinking, and then writing a task's own record, does to each link, each head and every other word. Assumes nothing.
use mathlib.Core.Path.{◌≡◌, ap, sym, ◌∙◌}
use mathlib.Core.List.{List}
use Prim.Native.Nat.{ℕ, ◌≤◌, ◌<◌}
use native.Mathlib.Omega.{arith}
use native.Mathlib.Decide.{dec_lt}
use lib.IntN.{pos}
use lib.ListN.{length}
use lib.Seq.{get_or-set_same}
use borrow.Author.Tests.{lt-ltb, le-ltb}
use Rattle.laws_chain.specs.Chain.{target}
use Rattle.laws_chain.proofs.Splice.{Written, new_head}
use Rattle.kernel.specs.Sizes.{task_count}
use Rattle.kernel.specs.Status.{queue_count}
use Rattle.kernel.specs.Layout.{word, head_at, field, next_word, previous_word, word_count}
use Rattle.kernel.specs.Codes.{link}
use Rattle.kernel.specs.Seen.{next_in, previous_in, head_in}
use Rattle.words.specs.Writes.{with_previous}
use Rattle.kernel.proofs.Codes.{link_some, link_is, leads_some, leads_none}
use Rattle.words.proofs.Puts.{previous_some, previous_length, previous_kept, lead_some, lead_none, lead_length, lead_kept}
use Rattle.words.proofs.Beside.{Beside}
use Rattle.words.proofs.Records.{Own, own_others, own_heads}
use Rattle.queues.specs.Links.{relinked}

module _ (w : List ℕ) (q before after n m : ℕ) (lq : q < queue_count) where
  abbrev t : List ℕ
  t = with_previous w after m

  abbrev r : List ℕ
  r = relinked w q before after n m

  kept : (j : ℕ) → (before < task_count → j ≡ field before next_word → ⊥) → (task_count ≤ before → j ≡ head_at q → ⊥) → (after < task_count → j ≡ field after previous_word → ⊥) → word r j ≡ word w j
  kept j a b c = lead_kept t q before n j a b ∙ previous_kept w after m j c

  pub relinked_beside : Beside next_word w r
  relinked_beside =
      record {
        long = lead_length t q before n ∙ previous_length w after m;
        kept = λ j nh nf. kept j (λ l. nf before next_word l (omega arith) (omega arith)) (λ l. nh q lq) (λ l. nf after previous_word l (omega arith) (omega arith));
      }

  -- The neighbours, or one of them and the head, are turned, task i has these links, and no other link or head has changed.
  module _ (long : length w ≡ word_count) {a i next previous : ℕ} {v : List ℕ} (o : Own a r v i next previous) where
    long_t : length t ≡ word_count
    long_t = previous_length w after m ∙ long

    head_turned : Dec (before < task_count) → head_in v q ≡ new_head task_count (link before) (head_in w q) (link n)
    head_turned (yes l) =
        rw (lt-ltb (target task_count (link before)) task_count (rw (leads_some before l) l))
        (ap link (own_heads o q lq ∙ kept (head_at q) (λ h e. omega arith) (λ h e. omega arith) (λ h e. omega arith)))
    head_turned (no ne) =
        let l : task_count ≤ before = omega arith in
        rw (le-ltb (target task_count (link before)) task_count (leads_none before l))
        (ap link (own_heads o q lq ∙ rw (lead_none t q before n l) (get_or-set_same t (head_at q) n 0 (omega (arith, long_t)))))

    pub written : Written task_count queue_count i q (link before) (link after) (link n) (link m) (link next) (link previous) (next_in w) (previous_in w) (head_in w) (next_in v) (previous_in v) (head_in v)
    written =
        record {
          sides = record {
            next_turned = λ x l ne e.
                let h : before ≡ x = link_is before x e in
                ap link (own_others o x next_word ne (omega arith) ∙ rw (lead_some t q before n (rw h l), h) (get_or-set_same t (field x next_word) n 0 (omega (arith, long_t))));
            next_kept = λ x ne e.
                ap link
                (own_others o x next_word ne (omega arith)
                ∙ kept (field x next_word) (λ l z. e (let s : x ≡ before = omega arith in ap pos s ∙ sym (link_some before (omega arith)))) (λ l z. omega arith) (λ l z. omega arith));
            previous_turned = λ x l ne e.
                let h : after ≡ x = link_is after x e in
                ap link
                (own_others o x previous_word ne (omega arith) ∙ lead_kept t q before n (field x previous_word) (λ b z. omega arith) (λ b z. omega arith)
                ∙ rw (previous_some w after m (rw h l), h) (get_or-set_same w (field x previous_word) m 0 (omega (arith, long))));
            previous_kept = λ x ne e.
                ap link
                (own_others o x previous_word ne (omega arith)
                ∙ kept (field x previous_word) (λ l z. omega arith) (λ l z. omega arith) (λ l z. e (let s : x ≡ after = omega arith in ap pos s ∙ sym (link_some after (omega arith)))));
          };
          next_is = ap link o.next_is;
          previous_is = ap link o.previous_is;
          head_is = head_turned (dec_lt before task_count);
          heads_kept = λ p l ne. ap link (own_heads o p l ∙ kept (head_at p) (λ h e. omega arith) (λ h e. ne (omega arith)) (λ h e. omega arith));
        }

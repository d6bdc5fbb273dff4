-- Number, count, the records as they stand, zeros and the check, each behind the one before it. Assumes nothing.
use Rattle.std.proofs.Common.{◌≡◌, subst, ap, ◌∙◌, List, ◌++◌, append_assoc, ℕ, ◌+◌, ◌-◌, ◌*◌, ◌≤◌, length, take, drop, replicate, arith}
use lib.ListN.{length-replicate}
use borrow.Author.Tests.{le-leb}
use Rattle.kernel.specs.Channels.{over}
use Rattle.big_endian.specs.BigEndian.{bytes}
use Rattle.tape.specs.Block.{block_size, count_at, record_size, most_records, check_at, record_at, check}
use Rattle.tape.specs.Writing.{closing, closed}
use Rattle.tape.proofs.Filled.{Filled, whole, first, number, and_number, more, left}
use Rattle.tape.proofs.close.Goals as goal

-- Behind n records.
abbrev zeros : ℕ → List ℕ
zeros n = replicate (check_at - record_at n) 0

module _ (b : List ℕ) (v n : ℕ) (room : block_size ≤ length b) (most : n ≤ most_records) where
  -- Bytes 0 to 509.
  unchecked : {numbered counted cleared : List ℕ}
      → numbered ≡ over b 0 (bytes 4 v) → counted ≡ over numbered count_at (bytes 2 n) → cleared ≡ over counted (record_at n) (zeros n)
      → Filled b 0 check_at (closing v n b) cleared
  unfolding closing
  unchecked {counted} {cleared} e f g =
      let none : 0 ≤ length b = omega arith in
      let used : record_at n ≡ 0 + record_at n = omega arith in
      let all : record_at n + (check_at - record_at n) ≡ check_at = omega arith in
      let records = left none (and_number none (number 4 v e) 2 n f) (record_size * n) (omega arith) in
      let full = more none records (check_at - record_at n) (zeros n) (length-replicate (check_at - record_at n) 0) (subst (λ (p : ℕ). cleared ≡ over counted p (zeros n)) used g) in
      rw all at (simp append_assoc at full)

  -- And all of it.
  checked : {w u : List ℕ} {s : ℕ} → Filled b 0 check_at (closing v n b) w → s ≡ check (take check_at w) → u ≡ over w check_at (bytes 2 s)
      → u ≡ closing v n b ++ (bytes 2 (check (closing v n b)) ++ drop block_size b)
  checked {s} f e g =
      let none : 0 ≤ length b = omega arith in
      let sum : s ≡ check (closing v n b) = e ∙ ap check (first none f) in
      whole none (and_number none f 2 s g) ∙ rw sum (simp append_assoc)

pub returns-clause-block_after : goal.returns-clause-block_after
unfolding closed
returns-clause-block_after c =
    let k = c.args in
    let room = c.if-block-lt-BLOCK.false in
    let most = c.if-count-gt-MOST_RECORDS.false in
    rw (le-leb block_size _ room, le-leb 1 _ c.if-count-lt1.false, le-leb _ most_records most)
    (checked k.block.now k.number k.count room most (unchecked k.block.now k.number k.count room most c.write.ensures c.write-2.ensures c.clear.ensures) c.check-sum.ensures c.write-3.ensures)

-- The tape of any script replays with none. Assumes nothing.
use mathlib.Core.Path.{◌≡◌, refl, ap, ◌∙◌}
use mathlib.Core.List.{List, [], ◌∷◌, ◌++◌, append-nil, append_assoc}
use mathlib.Core.Option.{none}
use Prim.Native.Nat.{ℕ, ◌+◌, ◌≤◌, ◌<◌}
use native.Mathlib.Omega.{arith}
use lib.Dec.{eqb}
use lib.ListN.{length, length-append}
use borrow.Author.Tests.{eqb-false, eq-eqb}
use Rattle.kernel.specs.Fresh.{fresh}
use Rattle.kernel.proofs.Decided.{either}
use Rattle.pieces.specs.Program.{lines, blocks, pieces_from, pieces}
use Rattle.pieces.proofs.Blocks.{block_ends}
use Rattle.tape.specs.declared.Record.{Record}
use Rattle.tape.specs.Block.{most_records, four_bytes, written}
use Rattle.tape.specs.Form.{AllRecordable}
use Rattle.tape.proofs.Back.{read_back}
use Rattle.tape.proofs.Held.{written_length}
use Rattle.records.specs.Records.{record_of}
use Rattle.records.proofs.Again.{same_outcome}
use Rattle.recorder.specs.Tape.{records, next, in_blocks, tape}
use Rattle.recorder.proofs.Calls.{of_calls, all_recordable}
use Rattle.replayer.specs.Replay.{told, replayed, AsAnswered}
use Rattle.replayer.proofs.Differs.{told_apart}

-- A block that the recorder writes tells its records.
block_tells : (number : ℕ) (rs : List Record) (more : List ℕ) → number < four_bytes → 1 ≤ length rs → length rs ≤ most_records → AllRecordable rs
    → told number (pieces blocks (written number rs ++ more)) ≡ rs ++ told (next number) (pieces blocks more)
unfolding told
block_tells number rs more low some most each =
    let b = written number rs in
    let back = rw (append-nil b) at (read_back number rs [] (record { number_fits = low; some = some; most = most; each = each })) in
    rw (block_ends [] b more (omega arith) (omega (arith, written_length number rs most)), back.0, back.1, eq-eqb number number refl)

both_recordable : (rs more : List Record) → AllRecordable (rs ++ more) → AllRecordable rs × AllRecordable more
unfolding AllRecordable
both_recordable [] more h = (tt, h)
both_recordable (r ∷ rs) more h = let others = both_recordable rs more h.1 in ((h.0, others.0), others.1)

-- So do the blocks of records, where some are in the block that is begun.
blocks_tell
    : (rs : List Record) (number : ℕ) (begun : List Record)
    → number < four_bytes
    → length begun < most_records
    → AllRecordable (begun ++ rs)
    → told number (pieces blocks (in_blocks number begun rs)) ≡ begun ++ rs
unfolding told in_blocks pieces_from
blocks_tell [] number [] low room fits = refl
blocks_tell [] number (r ∷ rs) low room fits =
    let b = r ∷ rs in
    rw (append-nil (written number b)) at (block_tells number b [] low (omega arith) (omega arith) (both_recordable b [] fits).0)
blocks_tell (r ∷ rs) number begun low room fits =
    let b = begun ++ (r ∷ []) in
    let size = length-append begun (r ∷ []) in
    let joined = append_assoc begun (r ∷ []) rs in
    let each = rw (← joined) at fits in
    either (λ (bs : List ℕ). told number (pieces blocks bs) ≡ begun ++ (r ∷ rs)) (eqb (length begun + 1) most_records)
    (λ t.
    let both = both_recordable b rs each in
    block_tells number b (in_blocks (next number) [] rs) low (omega arith) (omega arith) both.0
    ∙ ap (λ (x : List Record). b ++ x) (blocks_tell rs (next number) [] (omega arith) (omega arith) both.1)
    ∙ joined)
    (λ t. blocks_tell rs number b low (omega (arith, eqb-false (length begun + 1) most_records t)) each ∙ joined)

-- **replays**: the tape of any script replays with none.
pub replays : (script : List ℕ) → replayed (tape script) ≡ none
unfolding tape AsAnswered record_of
replays script =
    let ls = pieces lines script in
    let same = blocks_tell (records ls fresh) 0 [] (omega arith) (omega arith) (all_recordable ls fresh) in
    (told_apart (tape script)).1
    (rw same (of_calls AsAnswered (λ k. tt) (λ v k rs others. rw (same_outcome v k) (refl, others)) ls fresh))

-- What a line comes to in the code is what it comes to in the model. Assumes nothing.
use mathlib.Core.Path.{◌≡◌, refl, ap, sym, subst, ◌∙◌}
use mathlib.Core.List.{List, [], ◌∷◌, ◌++◌, append-nil}
use Prim.Native.Nat.{ℕ, ◌+◌, ◌≤◌, ◌<◌}
use native.Mathlib.Omega.{arith}
use lib.ListN.{length, length-append, drop_of_length-le}
use borrow.Author.Tests.{eq-eqb, ne_eqb}
use Rattle.std.proofs.Common.{Some, None}
use Rattle.kernel.specs.Answer.{Answer}
use Rattle.kernel.specs.Seen.{seen}
use Rattle.kernel.specs.Sound.{Sound}
use Rattle.verbs.specs.declared.Verb.{Verb}
use Rattle.verbs.specs.Verbs.{verb_of}
use Rattle.language.specs.Meaning.{meaning}
use Rattle.text.specs.Text.{Continued}
use Rattle.text.proofs.Follows.{nothing}
use Rattle.pieces.specs.declared.Turned as Code
use Rattle.pieces.specs.Program.{Turned}
use Rattle.pieces.specs.Reads.{Taken, Finished}
use Rattle.tape.specs.declared.Record.{Record}
use Rattle.tape.specs.Block.{block_size, most_records, written}
use Rattle.tape.specs.Writing.{placed, closed}
use Rattle.tape.specs.Form.{Holds}
use Rattle.tape.proofs.Held.{none_held, one_more_held, closed_written, placed_length, closed_length}
use Rattle.records.specs.Records.{outcome, record_of}
use Rattle.records.proofs.Made.{Made}
use Rattle.recorder.specs.declared.Begun.{Begun}
use Rattle.recorder.specs.Tape.{next, last_block, Recording, more_recorded, turn, recorder}
use Rattle.recorder.specs.Keeps.{Kept, Ready, Keeps, Recorded, put, full}

-- What is kept says the state but for the records themselves.
of_kept : {k : Kept} (P : Recording → Type 0)
    → ((begun : List Record) → Holds k.block begun → k.at.count ≡ length begun → P (record { kernel = seen k.words; begun = begun; number = k.at.number }))
    → (s : Recording) → Keeps k s → P s
of_kept P holds s h = subst P (λ i. record { kernel = h.kernel i; begun = s.begun; number = h.number i }) (holds s.begun h.records h.count)

-- ---- a record more

-- Closed, a block of 512 bytes is the one that is written.
all_written : (b : List ℕ) (number : ℕ) (rs : List Record) → length b ≡ block_size → 1 ≤ length rs → length rs ≤ most_records → Holds b rs → closed b number (length rs) ≡ written number rs
all_written b number rs size some most h =
    closed_written b number rs (omega arith) some most h ∙ ap (λ (x : List ℕ). written number rs ++ x) (drop_of_length-le b {i = block_size} (omega arith)) ∙ append-nil (written number rs)

-- In the words w' behind the call, the record r was put in the block.
module _ (b : List ℕ) (at : Begun) (r : Record) (w' : List ℕ) (size : length b ≡ block_size) (room : at.count < most_records) where
  pub still_ready : {paper b' paper' : List ℕ} {printed : ℕ} {t : Code.Turned Begun} → Sound w' → Recorded b at r paper printed b' paper' t → Ready (record { words = w'; block = b'; at = t.at })
  still_ready sound (put less e s u) = rw (u, e) (record { sound = sound; size = placed_length b at.count r ∙ size; room = less })
  still_ready sound (full same e s u) =
      rw (u, e) (record { sound = sound; size = closed_length (placed b at.count r) at.number most_records ∙ placed_length b at.count r ∙ size; room = omega arith })

  module _ (line w : List ℕ) (asked : Verb) (a : Answer) (asks : meaning line ≡ Some asked) (m : Made (verb_of asked) w w' a) (is : r ≡ record_of (verb_of asked) (seen w)) where
    abbrev before : Kept
    before = record { words = w; block = b; at = at }

    -- The model's turn, where these records are kept.
    abbrev turned : List Record → Turned Recording
    turned begun = more_recorded (outcome (verb_of asked) (seen w)).kernel begun at.number (record_of (verb_of asked) (seen w))

    by_turn : (P : Turned Recording → Type 0) → ((begun : List Record) → Holds b begun → at.count ≡ length begun → P (turned begun)) → (s : Recording) → Keeps before s → P (turn line s)
    unfolding turn
    by_turn P holds = of_kept {k = before} (λ s. P (turn line s)) (λ begun h c. rw asks (holds begun h c))

    -- The block holds a record more.
    held : (begun : List Record) → Holds b begun → at.count ≡ length begun → Holds (placed b at.count r) (begun ++ (record_of (verb_of asked) (seen w) ∷ []))
    held begun h c = rw (c, is) (one_more_held b begun (record_of (verb_of asked) (seen w)) (omega arith) (omega arith) h)

    one_longer : (begun : List Record) (x : Record) → length (begun ++ (x ∷ [])) ≡ length begun + 1
    one_longer begun x = length-append begun (x ∷ [])

    pub call_taken : {paper b' paper' : List ℕ} {printed : ℕ} {t : Code.Turned Begun} → Recorded b at r paper printed b' paper' t
        → Taken recorder Kept Keeps line before (record { words = w'; block = b'; at = t.at }) paper printed paper' t.printed
    call_taken {paper} {printed = printed} (put less e s u) =
        rw (u, e, s)
        (record {
          text = [];
          put = nothing paper printed;
          short = omega arith;
          keeps = by_turn (λ x. Keeps (record { words = w'; block = placed b at.count r; at = record { count = at.count + 1; number = at.number } }) x.state)
              (λ begun h c. rw (ne_eqb (length begun + 1) most_records (omega arith)) (record { kernel = m.kernel; records = held begun h c; count = rw (c, one_longer) refl; number = refl }));
          prints = by_turn (λ x. [] ≡ x.text) (λ begun h c. rw (ne_eqb (length begun + 1) most_records (omega arith)) refl);
        })
    call_taken {paper} {b'} {paper'} {printed} (full {n} same e c u) =
        rw u
        (record {
          text = b';
          put = c;
          short = omega (arith, ap length e, closed_length (placed b at.count r) at.number most_records, placed_length b at.count r);
          keeps = by_turn (λ x. Keeps (record { words = w'; block = b'; at = record { count = 0; number = next at.number } }) x.state)
              (λ begun h c. rw (eq-eqb (length begun + 1) most_records (omega arith)) (record { kernel = m.kernel; records = none_held b'; count = refl; number = refl }));
          prints = by_turn (λ x. b' ≡ x.text)
              (λ begun h c.
              let rs = begun ++ (record_of (verb_of asked) (seen w) ∷ []) in
              let l : length rs ≡ most_records = one_longer begun (record_of (verb_of asked) (seen w)) ∙ omega arith in
              rw (eq-eqb (length begun + 1) most_records (omega arith))
              (e ∙ ap (closed (placed b at.count r) at.number) (sym l) ∙ all_written (placed b at.count r) at.number rs (placed_length b at.count r ∙ size) (omega arith) (omega arith) (held begun h c)));
        })

-- ---- any other line, and the end

pub no_call_taken : (line : List ℕ) (k : Kept) (paper : List ℕ) (printed : ℕ) → meaning line ≡ None → Taken recorder Kept Keeps line k k paper printed paper printed
unfolding turn
no_call_taken line k paper printed none = record { text = []; put = nothing paper printed; short = omega arith; keeps = λ s h. rw none h; prints = λ s h. rw none refl }

-- A block that is begun goes out.
pub last_finished : (k : Kept) {paper b' paper' : List ℕ} {printed n : ℕ} → Ready k → (k.at.count ≡ 0 → ⊥) → b' ≡ closed k.block k.at.number k.at.count → Continued paper printed b' paper' n
    → Finished recorder Kept Keeps k paper printed paper' n
last_finished k {b' = b'} ready some e c =
    record {
      text = b';
      put = c;
      short = omega (arith, ap length e, closed_length k.block k.at.number k.at.count, ready.size);
      prints = of_kept {k = k} (λ s. b' ≡ last_block s.number s.begun) goes_out;
    }
  where
    goes_out : (begun : List Record) → Holds k.block begun → k.at.count ≡ length begun → b' ≡ last_block k.at.number begun
    goes_out [] h c = absurd (some c)
    goes_out (r ∷ rs) h c = e ∙ ap (closed k.block k.at.number) c ∙ all_written k.block k.at.number (r ∷ rs) ready.size (omega arith) (omega (arith, ready.room)) h

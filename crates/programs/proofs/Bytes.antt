-- One byte: it ends the piece that is begun, or goes on with it. Assumes nothing.
use mathlib.Core.Path.{◌≡◌, refl, ap, sym, subst, ◌∙◌}
use mathlib.Core.Bool.{true, false}
use mathlib.Core.List.{List, [], ◌∷◌, ◌++◌, append-nil}
use Prim.Native.Nat.{ℕ, ◌+◌, ◌≤◌, ◌<◌}
use native.Mathlib.Omega.{arith}
use native.Mathlib.Decide.{dec_lt}
use lib.ListN.{length, length-append}
use lib.Seq.{length-take-le}
use borrow.Author.Tests.{eq-eqb, ne_eqb}
use Rattle.text.proofs.Follows.{nothing}
use Rattle.pieces.specs.Program.{longest, Cut, lines, blocks, ends, ended, Turned}
use Rattle.pieces.specs.Reads.{Place, piece_ends, goes_on, byte, read, InBuffer, Begun, Longer}
use Rattle.pieces.proofs.Begun.{none_begun}
use Rattle.programs.specs.declared.Program.{Program}
use Rattle.programs.specs.declared.Program.TheVariants.{Dick, Record, Tape, Replay}
use Rattle.programs.specs.declared.Standing.{Standing}
use Rattle.programs.specs.Programs.{model, Keeps, Ready, Desk, Stands, with_begun, kept, desk, Reads, Ended, Fed}

-- ---- how a byte meets the piece that is begun

line_ends : (c : Cut) → c ≡ lines → (begun : List ℕ) (b : ℕ) → b ≡ 10 → (ends c begun b ≡ true) × (ended c begun b ≡ begun)
line_ends lines e begun b ten = (eq-eqb b 10 ten, refl)
line_ends blocks e begun b ten = absurd (let z : ◌≡◌ {A = ℕ} 0 1 = cc in omega arith)

line_goes_on : (c : Cut) → c ≡ lines → (begun : List ℕ) (b : ℕ) → (b ≡ 10 → ⊥) → ends c begun b ≡ false
line_goes_on lines e begun b ne = ne_eqb b 10 ne
line_goes_on blocks e begun b ne = absurd (let z : ◌≡◌ {A = ℕ} 0 1 = cc in omega arith)

block_ends : (c : Cut) → (c ≡ lines → ⊥) → (begun : List ℕ) (b : ℕ) → length begun + 1 ≡ longest → (ends c begun b ≡ true) × (ended c begun b ≡ begun ++ (b ∷ []))
block_ends lines ne begun b full = absurd (ne refl)
block_ends blocks ne begun b full = (eq-eqb (length begun + 1) longest full, refl)

block_goes_on : (c : Cut) → (c ≡ lines → ⊥) → (begun : List ℕ) (b : ℕ) → (length begun + 1 ≡ longest → ⊥) → ends c begun b ≡ false
block_goes_on lines ne begun b part = absurd (ne refl)
block_goes_on blocks ne begun b part = ne_eqb (length begun + 1) longest part

-- Of a piece that is no line as many bytes are counted as it has.
counted : {c : Cut} {buffer : List ℕ} {n : ℕ} (begun : List ℕ) (b : ℕ) → (c ≡ lines → ⊥) → length buffer ≡ longest → InBuffer c buffer n (begun ++ (b ∷ [])) → (n ≤ longest) × (length begun + 1 ≡ n)
counted {c} {buffer} {n} begun b ne size h = go (dec_lt longest n)
  where
    go : Dec (longest < n) → (n ≤ longest) × (length begun + 1 ≡ n)
    go (yes l) = absurd (ne (h.long l).0)
    go (no l) =
        let fits : n ≤ longest = omega arith in
        (fits, sym (length-append begun (b ∷ [])) ∙ ap length (h.whole fits) ∙ length-take-le n buffer (omega arith))

-- ---- what a byte reads, where it is known whether it ends the piece

module _ (p : Program) (b : ℕ) (d d' : Desk) where
  -- It does: the piece has its turn.
  byte_ends : (text : List ℕ) → ((x : Place (model p)) → Stands p d x → (ends (model p).cut x.begun b ≡ true) × Keeps p d'.kept ((model p).turn (ended (model p).cut x.begun b) x.state).state × (text ≡ ((model p).turn (ended (model p).cut x.begun b) x.state).text))
      → d'.kept.at.begun ≡ 0
      → Reads p (b ∷ []) d d' text
  unfolding read byte piece_ends
  byte_ends text turned none x h =
      let t = turned x h in
      rw t.0
      (record { keeps = t.1; begun = subst (λ (n : ℕ). Begun (model p).cut d'.piece n []) (sym none) (none_begun (model p).cut d'.piece) }, t.2 ∙ sym (append-nil _))

  -- It does not.
  byte_goes_on : ((x : Place (model p)) → Stands p d x → (ends (model p).cut x.begun b ≡ false) × Stands p d' (record { state = x.state; begun = x.begun ++ (b ∷ []) }))
      → Reads p (b ∷ []) d d' []
  unfolding read byte goes_on
  byte_goes_on on x h = let t = on x h in rw t.0 (t.1, refl)

-- ---- a byte is fed

module _ {p : Program} (b : ℕ) (d d' : Desk) {paper paper' : List ℕ} {printed n : ℕ} where
  -- The piece ended, and had its turn.
  fed_ended : (m : ℕ) → ((x : Place (model p)) → Stands p d x → (ends (model p).cut x.begun b ≡ true) × InBuffer (model p).cut d'.piece m (ended (model p).cut x.begun b))
      → Ended p d'.piece m d.kept d'.kept paper printed paper' n
      → Fed p b d d' paper printed paper' n
  fed_ended m at_end e =
      let t = e.turn.taken in
      record {
        ready = e.turn.ready;
        text = t.text;
        put = t.put;
        short = t.short;
        reads = byte_ends p b d d' t.text
            (λ x h.
            let z = at_end x h in
            let same = e.same (ended (model p).cut x.begun b) z.1 x.state in
            (z.0, subst (λ (u : Turned (model p).State). Keeps p d'.kept u.state) (sym same) (t.keeps x.state h.keeps), t.prints x.state h.keeps ∙ ap (λ (u : Turned (model p).State). u.text) (sym same)))
            e.turn.none_begun;
      }

-- What is kept does not say how much of a piece is begun.
still_kept : (p : Program) (w block : List ℕ) (at : Standing) (n : ℕ) (s : (model p).State) → Keeps p (kept w block at) s → Keeps p (kept w block (with_begun at n)) s
still_kept Dick w block at n s h = h
still_kept Record w block at n s h = h
still_kept Tape w block at n s h = h
still_kept Replay w block at n s h = h

module _ (p : Program) (b : ℕ) (w block piece : List ℕ) (at : Standing) where
  -- A newline ends a line.
  pub newline_fed : {v block' paper paper' : List ℕ} {at' : Standing} {printed n : ℕ} → (model p).cut ≡ lines → b ≡ 10 → Ended p piece at.begun (kept w block at) (kept v block' at') paper printed paper' n
      → Fed p b (desk w block at piece) (desk v block' at' piece) paper printed paper' n
  newline_fed {v} {block'} {at' = at'} cut ten e =
      fed_ended b (desk w block at piece) (desk v block' at' piece) at.begun
      (λ x h. let z = line_ends (model p).cut cut x.begun b ten in (z.0, subst (InBuffer (model p).cut piece at.begun) (sym z.1) h.begun.held))
      e

  module _ {piece' : List ℕ} {m : ℕ} (longer : (c : Cut) → Longer c piece at.begun b piece' m) where
    -- It is longer, and goes on.
    goes : {paper : List ℕ} {printed : ℕ} → Ready (kept w block at) → ((x : Place (model p)) → Stands p (desk w block at piece) x → (ends (model p).cut x.begun b ≡ false) × ((model p).cut ≡ blocks → m < longest))
        → Fed p b (desk w block at piece) (desk w block (with_begun at m) piece') paper printed paper printed
    goes {paper} {printed} ready on =
        record {
          ready = record { sound = ready.sound; size = ready.size; room = ready.room };
          text = [];
          put = nothing paper printed;
          short = omega arith;
          reads = byte_goes_on p b (desk w block at piece) (desk w block (with_begun at m) piece')
              (λ x h.
              let z = on x h in
              (z.0, record { keeps = still_kept p w block at m x.state h.keeps; begun = record { held = longer (model p).cut x.begun h.begun; part = z.1 } }));
        }

    pub line_fed : {paper : List ℕ} {printed : ℕ} → Ready (kept w block at) → (model p).cut ≡ lines → (b ≡ 10 → ⊥) → Fed p b (desk w block at piece) (desk w block (with_begun at m) piece') paper printed paper printed
    line_fed ready cut ne =
        goes ready (λ x h. (line_goes_on (model p).cut cut x.begun b ne, λ e. absurd (let z : lines ≡ blocks = sym cut ∙ e in let y : ◌≡◌ {A = ℕ} 0 1 = cc in omega arith)))

    module _ (no_line : (model p).cut ≡ lines → ⊥) (size : length piece' ≡ longest) where
      as_many : (x : Place (model p)) → Stands p (desk w block at piece) x → (m ≤ longest) × (length x.begun + 1 ≡ m)
      as_many x h = counted x.begun b no_line size (longer (model p).cut x.begun h.begun)

      pub part_fed : {paper : List ℕ} {printed : ℕ} → Ready (kept w block at) → (m ≡ longest → ⊥) → Fed p b (desk w block at piece) (desk w block (with_begun at m) piece') paper printed paper printed
      part_fed ready ne =
          goes ready (λ x h. let z = as_many x h in (block_goes_on (model p).cut no_line x.begun b (λ e. ne (sym z.1 ∙ e)), λ e. omega (arith, z.0)))

      -- A block that is full ends.
      pub block_fed : {v block' paper paper' : List ℕ} {at' : Standing} {printed n : ℕ} → m ≡ longest → Ended p piece' m (kept w block at) (kept v block' at') paper printed paper' n
          → Fed p b (desk w block at piece) (desk v block' at' piece') paper printed paper' n
      block_fed {v} {block'} {at' = at'} full e =
          fed_ended b (desk w block at piece) (desk v block' at' piece') m
          (λ x h.
          let z = block_ends (model p).cut no_line x.begun b ((as_many x h).1 ∙ full) in
          (z.0, subst (InBuffer (model p).cut piece' m) (sym z.1) (longer (model p).cut x.begun h.begun)))
          e

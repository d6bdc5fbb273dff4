-- What the bytes of a block come to, an exchange, and the exchanges so far. Assumes nothing.
use mathlib.Core.Path.{◌≡◌, refl, ap, ◌∙◌}
use mathlib.Core.Bool.{Bool, true}
use mathlib.Core.List.{List, [], ◌++◌}
use Prim.Native.Nat.{ℕ, ◌+◌, ◌-◌, ◌*◌, ◌≤◌, ◌<◌}
use native.Mathlib.Nat.{min-le_right}
use native.Mathlib.Omega.{arith}
use lib.IntN.{ℤ, pos, negsuc}
use lib.ListN.{length, take, drop, length-append, length-drop}
use lib.Seq.{length-take-le, take-add, take_all}
use Rattle.io.specs.Counts.{clamp_len}
use Rattle.kernel.specs.Fresh.{fresh_words}
use Rattle.pieces.specs.Program.{longest}
use Rattle.pieces.proofs.Parts.{none_read, both_read}
use Rattle.programs.specs.declared.Program.{Program}
use Rattle.programs.specs.declared.Standing.{Standing}
use Rattle.programs.specs.Programs.{model, Ready, Desk, Stands, start, kept, desk, Reads}
use Rattle.programs.proofs.Fresh.{fresh_ready}
use Rattle.console.specs.declared.Response.{Response}
use Rattle.console.specs.declared.Between.{Between}
use Rattle.console.specs.Exchange.{longest_block, count, came, Responds, stands, Exchange, Answers, Exchanges, none, one_more, most_exchanges}

-- ---- the bytes of a block

-- So many of them are read so far, from one desk to another, and C was handed what they print.
pub record ReadSoFar (p : Program) (bytes : List ℕ) (d₀ d : Desk) (paper : List ℕ) (read printed : ℕ) : Type 0 where
  pub text : List ℕ
  pub within : read ≤ length bytes
  pub ready : Ready d.kept
  pub piece_size : length d.piece ≡ longest
  pub paper_size : length paper ≡ longest_block
  pub few : printed ≤ longest_block * read
  pub reads : Reads p (take read bytes) d₀ d text
  pub handed : printed ≡ length text

pub none_so_far : (p : Program) (bytes : List ℕ) (d : Desk) {paper : List ℕ} → Ready d.kept → length d.piece ≡ longest → length paper ≡ longest_block
    → ReadSoFar p bytes d d paper 0 0
none_so_far p bytes d ready l s =
    record { text = []; within = omega arith; ready = ready; piece_size = l; paper_size = s; few = omega arith; reads = none_read (model p) Desk (Stands p) d; handed = refl }

-- What is still unread, as a part of the bytes.
abbrev pub unread : (bytes : List ℕ) (read : ℕ) → List ℕ
unread bytes read = take (length bytes - read) (drop read bytes)

unread_is : (bytes : List ℕ) (read : ℕ) → unread bytes read ≡ drop read bytes
unread_is bytes read = take_all (length bytes - read) (drop read bytes) (omega (arith, length-drop read bytes))

pub unread_length : (bytes : List ℕ) (read : ℕ) → length (unread bytes read) ≡ length bytes - read
unread_length bytes read = ap length (unread_is bytes read) ∙ length-drop read bytes

-- A paper more.
module _ {p : Program} {bytes : List ℕ} {d₀ d : Desk} {paper : List ℕ} {read printed : ℕ} (f : ReadSoFar p bytes d₀ d paper read printed) where
  pub paper_more : {d' : Desk} {paper' : List ℕ} (m k : ℕ) → m ≤ length (unread bytes read) → 0 < m → k ≤ length paper' → Ready d'.kept → length d'.piece ≡ length d.piece
      → length paper' ≡ length paper
      → Reads p (take m (unread bytes read)) d d' (take k paper')
      → (bytes_handed : ℕ) → bytes_handed ≡ length (take k paper')
      → ReadSoFar p bytes d₀ d' paper' (read + m) (printed + bytes_handed)
  paper_more {paper' = paper'} m k inside some fits ready l s r b e =
      record {
        text = f.text ++ take k paper';
        within = omega (arith, unread_length bytes read, f.within);
        ready = ready;
        piece_size = l ∙ f.piece_size;
        paper_size = s ∙ f.paper_size;
        few = omega (arith, length-take-le k paper' fits, f.paper_size, f.few);
        reads = rw (take-add read m bytes, ← unread_is bytes read) (both_read (model p) Desk (Stands p) (take read bytes) (take m (unread bytes read)) f.reads r);
        handed = rw (length-append f.text (take k paper')) (omega (arith, f.handed));
      }

-- It is over where C did not take all that it was handed, or all bytes are read.
pub over : {p : Program} {bytes : List ℕ} {d₀ d : Desk} {paper : List ℕ} {read printed : ℕ} {whole : Bool} → ReadSoFar p bytes d₀ d paper read printed
    → (whole ≡ true → length bytes ≤ read)
    → Responds p bytes d₀ d (record { read = read; at = d.kept.at; printed = printed; whole = whole })
over f h = record { text = f.text; within = f.within; reads = f.reads; handed = f.handed; all = λ e. let l = h e in let i = f.within in omega arith }

-- ---- the exchanges

-- No more are counted than the block has room for, and as many came.
counted : (got : ℤ) (most : ℕ) → clamp_len got most ≤ most
counted (pos k) most = min-le_right k most
counted (negsuc k) most = omega arith

pub came_length : (got : ℤ) (block : List ℕ) → length (came got block) ≡ count got block
came_length got block = length-take-le (count got block) block (counted got (length block))

-- What is made of C's answers is an exchange.
pub answered : {p : Program} {d : Desk} {w b piece : List ℕ} {next : Between} (got : ℤ) {block : List ℕ} {r : Response} → Ready (kept w b r.at)
    → Responds p (came got block) d (desk w b r.at piece) r
    → next ≡ stands (count got block) r
    → Ready (kept w b next.at) × Exchange p d next (desk w b next.at piece) block
answered got {block} {r} ready h e =
    rw e (
      ready,
      record {
        got = got;
        whole = r.whole;
        read = r.read;
        text = h.text;
        within = omega (arith, h.within, came_length got block);
        reads = h.reads;
        handed = h.handed;
        all = λ t. h.all t ∙ came_length got block;
        further = refl;
      },
    )

-- The exchanges so far, and how many there may still be.
pub record SoFar (p : Program) (titled : Bool) (at : Between) (d : Desk) (spare : ℕ) : Type 0 where
  pub ready : Ready d.kept
  pub answers : List Answers
  pub text : List ℕ
  pub exchanges : Exchanges p titled answers at d text
  pub left : length answers + spare ≡ most_exchanges

pub none_yet : {p : Program} {titled : Bool} {at : Standing} {w block piece : List ℕ} {n : ℕ} → at ≡ start → w ≡ fresh_words → length block ≡ longest → n ≡ length (model p).title
    → SoFar p titled (record { at = at; printed = n; further = titled }) (desk w block at piece) most_exchanges
none_yet a e size l = rw a record { ready = fresh_ready e size; answers = []; text = []; exchanges = none e l; left = omega arith }

pub once_more : {p : Program} {titled : Bool} {at next : Between} {d d' : Desk} {block : List ℕ} {spare : ℕ} → SoFar p titled at d spare → at.further ≡ true → 0 < spare → Ready d'.kept
    → Exchange p d next d' block
    → SoFar p titled next d' (spare - 1)
once_more f further some ready e =
    record { ready = ready; answers = _; text = _; exchanges = one_more f.exchanges further e; left = rw (length-append f.answers) (omega (arith, f.left)) }

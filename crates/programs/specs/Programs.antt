-- The programs, and what their code keeps between two pieces of the input. Assumes nothing.
use Rattle.std.specs.Prelude.{◌≡◌, List, [], ◌∷◌, ℕ, ◌≤◌, length}
use Rattle.kernel.specs.Seen.{seen}
use Rattle.text.specs.Text.{Continued}
use Rattle.pieces.specs.Program as Pieces
use Rattle.pieces.specs.Program.{longest}
use Rattle.pieces.specs.Reads.{Place, InBuffer, Begun, rest, Taken}
use Rattle.pieces.specs.Reads.{Reads as Pieces_as_Reads}
use Rattle.script.specs.Output.{dick}
use Rattle.recorder.specs.Tape.{recorder}
use Rattle.recorder.specs.Keeps as Recorder
use Rattle.lister.specs.Listing.{lister}
use Rattle.replayer.specs.Replay.{replayer, replaying}
use Rattle.replayer.specs.declared.Course.TheVariants.{GoesOn}
use Rattle.programs.specs.declared.Program.{Program}
use Rattle.programs.specs.declared.Program.TheVariants.{Dick, Record, Tape, Replay}
use Rattle.programs.specs.declared.Standing.{Standing}

-- What each program prints.
abbrev pub model : Program → Pieces.Program
model Dick = dick
model Record = recorder
model Tape = lister
model Replay = replayer

-- The words, the bytes of the tape's block that is begun, and where the program stands.
pub record Kept : Type 0 where
  pub words : List ℕ
  pub block : List ℕ
  pub at : Standing

-- What is kept is the program's state.
abbrev pub recording : Kept → Recorder.Kept
recording k = record { words = k.words; block = k.block; at = k.at.recorded }

abbrev pub Keeps : (p : Program) → Kept → (model p).State → Type 0
Keeps Dick k s = seen k.words ≡ s
Keeps Record k s = Recorder.Keeps (recording k) s
Keeps Tape k s = k.at.listed ≡ s
Keeps Replay k s = replaying k.words k.at.replayed ≡ s

-- Whatever it is: sound words, and a block that has room for a record.
abbrev pub Ready : Kept → Type 0
Ready k = Recorder.Ready (recording k)

-- With it the buffer of the piece that is begun.
pub record Desk : Type 0 where
  pub kept : Kept
  pub piece : List ℕ

-- That is where the reading stands.
pub record Stands (p : Program) (d : Desk) (x : Place (model p)) : Type 0 where
  pub keeps : Keeps p d.kept x.state
  pub begun : Begun (model p).cut d.piece d.kept.at.begun x.begun

-- What is kept at the start.
abbrev pub start : Standing
start = record { begun = 0; recorded = record { count = 0; number = 0 }; listed = 0; replayed = record { number = 0; index = 0; course = GoesOn } }

-- So many bytes of a piece are begun.
abbrev pub with_begun : Standing → ℕ → Standing
with_begun at n = record { begun = n; recorded = at.recorded; listed = at.listed; replayed = at.replayed }

-- ---- the promises of the functions

abbrev pub kept : List ℕ → List ℕ → Standing → Kept
kept w b at = record { words = w; block = b; at = at }

abbrev pub desk : List ℕ → List ℕ → Standing → List ℕ → Desk
desk w b at piece = record { kept = kept w b at; piece = piece }

-- From where it stands, these bytes bring the program to another desk and print the text.
abbrev pub Reads : Program → List ℕ → Desk → Desk → List ℕ → Type 0
Reads p bytes d d' text = Pieces_as_Reads (model p) Desk (Stands p) bytes d d' text

-- From where it stands, the end of the input prints the text.
abbrev pub Ends : Program → Desk → List ℕ → Type 0
Ends p d text = (x : Place (model p)) → Stands p d x → text ≡ rest (model p) x

-- A piece had its turn.
pub record Turn (p : Program) (piece : List ℕ) (k k' : Kept) (paper : List ℕ) (printed : ℕ) (paper' : List ℕ) (n : ℕ) : Type 0 where
  pub ready : Ready k'
  pub none_begun : k'.at.begun ≡ 0
  pub taken : Taken (model p) Kept (Keeps p) piece k k' paper printed paper' n

-- A piece that is ended had its turn, or one that has the same: the first m bytes of a buffer, where they are the piece.
pub record Ended (p : Program) (buffer : List ℕ) (m : ℕ) (k k' : Kept) (paper : List ℕ) (printed : ℕ) (paper' : List ℕ) (n : ℕ) : Type 0 where
  pub turned : List ℕ
  pub turn : Turn p turned k k' paper printed paper' n
  pub same : (piece : List ℕ) → InBuffer (model p).cut buffer m piece → (s : (model p).State) → (model p).turn piece s ≡ (model p).turn turned s

-- A byte was read, and the text that it printed was put on the paper.
pub record Fed (p : Program) (b : ℕ) (d d' : Desk) (paper : List ℕ) (printed : ℕ) (paper' : List ℕ) (n : ℕ) : Type 0 where
  pub ready : Ready d'.kept
  pub text : List ℕ
  pub put : Continued paper printed text paper' n
  pub short : length text ≤ longest
  pub reads : Reads p (b ∷ []) d d' text

-- What the recorder's code keeps between two lines. Assumes nothing.
use Rattle.std.specs.Prelude.{◌≡◌, List, ℕ, ◌+◌, ◌<◌, length}
use Rattle.kernel.specs.Seen.{seen}
use Rattle.kernel.specs.Sound.{Sound}
use Rattle.text.specs.Text.{Continued}
use Rattle.pieces.specs.declared.Turned.{Turned}
use Rattle.tape.specs.declared.Record.{Record}
use Rattle.tape.specs.Block.{block_size, most_records}
use Rattle.tape.specs.Writing.{placed, closed}
use Rattle.tape.specs.Form.{Holds}
use Rattle.recorder.specs.declared.Begun.{Begun}
use Rattle.recorder.specs.Tape.{next, Recording}

-- The words, the bytes of the block that is begun, and how many records it has and its number.
pub record Kept : Type 0 where
  pub words : List ℕ
  pub block : List ℕ
  pub at : Begun

-- Sound words, and a block that has room for a record.
pub record Ready (k : Kept) : Type 0 where
  pub sound : Sound k.words
  pub size : length k.block ≡ block_size
  pub room : k.at.count < most_records

-- What is kept is what is recorded.
pub record Keeps (k : Kept) (s : Recording) : Type 0 where
  pub kernel : seen k.words ≡ s.kernel
  pub records : Holds k.block s.begun
  pub count : k.at.count ≡ length s.begun
  pub number : k.at.number ≡ s.number

-- A record was put in the block that is begun, and where that was the last that it has room for, the block was closed and put on the paper.
pub data Recorded (b : List ℕ) (at : Begun) (r : Record) (paper : List ℕ) (printed : ℕ) (b' paper' : List ℕ) (t : Turned Begun) : Type 0 where
  put : at.count + 1 < most_records → b' ≡ placed b at.count r → paper' ≡ paper → t ≡ record { at = record { count = at.count + 1; number = at.number }; printed = printed } → Recorded b at r paper printed b' paper' t
  full : {n : ℕ} → at.count + 1 ≡ most_records → b' ≡ closed (placed b at.count r) at.number most_records → Continued paper printed b' paper' n
      → t ≡ record { at = record { count = 0; number = next at.number }; printed = n }
      → Recorded b at r paper printed b' paper' t

-- The blocks that the recorder can write, and a refusal by name. Assumes nothing.
use Rattle.std.specs.Prelude.{◌≡◌, true, false, List, [], ◌∷◌, ℕ, ◌*◌, ◌≤◌, ◌<◌, ℤ, pos, negsuc, length, get_or}
use Rattle.big_endian.specs.BigEndian.{part}
use Rattle.tape.specs.declared.Record.{Record}
use Rattle.tape.specs.declared.Fault.{Fault}
use Rattle.tape.specs.Block.{most_records, first_at, record_size, four_bytes, all_bytes}
use Rattle.tape.specs.Reader.{known, spare, Test}

-- Bytes are below 256.
abbrev pub Bytes : List ℕ → Type 0
Bytes bs = (i : ℕ) → get_or bs i 0 < 256

-- 4 bytes of two's complement have room for it.
abbrev pub Signed : ℤ → Type 0
Signed (pos n) = n < 2147483648
Signed (negsuc n) = n < 2147483648

-- A record that has room in its 16 bytes, of a verb of the list, with spare arguments 0.
pub record Recordable (r : Record) : Type 0 where
  pub verb : known r ≡ true
  pub spares : spare r ≡ true
  pub first : r.first < four_bytes
  pub second : r.second < four_bytes
  pub answer : Signed r.answer
  pub running : r.running < 256
  pub clock : r.clock < 65536

unfoldable pub AllRecordable : List Record → Type 0
AllRecordable [] = Unit
AllRecordable (r ∷ rs) = Recordable r × AllRecordable rs

-- The number and the records of a block that the recorder can write.
pub record Recorded (number : ℕ) (rs : List Record) : Type 0 where
  pub number_fits : number < four_bytes
  pub some : 1 ≤ length rs
  pub most : length rs ≤ most_records
  pub each : AllRecordable rs

-- Bytes that hold these records in their places, one behind the other from the first on.
abbrev pub Holds : List ℕ → List Record → Type 0
Holds b rs = part first_at (record_size * length rs) b ≡ all_bytes rs

-- The test of this name fails, and those before it hold.
pub data FirstFails (f : Fault) : List Test → Type 0 where
  here : {t : Test} {ts : List Test} → t.name ≡ f → t.holds ≡ false → FirstFails f (t ∷ ts)
  later : {t : Test} {ts : List Test} → t.holds ≡ true → FirstFails f ts → FirstFails f (t ∷ ts)

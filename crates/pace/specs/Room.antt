-- The calls that there is room for. Assumes nothing.
use Rattle.std.specs.Prelude.{ℕ}

abbrev pub room : ℕ
room = 4096

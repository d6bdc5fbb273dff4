-- Check numbers. Assumes nothing.
use Rattle.std.specs.Prelude.{ℕ, ◌+◌, ◌*◌, ◌%◌}

-- The greatest prime below 2^32. Check numbers are below it.
abbrev pub prime : ℕ
prime = 4294967291

-- One number more.
abbrev pub folded : ℕ → ℕ → ℕ
folded check n = (check * 31 + n) % prime

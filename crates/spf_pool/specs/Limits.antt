-- Limits of a pool.
use Rattle.std.specs.Prelude.{ℕ}

-- how many items a hand may give at most
abbrev pub max_capacity : ℕ
max_capacity = 8192

-- Limits of runs.
use Rattle.std.specs.Prelude.{ℕ}

-- how many workers may run the blocks of a construct
abbrev pub max_workers : ℕ
max_workers = 64

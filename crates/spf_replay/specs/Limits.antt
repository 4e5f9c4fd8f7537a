-- How large logs may become.
use Rattle.std.specs.Prelude.{ℕ}

-- how many steps the schedule of a run may have
abbrev pub max_steps : ℕ
max_steps = 1000000

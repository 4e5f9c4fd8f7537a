-- How much a run can count.
use Rattle.std.specs.Prelude.{ℕ, ◌^◌}

-- no count of a whole run is greater: a construct has at most 2^12 blocks, and a program fewer than 2^32 constructs
abbrev pub most_counted : ℕ
most_counted = 2 ^ 45

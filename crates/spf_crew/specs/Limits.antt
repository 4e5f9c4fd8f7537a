-- Limits of a crew.
use Rattle.std.specs.Prelude.{ℕ}

-- how many reports a crew may file: two for each block
abbrev pub max_reports : ℕ
max_reports = 8192

-- the last value of the sequence word, which is twice the number of reports filed
abbrev pub last_sequence : ℕ
last_sequence = 16384

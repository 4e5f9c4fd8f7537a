-- Why a run can't be made.
use Rattle.std.specs.Prelude.{◌≡◌, ℕ, ◌-◌, ◌^◌, min}
use Rattle.spf_exec_instance.specs.declared.layout.RunError.{RunError}
use Rattle.spf_exec_instance.specs.declared.layout.RunError.TheVariants.{TooManyCells, OutOfMemory}

-- a count as a number of 128 bits: the greatest one where the count is greater than that
abbrev pub counted : ℕ → ℕ
counted count = min count (2 ^ 128 - 1)

-- there are too many cells, and this is their number, unless memory ran out
abbrev pub IsTooMany : ℕ → RunError → Type 0
IsTooMany cells (TooManyCells count) = count ≡ counted cells
IsTooMany cells OutOfMemory = Unit {0}

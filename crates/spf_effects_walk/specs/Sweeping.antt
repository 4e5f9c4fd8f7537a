-- Sweeps in the code: how far an index is from a loop's name, part by part.
use Rattle.std.specs.Prelude.{ℕ, if◌then◌else◌, ◌==◌, List, Option, Some, None, ℤ, neg_ℤ}
use Rattle.spf_ast.specs.declared.syntax.Op.{Op}
use Rattle.spf_ast.specs.declared.syntax.Op.TheVariants.{Add, Sub}
use Rattle.spf_ast.specs.Syntax.{Expression, Number, Local, Statement, end, on_line}
use Rattle.spf_effects_findings.specs.Forms.{sweeps}
use Rattle.spf_effects_findings.specs.Found.{Sweep}

-- the slot that an expression is
abbrev pub slot_of : Expression → Option ℕ
slot_of (Local slot) = Some slot
slot_of _ = None

-- the number that an expression is
abbrev pub number_of : Expression → Option ℤ
number_of (Number n) = Some n
number_of _ = None

-- how far x + n or x - n is from x
abbrev pub signed : Op → ℤ → Option ℤ
signed Add n = Some n
signed Sub n = Some (neg_ℤ n)
signed _ n = None

-- how far the sum or difference of a slot and a number is from a loop's name
abbrev pub moved : ℕ → Op → Option ℕ → Option ℤ → Option ℤ
moved name op (Some slot) (Some n) = if slot == name then signed op n else None
moved name op (Some slot) None = None
moved name op None n = None

-- the sweeps of one statement
abbrev pub sweeps_of : ℕ → Statement → List Sweep
sweeps_of name s = sweeps name (on_line 0 s end)

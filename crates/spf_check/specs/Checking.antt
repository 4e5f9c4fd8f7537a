-- What a check of a program comes to.
use Rattle.std.specs.Prelude.{◌≡◌, Result, Ok, Err, Some, ℕ, slice_get}
use Rattle.spf_ast.specs.declared.syntax.Program as code
use Rattle.spf_ast.specs.View.{program}
use Rattle.spf_ast.specs.Construct.{Construct, constructs_in}
use Rattle.spf_check_rules.specs.Freedom.{IsRollbackFree}
use Rattle.spf_check.specs.declared.rule.CheckError.{CheckError}
use Rattle.spf_check.specs.declared.rule.CheckError.TheVariants.{Refused, OutOfMemory}
use Rattle.spf_check.specs.Accepting.{IsAccepted, IsFirstRefusal}

-- each top construct of the program is rollback free
abbrev pub IsFree : code.Program → Type 0
IsFree p = (number : ℕ) (construct : Construct) → slice_get (constructs_in (program p).main) number ≡ Some construct → IsRollbackFree (program p) construct

-- the program is accepted, and then rollback free; or it isn't accepted, and this is its first refusal; or memory ran
-- out; in each case it is passed on as it was
abbrev pub IsChecked : code.Program → Result code.Program CheckError → Type 0
IsChecked p (Ok checked) = (checked ≡ p) × IsAccepted (program p) × IsFree p
IsChecked p (Err (Refused back refusal)) =
    (back ≡ p) × (IsAccepted (program p) → ⊥) × IsFirstRefusal (program p) refusal.rule refusal.line refusal.range
IsChecked p (Err (OutOfMemory back)) = back ≡ p

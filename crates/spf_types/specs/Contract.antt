-- What `resolve` answers.
use Rattle.std.specs.Prelude.{◌≡◌, ◌⊎◌, ℕ, Some}
use Rattle.spf_ast.specs.Syntax.{Program}
use Rattle.spf_ast.specs.RawSyntax.{RawProgram}
use Rattle.spf_ast.specs.Lawful.{IsScoped, IsLawful}
use Rattle.spf_ast.specs.Spelling.{spelled}
use Rattle.spf_types_names.specs.declared.fault.TypeFault.{TypeFault}
use Rattle.spf_types_names.specs.Faults.{faults, first}
use Rattle.spf_types.specs.TooLarge.{limits_passed}

-- the raw program spells this program, which is lawful
pub record IsResolved (raw : RawProgram) (p : Program) : Type 0 where
  pub spelling : spelled raw.main_line p ≡ raw
  pub lawful : IsLawful p

-- the raw program spells a program that is scoped but passes a limit, first at this line
pub record IsTooLarge (raw : RawProgram) (what : TypeFault) (line : ℕ) : Type 0 where
  pub program : Program
  pub spelling : spelled raw.main_line program ≡ raw
  pub scoped : IsScoped program
  pub passed : first (limits_passed raw.main_line program) ≡ Some (record { what = what; line = line })

-- this is the first fault of the raw program, or the program that it spells is too large
abbrev pub IsRefused : RawProgram → TypeFault → ℕ → Type 0
IsRefused raw what line = (first (faults raw) ≡ Some (record { what = what; line = line })) ⊎ IsTooLarge raw what line

-- Programs without faults are those that spell scoped programs, what is spelled resolves to its program, and each raw
-- program resolves to one or is refused for one fault.
use Rattle.std.specs.Prelude.{◌≡◌, ◌⊎◌, ℕ, []}
use Rattle.spf_ast.specs.Syntax.{Program}
use Rattle.spf_ast.specs.RawSyntax.{RawProgram}
use Rattle.spf_ast.specs.Lawful.{IsScoped, IsLawful}
use Rattle.spf_ast.specs.Spelling.{IsWellFormed, spelled}
use Rattle.spf_types_names.specs.declared.fault.TypeFault.{TypeFault}
use Rattle.spf_types.specs.Contract.{IsResolved, IsRefused}
use Rattle.spf_types_names.specs.Faults.{faults}
use Rattle.spf_types_names.specs.Resolved.{resolved}

-- each program whose names are used only where they are declared, whatever its size, is spelled without faults
abbrev pub ScopedProgramsHaveNoFaults : Type 0
ScopedProgramsHaveNoFaults = (main_line : ℕ) (p : Program) → IsScoped p → faults (spelled main_line p) ≡ []

-- so is each lawful one
abbrev pub LawfulProgramsHaveNoFaults : Type 0
LawfulProgramsHaveNoFaults = (main_line : ℕ) (p : Program) → IsLawful p → faults (spelled main_line p) ≡ []

-- and what has no faults spells a scoped program
abbrev pub FaultlessProgramsAreScoped : Type 0
FaultlessProgramsAreScoped = (raw : RawProgram) → IsWellFormed raw → faults raw ≡ [] → (p : Program) × IsScoped p × (spelled raw.main_line p ≡ raw)

-- the spelling of a scoped program resolves to that program
abbrev pub SpellingsResolveToTheirPrograms : Type 0
SpellingsResolveToTheirPrograms = (main_line : ℕ) (p : Program) → IsScoped p → resolved (spelled main_line p) ≡ p

-- a raw program whose names are names and whose numbers a text can hold resolves to a lawful one, or is refused
abbrev pub ResolveOrAreRefused : Type 0
ResolveOrAreRefused =
    (raw : RawProgram) → IsWellFormed raw → ((p : Program) × IsResolved raw p) ⊎ ((what : TypeFault) × (line : ℕ) × IsRefused raw what line)

-- a raw program resolves to at most one program
abbrev pub ResolveToOne : Type 0
ResolveToOne = (raw : RawProgram) (p q : Program) → IsResolved raw p → IsResolved raw q → p ≡ q

-- it is refused for at most one fault
abbrev pub AreRefusedForOne : Type 0
AreRefusedForOne =
    (raw : RawProgram) (what other : TypeFault) (line other_line : ℕ) → IsRefused raw what line → IsRefused raw other other_line
    → (what ≡ other) × (line ≡ other_line)

-- and it isn't refused where it resolves to a program
abbrev pub ResolvedAreNotRefused : Type 0
ResolvedAreNotRefused = (raw : RawProgram) (p : Program) (what : TypeFault) (line : ℕ) → IsResolved raw p → IsRefused raw what line → ⊥

-- That one thing is said of a program: it is accepted or has one first refusal, and it has one explanation.
use Rattle.std.specs.Prelude.{◌≡◌, ◌⊎◌, ℕ, List, Option}
use Rattle.spf_ast.specs.Syntax.{Program}
use Rattle.spf_region.specs.declared.range.Range.{Range}
use Rattle.spf_check.specs.declared.rule.Rule.{Rule}
use Rattle.spf_check.specs.Accepting.{IsAccepted, IsFirstRefusal}
use Rattle.spf_check.specs.Explaining.{Explains}

-- a program has at most one first refusal
abbrev pub FirstRefusalsAreTheSame : Type 0
FirstRefusalsAreTheSame =
    (p : Program) (rule other : Rule) (line other_line : ℕ) (range other_range : Option Range)
    → IsFirstRefusal p rule line range → IsFirstRefusal p other other_line other_range
    → (rule ≡ other) × (line ≡ other_line) × (range ≡ other_range)

-- a program has a first refusal
abbrev pub IsRefused : Program → Type 0
IsRefused p = (rule : Rule) × (line : ℕ) × (range : Option Range) × IsFirstRefusal p rule line range

-- each program is accepted or has one
abbrev pub AreAcceptedOrRefused : Type 0
AreAcceptedOrRefused = (p : Program) → IsAccepted p ⊎ IsRefused p

-- a program that has one isn't accepted
abbrev pub RefusedAreNotAccepted : Type 0
RefusedAreNotAccepted = (p : Program) (rule : Rule) (line : ℕ) (range : Option Range) → IsFirstRefusal p rule line range → IsAccepted p → ⊥

-- a program has at most one explanation
abbrev pub ExplanationsAreTheSame : Type 0
ExplanationsAreTheSame = (p : Program) (one other : List ℕ) → Explains p one → Explains p other → one ≡ other

-- each program has one
abbrev pub AreExplained : Type 0
AreExplained = (p : Program) → (text : List ℕ) × Explains p text

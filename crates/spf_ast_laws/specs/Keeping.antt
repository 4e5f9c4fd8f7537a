-- Blocks that can be run on their own: they assign none of the slots that are declared outside them, and hold no `emit`.
use Rattle.std.specs.Prelude.{◌≡◌, ◌<◌, ℕ, true, false, ◌==◌, List, length, Some, slice_get}
use Rattle.std.specs.List.{Contains}
use Rattle.spf_ast.specs.declared.syntax.Part.{Part}
use Rattle.spf_ast.specs.Syntax.{Program, Statement, Block}
use Rattle.spf_ast.specs.Construct.{Construct, fold, pair, construct_of, constructs_in, statements_of}
use Rattle.spf_ast.specs.Lawful.{IsLawful, Names, names_at, Scope, IsLawfulStatement}
use Rattle.spf_ast.specs.Silence.{BlockIsSilent, PartIsSilent}
use Rattle.spf_ast.specs.Slots.{assigns, statement_assigns, assigns_outer, part_declares, part_assigns}

-- a statement assigns none of these slots
abbrev pub StatementSpares : List ℕ → Statement → Type 0
StatementSpares kept s = (slot : ℕ) → Contains kept slot → statement_assigns (λ other. other == slot) s ≡ false

-- nor does any statement of a block
abbrev pub BlockSpares : List ℕ → Block → Type 0
BlockSpares kept block = (slot : ℕ) → Contains kept slot → assigns (λ other. other == slot) block ≡ false

-- the blocks of a construct can be run on their own, where these slots are declared outside it
abbrev pub IsSelfContained : List ℕ → Construct → Type 0
IsSelfContained outer (fold line head body) = BlockSpares outer body × BlockIsSilent body
IsSelfContained outer (pair line head producer consumer) =
    (BlockSpares outer producer × BlockIsSilent producer) × (BlockSpares outer consumer × BlockIsSilent consumer)

-- the slots that may be used here were declared before
abbrev pub AreDeclared : Scope → Type 0
AreDeclared scope = (slot : ℕ) → Contains scope.visible slot → slot < scope.next

-- a lawful construct whose parts assign no slot that is declared outside of them, and emit nothing, is self-contained at its scope
abbrev pub ConstructsAreSelfContained : Type 0
ConstructsAreSelfContained =
    (names : Names) (scope : Scope) (line : ℕ) (s : Statement) (construct : Construct)
    → construct_of line s ≡ Some construct → IsLawfulStatement names true scope s → AreDeclared scope
    → ((part : Part) → assigns_outer (statements_of construct part) ≡ false) → ((part : Part) → PartIsSilent construct part)
    → IsSelfContained scope.visible construct

-- the construct is a lawful statement at an index of `main`, whose visible slots were declared before
pub record StandsInMain (p : Program) (construct : Construct) : Type 0 where
  pub scope : Scope
  pub line : ℕ
  pub statement : Statement
  pub is : construct_of line statement ≡ Some construct
  pub lawful : IsLawfulStatement (names_at p (length p.functions) p.slots) true scope statement
  pub declared : AreDeclared scope

-- so does each top construct of a lawful program
abbrev pub ConstructsStandInMain : Type 0
ConstructsStandInMain =
    (p : Program) (index : ℕ) (construct : Construct) → IsLawful p → slice_get (constructs_in p.main) index ≡ Some construct → StandsInMain p construct

-- a part that assigns no slot that is declared outside of its statements assigns none that it doesn't declare
abbrev pub PartsAssignWhatTheyDeclare : Type 0
PartsAssignWhatTheyDeclare =
    (construct : Construct) (part : Part) → assigns_outer (statements_of construct part) ≡ false
    → (slot : ℕ) → part_declares construct part slot ≡ false → part_assigns construct part slot ≡ false

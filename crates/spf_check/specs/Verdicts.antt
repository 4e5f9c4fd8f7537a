-- What is said of constructs and programs, and what a checked program keeps.
use Rattle.std.specs.Prelude.{◌≡◌, ℕ, ◌<◌, List, length, Option, Some, None, slice_get}
use Rattle.spf_ast.specs.Syntax.{Program}
use Rattle.spf_ast.specs.Lawful.{IsLawful}
use Rattle.spf_ast.specs.declared.syntax.Part.TheVariants.{Producer}
use Rattle.spf_ast.specs.Construct.{Construct, fold, pair, constructs_in}
use Rattle.spf_region.specs.declared.range.Range.{Range}
use Rattle.spf_check_rules.specs.Rules.{guessed_part, may_write, KeepsTheRules}
use Rattle.spf_check.specs.declared.checked.Writes.{Writes}
use Rattle.spf_check.specs.declared.check.Examined.{Examined}
use Rattle.spf_check.specs.declared.check.Examined.TheVariants as examined
use Rattle.spf_check.specs.declared.check.Verdict.{Verdict}
use Rattle.spf_check.specs.declared.check.Verdict.TheVariants as verdict
use Rattle.spf_check.specs.Accepting.{IsNormalFormOf, IsAccepted, IsLowestBroken, IsFirstRefusal, line_of}

-- a fold has no producer; this is what a pair's may write
abbrev pub IsProducerWrite : Program → Construct → Option (List Range) → Type 0
IsProducerWrite p (fold line head body) None = Unit {0}
IsProducerWrite p (fold line head body) (Some list) = ⊥
IsProducerWrite p (pair line head producer consumer) None = ⊥
IsProducerWrite p (pair line head producer consumer) (Some list) = IsNormalFormOf (may_write p (pair line head producer consumer) Producer) list

-- the lists are what the block parts of the construct may write
pub record AreWritesOf (p : Program) (construct : Construct) (w : Writes) : Type 0 where
  pub guessed : IsNormalFormOf (may_write p construct (guessed_part construct)) w.guessed
  pub producer : IsProducerWrite p construct w.producer

-- there are the writes of each top construct before this number
abbrev pub AreWritesBefore : Program → ℕ → List Writes → Type 0
AreWritesBefore p count writes =
    (number : ℕ) (construct : Construct) → number < count → slice_get (constructs_in p.main) number ≡ Some construct
    → (w : Writes) × (slice_get writes number ≡ Some w) × AreWritesOf p construct w

-- what is said of a construct
abbrev pub IsExamined : Program → Construct → Examined → Type 0
IsExamined p construct (examined.Accepted writes) = KeepsTheRules p construct × AreWritesOf p construct writes
IsExamined p construct (examined.Refused refusal) = IsLowestBroken p construct refusal.rule refusal.range × (refusal.line ≡ line_of construct)

-- a program that is kept as accepted, with what its constructs write
pub record IsKept (p : Program) (writes : List Writes) : Type 0 where
  pub lawful : IsLawful p
  pub accepted : IsAccepted p
  pub writes_are : AreWritesBefore p (length (constructs_in p.main)) writes

-- what is said of a program
abbrev pub IsVerdict : Program → Verdict → Type 0
IsVerdict p (verdict.Accepted writes) = IsAccepted p × AreWritesBefore p (length (constructs_in p.main)) writes.items
IsVerdict p (verdict.Refused refusal) = IsFirstRefusal p refusal.rule refusal.line refusal.range

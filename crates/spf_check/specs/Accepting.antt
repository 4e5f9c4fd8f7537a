-- Which programs are accepted, and what is said of those that aren't.
use Rattle.std.specs.Prelude.{◌≡◌, ◌⊎◌, ℕ, ◌<◌, false, List, ◌∷◌, ◌++◌, Option, Some, None, slice_get}
use Rattle.std.specs.List.{Contains}
use Rattle.spf_ast.specs.declared.syntax.Part.TheVariants.{Producer, Predictor}
use Rattle.spf_ast.specs.Syntax.{Program}
use Rattle.spf_ast.specs.Construct.{Construct, fold, pair, constructs_in}
use Rattle.spf_region.specs.declared.range.Range.{Range}
use Rattle.spf_region.specs.Ranges.{array_of, offsets_of, wholes_of, covers, separate, disjoint, IsNormal}
use Rattle.spf_effects_findings.specs.Parts.{part_effects}
use Rattle.spf_check_rules.specs.Rules.{
  guessed_part,
  may_write,
  reads_bare,
  IsWritten,
  KeepsTheRules,
  AssignsNoOuter,
  EmitsNothing,
  PredictorWritesNothing,
  WritesApart,
  PredictorReadsUnwritten,
  ReadsAfterWriting,
  WritesAll,
}
use Rattle.spf_check.specs.declared.rule.Rule.{Rule}
use Rattle.spf_check.specs.declared.rule.Rule.TheVariants.{OuterAssign, EmitInside, PredictorWrites, Overlap, PredictorReads, ReadBeforeWrite, NotOverwritten}

-- ---- accepted programs

-- the construct keeps the rule
abbrev pub Keeps : Program → Construct → Rule → Type 0
Keeps p construct OuterAssign = AssignsNoOuter p construct
Keeps p construct EmitInside = EmitsNothing p construct
Keeps p construct PredictorWrites = PredictorWritesNothing p construct
Keeps p construct Overlap = WritesApart p construct
Keeps p construct PredictorReads = PredictorReadsUnwritten p construct
Keeps p construct ReadBeforeWrite = ReadsAfterWriting p construct
Keeps p construct NotOverwritten = WritesAll p construct

-- a program is accepted where each top construct keeps all rules
abbrev pub IsAccepted : Program → Type 0
IsAccepted p = (number : ℕ) (construct : Construct) → slice_get (constructs_in p.main) number ≡ Some construct → KeepsTheRules p construct

-- ---- the ranges that are named

-- the normal form of a list: the same offsets and whole arrays, each once and in their order
pub record IsNormalFormOf (list normal : List Range) : Type 0 where
  pub is_normal : IsNormal normal
  pub offsets : offsets_of normal ≡ offsets_of list
  pub wholes : wholes_of normal ≡ wholes_of list

-- a range of the normal form of a list
pub record IsRangeOf (list : List Range) (r : Range) : Type 0 where
  pub ranges : List Range
  pub normal : IsNormalFormOf list ranges
  pub is_there : Contains ranges r

-- the first range of the normal form of a list for which this holds
pub record IsFirst (list : List Range) (Holds : Range → Type 0) (r : Range) : Type 0 where
  pub before : List Range
  pub later : List Range
  pub normal : IsNormalFormOf list (before ++ r ∷ later)
  pub holds : Holds r
  pub none_before : (s : Range) → Contains before s → Holds s → ⊥

-- the range isn't separate from one that the body may write, or isn't disjoint from one that the producer reads or may write
abbrev pub Overlaps : Program → Construct → Range → Type 0
Overlaps p (fold line head body) r = (s : Range) × IsRangeOf (may_write p (fold line head body) (guessed_part (fold line head body))) s × (separate r s ≡ false)
Overlaps p (pair line head producer consumer) r =
    (s : Range)
    × (IsRangeOf (reads_bare p (pair line head producer consumer) Producer) s ⊎ IsRangeOf (may_write p (pair line head producer consumer) Producer) s)
    × (disjoint r s ≡ false)

-- a refusal names a range: the first of those that break the rule
abbrev pub NamesFirst : List Range → (Range → Type 0) → Option Range → Type 0
NamesFirst list Holds None = ⊥
NamesFirst list Holds (Some r) = IsFirst list Holds r

-- the range that a refusal by a rule names, where the rule is about ranges
abbrev pub Names : Program → Construct → Rule → Option Range → Type 0
Names p construct OuterAssign range = range ≡ None
Names p construct EmitInside range = range ≡ None
Names p construct PredictorWrites range = NamesFirst (may_write p construct Predictor) (λ r. Unit {0}) range
Names p construct Overlap range = NamesFirst (may_write p construct (guessed_part construct)) (Overlaps p construct) range
Names p construct PredictorReads range = NamesFirst (reads_bare p construct Predictor) (λ r. IsWritten p construct (array_of r)) range
Names p construct ReadBeforeWrite range = NamesFirst (reads_bare p construct (guessed_part construct)) (λ r. IsWritten p construct (array_of r)) range
Names p construct NotOverwritten range =
    NamesFirst (may_write p construct (guessed_part construct)) (λ r. covers (part_effects p construct (guessed_part construct)).must r ≡ false) range

-- ---- refused programs

-- the line of a construct
abbrev pub line_of : Construct → ℕ
line_of (fold line head body) = line
line_of (pair line head producer consumer) = line

-- the order of the rules
abbrev pub rule_number : Rule → ℕ
rule_number OuterAssign = 1
rule_number EmitInside = 2
rule_number PredictorWrites = 3
rule_number Overlap = 4
rule_number PredictorReads = 5
rule_number ReadBeforeWrite = 6
rule_number NotOverwritten = 7

-- the lowest rule that a construct breaks, with the range that it names
pub record IsLowestBroken (p : Program) (construct : Construct) (rule : Rule) (range : Option Range) : Type 0 where
  pub breaks : Keeps p construct rule → ⊥
  pub lower : (other : Rule) → rule_number other < rule_number rule → Keeps p construct other
  pub names : Names p construct rule range

-- the first refusal: of the first top construct that breaks a rule, by the lowest that it breaks
pub record IsFirstRefusal (p : Program) (rule : Rule) (line : ℕ) (range : Option Range) : Type 0 where
  pub number : ℕ
  pub construct : Construct
  pub stands : slice_get (constructs_in p.main) number ≡ Some construct
  pub line_is : line ≡ line_of construct
  pub lowest : IsLowestBroken p construct rule range
  pub before : (other : ℕ) (earlier : Construct) → other < number → slice_get (constructs_in p.main) other ≡ Some earlier → KeepsTheRules p earlier

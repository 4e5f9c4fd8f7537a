-- How rules, ranges and explanations are written.
use Rattle.std.specs.Prelude.{◌≡◌, ◌⊎◌, ℕ, false, List, [], ◌∷◌, ◌++◌, codes, slice_get, Option, Some, None, pos, ◌+ℤ◌}
use Rattle.std.specs.Fmt.{decimal, signed_decimal}
use Rattle.spf_ast.specs.declared.syntax.Part.{Part}
use Rattle.spf_ast.specs.declared.syntax.Part.TheVariants.{Body, Producer, Consumer, Predictor}
use Rattle.spf_ast.specs.Syntax.{Array, Program}
use Rattle.spf_ast.specs.Construct.{Construct, fold, pair}
use Rattle.spf_region.specs.declared.range.Range.{Range}
use Rattle.spf_region.specs.declared.range.Range.TheVariants.{Whole, Affine}
use Rattle.spf_region.specs.Ranges.{array_of, offsets_of, wholes_of, IsNormal}
use Rattle.spf_effects_findings.specs.Parts.{part_effects}
use Rattle.spf_check_rules.specs.Rules.{may_write, reads_bare, KeepsTheRules}
use Rattle.spf_check.specs.declared.rule.Rule.{Rule}
use Rattle.spf_check.specs.declared.rule.Rule.TheVariants.{OuterAssign, EmitInside, PredictorWrites, Overlap, PredictorReads, ReadBeforeWrite, NotOverwritten}
use Rattle.spf_check.specs.Accepting.{IsNormalFormOf, IsLowestBroken}

-- pieces, one after another
abbrev pub joined : List (List ℕ) → List ℕ
joined [] = []
joined (piece ∷ pieces) = piece ++ joined pieces

-- the name of a rule
abbrev pub rule_name : Rule → List ℕ
rule_name OuterAssign = codes "outer-assign"
rule_name EmitInside = codes "emit-inside"
rule_name PredictorWrites = codes "predictor-writes"
rule_name Overlap = codes "overlap"
rule_name PredictorReads = codes "predictor-reads"
rule_name ReadBeforeWrite = codes "read-before-write"
rule_name NotOverwritten = codes "not-overwritten"

-- the name of an array, or nothing where there is no such array
abbrev pub name_in : Option Array → List ℕ
name_in None = []
name_in (Some a) = a.name

abbrev pub array_name : List Array → ℕ → List ℕ
array_name arrays array = name_in (slice_get arrays array)

-- the offsets of a range, in brackets: `[F*k+A..F*k+Z]` with Z one past the last offset, or `[..]` for a whole array
abbrev pub offsets_text : Range → List ℕ
offsets_text (Whole array) = codes "[..]"
offsets_text (Affine array f from to) =
    joined (codes "[" ∷ signed_decimal f ∷ codes "*k+" ∷ signed_decimal from ∷ codes ".." ∷ signed_decimal f
    ∷ codes "*k+" ∷ signed_decimal (to +ℤ pos 1) ∷ codes "]" ∷ [])

-- a range: the name of its array, and its offsets
abbrev pub range_text : List Array → Range → List ℕ
range_text arrays r = array_name arrays (array_of r) ++ offsets_text r

-- ranges, each after a space
abbrev pub ranges_text : List Array → List Range → List ℕ
ranges_text arrays [] = []
ranges_text arrays (r ∷ rest) = codes " " ++ (range_text arrays r ++ ranges_text arrays rest)

-- a range after a space, where there is one
abbrev pub perhaps_range : List Array → Option Range → List ℕ
perhaps_range arrays None = []
perhaps_range arrays (Some r) = codes " " ++ range_text arrays r

-- ---- explanations

-- the name of a part
abbrev pub part_name : Part → List ℕ
part_name Body = codes "body"
part_name Producer = codes "producer"
part_name Consumer = codes "consumer"
part_name Predictor = codes "predictor"

-- the line of a list of ranges
abbrev pub list_line : List Array → Part → List ℕ → List Range → List ℕ
list_line arrays part what ranges = joined (part_name part ∷ codes " " ∷ what ∷ ranges_text arrays ranges ∷ codes "\n" ∷ [])

-- the lines of a part with these lists
unfoldable pub part_lines : List Array → Part → (uncovered may must : List Range) → List ℕ
part_lines arrays part uncovered may must =
    joined (list_line arrays part (codes "uncovered") uncovered ∷ list_line arrays part (codes "may") may ∷ list_line arrays part (codes "must") must ∷ [])

-- the line of a rule that is broken, with its range
abbrev pub broken_line : List Array → Rule → Option Range → List ℕ
broken_line arrays rule range = joined (codes "verdict " ∷ rule_name rule ∷ perhaps_range arrays range ∷ codes "\n" ∷ [])

-- the lines of a part: what it reads uncovered, what it may write and what it surely writes, each in normal form
pub record IsPartText (p : Program) (construct : Construct) (part : Part) (text : List ℕ) : Type 0 where
  pub uncovered : List Range
  pub may : List Range
  pub must : List Range
  pub uncovered_is : IsNormalFormOf (reads_bare p construct part) uncovered
  pub may_is : IsNormalFormOf (may_write p construct part) may
  pub must_normal : IsNormal must
  pub must_offsets : offsets_of must ≡ (part_effects p construct part).must
  pub must_wholes : (array : ℕ) → wholes_of must array ≡ false
  pub text_is : text ≡ part_lines p.arrays part uncovered may must

-- the line of the verdict on a construct: accepted, or the lowest rule that it breaks, with its range
abbrev pub IsVerdictText : Program → Construct → List ℕ → Type 0
IsVerdictText p construct text =
    (KeepsTheRules p construct × (text ≡ codes "verdict accepted\n"))
    ⊎ ((rule : Rule)
    × (range : Option Range)
    × IsLowestBroken p construct rule range
    × (text ≡ broken_line p.arrays rule range))

-- the parts of a construct, in the order in which they are explained
abbrev pub parts_of : Construct → List Part
parts_of (fold line head body) = Predictor ∷ Body ∷ []
parts_of (pair line head producer consumer) = Producer ∷ Predictor ∷ Consumer ∷ []

-- the lines of several parts
abbrev pub ArePartTexts : Program → Construct → List Part → List ℕ → Type 0
ArePartTexts p construct [] text = text ≡ []
ArePartTexts p construct (part ∷ rest) text =
    (first : List ℕ) × (others : List ℕ) × IsPartText p construct part first × ArePartTexts p construct rest others × (text ≡ first ++ others)

-- the line that names a construct
abbrev pub construct_line : Construct → List ℕ
construct_line (fold line head body) = joined (codes "fold line " ∷ decimal line ∷ codes "\n" ∷ [])
construct_line (pair line head producer consumer) = joined (codes "pair line " ∷ decimal line ∷ codes "\n" ∷ [])

-- the lines of a construct
pub record IsConstructText (p : Program) (construct : Construct) (text : List ℕ) : Type 0 where
  pub parts : List ℕ
  pub verdict : List ℕ
  pub parts_are : ArePartTexts p construct (parts_of construct) parts
  pub verdict_is : IsVerdictText p construct verdict
  pub text_is : text ≡ joined (construct_line construct ∷ parts ∷ verdict ∷ [])

-- the lines of several constructs
abbrev pub AreConstructTexts : Program → List Construct → List ℕ → Type 0
AreConstructTexts p [] text = text ≡ []
AreConstructTexts p (construct ∷ rest) text =
    (first : List ℕ) × (others : List ℕ) × IsConstructText p construct first × AreConstructTexts p rest others × (text ≡ first ++ others)

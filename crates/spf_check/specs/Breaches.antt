-- Which rules the effects of a construct break, and by which ranges of their lists.
use Rattle.std.specs.Prelude.{ℕ, Bool, false, not, ◌||◌, if◌then◌else◌, List, [], ◌∷◌, Option, Some, None, find, option_map, slice_get}
use Rattle.std.specs.List.{list_any}
use Rattle.spf_region.specs.declared.range.Range.{Range}
use Rattle.spf_region.specs.Ranges.{array_of, has_array, offsets_of, covers, disjoint, first_unseparated}
use Rattle.spf_effects.specs.declared.effects.Effects.{Effects}
use Rattle.spf_check.specs.declared.breach.Breach.{Breach}
use Rattle.spf_check.specs.declared.construct.ConstructEffects.{ConstructEffects}
use Rattle.spf_check.specs.declared.rule.Rule.{Rule}
use Rattle.spf_check.specs.declared.rule.Rule.TheVariants.{OuterAssign, EmitInside, PredictorWrites, Overlap, PredictorReads, ReadBeforeWrite, NotOverwritten}

-- the producer's answer to a question, where there is a producer
abbrev pub of_producer : Option Effects → (Effects → Bool) → Bool
of_producer None ask = false
of_producer (Some e) ask = ask e

-- the construct may write the array
abbrev pub is_written : ConstructEffects → ℕ → Bool
is_written c array = has_array c.guessed.may array || of_producer c.producer (λ e. has_array e.may array)

abbrev pub assigns_outer : ConstructEffects → Bool
assigns_outer c = c.guessed.assigns_outer || of_producer c.producer (λ e. e.assigns_outer)

abbrev pub emits_inside : ConstructEffects → Bool
emits_inside c = c.guessed.emits || of_producer c.producer (λ e. e.emits)

-- the range shares cells with one of these
abbrev pub meets : Range → List Range → Bool
meets r others = list_any (λ s. not (disjoint r s)) others

-- the first range that two blocks share
abbrev pub overlap : List Range → Option Effects → Option Range
overlap may None = first_unseparated may
overlap may (Some e) = find (λ r. meets r e.uncovered || meets r e.may) may

abbrev pub first_overlap : ConstructEffects → Option Range
first_overlap c = overlap c.guessed.may c.producer

-- broken by no range, or by a range that was found
abbrev pub plain : Bool → Option Breach
plain is_broken = if is_broken then Some (record { range = None }) else None

abbrev pub by_range : Option Range → Option Breach
by_range range = option_map (λ r. record { range = Some r }) range

-- whether a rule is broken, and by which range
abbrev pub breach : ConstructEffects → Rule → Option Breach
breach c OuterAssign = plain (assigns_outer c)
breach c EmitInside = plain (emits_inside c)
breach c PredictorWrites = by_range (slice_get c.predictor.may 0)
breach c Overlap = by_range (first_overlap c)
breach c PredictorReads = by_range (find (λ r. is_written c (array_of r)) c.predictor.uncovered)
breach c ReadBeforeWrite = by_range (find (λ r. is_written c (array_of r)) c.guessed.uncovered)
breach c NotOverwritten = by_range (find (λ r. not (covers (offsets_of c.guessed.must) r)) c.guessed.may)

-- all rules, in their order
abbrev pub all_rules : List Rule
all_rules = OuterAssign ∷ EmitInside ∷ PredictorWrites ∷ Overlap ∷ PredictorReads ∷ ReadBeforeWrite ∷ NotOverwritten ∷ []

-- a rule with its range where it is broken, or else what is found further on
abbrev pub this_or : Rule → Option Breach → Option (Rule × Option Range) → Option (Rule × Option Range)
this_or rule None further = further
this_or rule (Some b) further = Some (rule, b.range)

-- the first of these rules that is broken, with its range
abbrev pub first_broken : ConstructEffects → List Rule → Option (Rule × Option Range)
first_broken c [] = None
first_broken c (rule ∷ rest) = this_or rule (breach c rule) (first_broken c rest)

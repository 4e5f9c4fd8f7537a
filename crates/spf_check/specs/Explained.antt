-- The lines of a construct by the effects that the analysis gave for it.
use Rattle.std.specs.Prelude.{ℕ, List, [], ◌∷◌, Option, Some, None}
use Rattle.spf_ast.specs.declared.syntax.Part.{Part}
use Rattle.spf_ast.specs.declared.syntax.Part.TheVariants.{Body, Producer, Consumer, Predictor}
use Rattle.spf_ast.specs.Syntax.{Array}
use Rattle.spf_effects.specs.declared.effects.Effects.{Effects}
use Rattle.spf_check.specs.declared.construct.ConstructEffects.{ConstructEffects}
use Rattle.spf_check.specs.Text.{joined, part_lines}

-- the lines of a part with these effects
abbrev pub effects_lines : List Array → Part → Effects → List ℕ
effects_lines arrays part e = part_lines arrays part e.uncovered e.may e.must

-- the lines of the parts of a fold
abbrev pub fold_lines : List Array → (predictor body : Effects) → List ℕ
fold_lines arrays predictor body = joined (effects_lines arrays Predictor predictor ∷ effects_lines arrays Body body ∷ [])

-- the lines of the parts of a pair
abbrev pub pair_lines : List Array → (producer predictor consumer : Effects) → List ℕ
pair_lines arrays producer predictor consumer =
    joined (effects_lines arrays Producer producer ∷ effects_lines arrays Predictor predictor ∷ effects_lines arrays Consumer consumer ∷ [])

-- the lines of all parts: where there is a producer, of a pair
abbrev pub lines_with : List Array → (guessed predictor : Effects) → Option Effects → List ℕ
lines_with arrays guessed predictor None = fold_lines arrays predictor guessed
lines_with arrays guessed predictor (Some producer) = pair_lines arrays producer predictor guessed

abbrev pub parts_lines : List Array → ConstructEffects → List ℕ
parts_lines arrays c = lines_with arrays c.guessed c.predictor c.producer

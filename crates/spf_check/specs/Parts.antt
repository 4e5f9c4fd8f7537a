-- That effects are those of a construct's parts.
use Rattle.std.specs.Prelude.{Option, Some, None, MatchOption}
use Rattle.spf_ast.specs.declared.syntax.Part.TheVariants.{Producer, Predictor}
use Rattle.spf_ast.specs.Syntax.{Program}
use Rattle.spf_ast.specs.Construct.{Construct, fold, pair}
use Rattle.spf_effects.specs.declared.effects.Effects.{Effects}
use Rattle.spf_effects_findings.specs.Parts.{part_effects}
use Rattle.spf_region.specs.Ranges.{IsNormal}
use Rattle.spf_effects.specs.Effects.{AreEffects}
use Rattle.spf_check.specs.declared.construct.ConstructEffects.{ConstructEffects}
use Rattle.spf_check_rules.specs.Rules.{guessed_part}

-- a fold has no producer; these are the effects of a pair's
abbrev pub IsProducerOf : Program → Construct → Option Effects → Type 0
IsProducerOf p (fold line head body) None = Unit {0}
IsProducerOf p (fold line head body) (Some e) = ⊥
IsProducerOf p (pair line head producer consumer) None = ⊥
IsProducerOf p (pair line head producer consumer) (Some e) = AreEffects (part_effects p (pair line head producer consumer) Producer) e

-- these are the effects of all parts of the construct
pub record AreEffectsOf (p : Program) (construct : Construct) (c : ConstructEffects) : Type 0 where
  pub guessed : AreEffects (part_effects p construct (guessed_part construct)) c.guessed
  pub predictor : AreEffects (part_effects p construct Predictor) c.predictor
  pub producer : IsProducerOf p construct c.producer

-- all its lists are in normal form
pub record AreNormal (c : ConstructEffects) : Type 0 where
  pub bare : IsNormal c.guessed.uncovered
  pub may : IsNormal c.guessed.may
  pub must : IsNormal c.guessed.must
  pub guess_bare : IsNormal c.predictor.uncovered
  pub guess_may : IsNormal c.predictor.may
  pub guess_must : IsNormal c.predictor.must
  pub producer : MatchOption c.producer (Unit {0}) (λ e. IsNormal e.may × IsNormal e.uncovered × IsNormal e.must)

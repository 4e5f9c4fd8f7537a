-- That each part has effects in lists of ranges.
use Rattle.spf_ast.specs.declared.syntax.Part.{Part}
use Rattle.spf_ast.specs.Syntax.{Program}
use Rattle.spf_ast.specs.Construct.{Construct}
use Rattle.spf_region.specs.Ranges.{IsNormal}
use Rattle.spf_effects.specs.declared.effects.Effects as code
use Rattle.spf_effects.specs.Effects.{AreEffects}
use Rattle.spf_effects_findings.specs.Parts.{PartEffects, part_effects}

-- there are lists in normal form with the offsets and whole arrays of these effects
pub record HasLists (part : PartEffects) : Type 0 where
  pub effects : code.Effects
  pub are : AreEffects part effects
  pub uncovered_normal : IsNormal effects.uncovered
  pub may_normal : IsNormal effects.may
  pub must_normal : IsNormal effects.must

-- the effects of each part of each construct have such lists
abbrev pub EffectsHaveLists : Type 0
EffectsHaveLists = (p : Program) (construct : Construct) (part : Part) → HasLists (part_effects p construct part)

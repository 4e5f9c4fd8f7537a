-- Effects that are made of what was found.
use Rattle.std.specs.Prelude.{◌≡◌}
use Rattle.spf_ast.specs.Syntax.{Block}
use Rattle.spf_effects.specs.declared.effects.Effects as code
use Rattle.spf_effects_findings.specs.Extends.{Lists}
use Rattle.spf_ast.specs.Slots.{assigns_outer, emits}

-- the lists that were found, and what the statements do besides
pub record IsGathered (found : Lists) (statements : Block) (e : code.Effects) : Type 0 where
  pub uncovered : e.uncovered ≡ found.uncovered
  pub may : e.may ≡ found.may
  pub must : e.must ≡ found.written
  pub assigns_outer : e.assigns_outer ≡ assigns_outer statements
  pub emits : e.emits ≡ emits statements

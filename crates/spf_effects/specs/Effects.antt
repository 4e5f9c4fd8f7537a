-- Effects as the code gives them.
use Rattle.std.specs.Prelude.{◌≡◌, ℕ, false}
use Rattle.spf_region.specs.Ranges.{offsets_of, wholes_of}
use Rattle.spf_ast.specs.Syntax.{Block}
use Rattle.spf_effects.specs.declared.effects.Effects as code
use Rattle.spf_effects_findings.specs.Found.{Finds, nowhere}
use Rattle.spf_effects_findings.specs.Parts.{PartEffects}
use Rattle.spf_ast.specs.Slots.{assigns_outer, emits}

-- the effects of a form with these statements, examined with nothing written before
abbrev pub effects_of : Finds → Block → PartEffects
effects_of finds statements =
    let found = finds nowhere in
    record {
      uncovered = found.uncovered;
      may = found.may;
      must = found.written;
      assigns_outer = assigns_outer statements;
      emits = emits statements;
    }

-- the lists have exactly the offsets and the whole arrays of the effects; what is surely written has no whole array
pub record AreEffects (part : PartEffects) (e : code.Effects) : Type 0 where
  pub uncovered : offsets_of e.uncovered ≡ offsets_of part.uncovered
  pub uncovered_wholes : wholes_of e.uncovered ≡ wholes_of part.uncovered
  pub may : offsets_of e.may ≡ offsets_of part.may
  pub may_wholes : wholes_of e.may ≡ wholes_of part.may
  pub must : offsets_of e.must ≡ part.must
  pub must_wholes : (array : ℕ) → wholes_of e.must array ≡ false
  pub assigns_outer : e.assigns_outer ≡ part.assigns_outer
  pub emits : e.emits ≡ part.emits

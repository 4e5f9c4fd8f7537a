use Rattle.std.proofs.Common.{subst}
use Rattle.spf_ast.specs.declared.syntax.Part.TheVariants.{Body, Predictor}
use Rattle.spf_ast.specs.View.{program}
use Rattle.spf_effects.specs.Effects.{AreEffects}
use Rattle.spf_effects_findings.specs.Parts.{part_effects}
use Rattle.spf_check.proofs.check.fold_effects.Goals as goal

pub returns : goal.returns
returns c = λ line head body is. record {
  guessed = subst (λ k. AreEffects (part_effects (program c.args.program.now) k Body) c.in_ok-effects.field-0) is c.in_ok-effects.ensures.exact;
  predictor = subst (λ k. AreEffects (part_effects (program c.args.program.now) k Predictor) c.in_ok-effects-2.field-0) is c.in_ok-effects-2.ensures.exact;
  producer = tt;
}

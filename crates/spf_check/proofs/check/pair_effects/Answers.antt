use Rattle.std.proofs.Common.{subst}
use Rattle.spf_ast.specs.declared.syntax.Part.TheVariants.{Consumer, Predictor, Producer}
use Rattle.spf_ast.specs.View.{program}
use Rattle.spf_effects.specs.Effects.{AreEffects}
use Rattle.spf_effects_findings.specs.Parts.{part_effects}
use Rattle.spf_check.proofs.check.pair_effects.Goals as goal

pub returns : goal.returns
returns c = λ line head producer consumer is. record {
  guessed = subst (λ k. AreEffects (part_effects (program c.args.program.now) k Consumer) c.in_ok-effects.field-0) is c.in_ok-effects.ensures.exact;
  predictor = subst (λ k. AreEffects (part_effects (program c.args.program.now) k Predictor) c.in_ok-effects-2.field-0) is c.in_ok-effects-2.ensures.exact;
  producer = subst (λ k. AreEffects (part_effects (program c.args.program.now) k Producer) c.in_ok-effects-3.field-0) is c.in_ok-effects-3.ensures.exact;
}

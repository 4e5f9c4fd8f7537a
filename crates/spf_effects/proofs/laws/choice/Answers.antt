use Rattle.spf_effects_findings.proofs.Either.{extends_either}
use Rattle.spf_effects.proofs.laws.choice.Goals as goal

pub returns : goal.returns
returns c = extends_either

use Rattle.spf_effects_findings.proofs.Then.{extends_then}
use Rattle.spf_effects.proofs.laws.sequence.Goals as goal

pub returns : goal.returns
returns c = extends_then

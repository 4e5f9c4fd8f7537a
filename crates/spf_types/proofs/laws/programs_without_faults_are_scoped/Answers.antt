use Rattle.spf_types_names.specs.Resolved.{resolved}
use Rattle.spf_types.proofs.SoundPrograms.{program_ok}
use Rattle.spf_types.proofs.laws.programs_without_faults_are_scoped.Goals as goal

pub returns : goal.returns
returns c raw w h = let p = program_ok raw h w in (resolved raw, p.0, p.1)

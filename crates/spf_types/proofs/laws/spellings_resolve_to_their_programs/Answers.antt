use Rattle.spf_types.proofs.UniquePrograms.{program_same}
use Rattle.spf_types.proofs.laws.spellings_resolve_to_their_programs.Goals as goal

pub returns : goal.returns
returns c = program_same

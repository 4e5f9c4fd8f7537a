use Rattle.spf_types.proofs.FaultlessPrograms.{spelled_faultless}
use Rattle.spf_types.proofs.laws.lawful_programs_have_no_faults.Goals as goal

pub returns : goal.returns
returns c = record { scoped = spelled_faultless; lawful = λ main_line p w. spelled_faultless main_line p w.scoped }

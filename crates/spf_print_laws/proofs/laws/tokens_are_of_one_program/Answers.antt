use Rattle.spf_print_laws.proofs.Once.{reads_once}
use Rattle.spf_print_laws.proofs.Shared.{none_left}
use Rattle.spf_print_laws.proofs.laws.tokens_are_of_one_program.Goals as goal

pub returns : goal.returns
returns c = record { one = reads_once; left = none_left }

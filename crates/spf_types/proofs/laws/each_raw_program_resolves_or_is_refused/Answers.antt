use Rattle.spf_types.proofs.Whole.{resolves_or_refused, one_program, one_fault, not_both}
use Rattle.spf_types.proofs.laws.each_raw_program_resolves_or_is_refused.Goals as goal

pub returns : goal.returns
returns c = record { some = resolves_or_refused; one_program = one_program; one_fault = one_fault; not_both = not_both }

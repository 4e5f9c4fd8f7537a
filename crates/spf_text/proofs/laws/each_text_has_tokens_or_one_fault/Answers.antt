use Rattle.spf_text.proofs.Verdicts.{one_fault_alone}
use Rattle.spf_text.proofs.Whole.{tokens_or_fault}
use Rattle.spf_text.proofs.laws.each_text_has_tokens_or_one_fault.Goals as goal

pub returns : goal.returns
returns c = record { some = tokens_or_fault; one = one_fault_alone }

use Rattle.std.proofs.Common.{◌∙◌, sym}
use Rattle.spf_batch_lists.proofs.Verdicts.{apart, one, some}
use Rattle.spf_batch_lists.proofs.laws.lists_have_one_verdict.Goals as goal

pub returns : goal.returns
returns c = record { apart = apart; names = λ list names others a b. sym a.lines_are ∙ b.lines_are; one = one; some = some }

use Rattle.spf_check.proofs.Explained.{one-explanation}
use Rattle.spf_check.proofs.Judging.{explained}
use Rattle.spf_check.proofs.laws.one_explanation.Goals as goal

pub returns : goal.returns
returns c = record { some = explained c.each_part_has_effects_in_lists.ensures; one = one-explanation }

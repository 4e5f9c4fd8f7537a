use Rattle.spf_check_rules.proofs.laws.blocks_overwrite.Goals as goal
use Rattle.spf_check_rules.proofs.Overwrite.{overwrites}

pub returns : goal.returns
returns c = λ p construct s one other free setup agree. overwrites c.each_form_has_one_plain_run.ensures.parts p construct s one other free setup agree

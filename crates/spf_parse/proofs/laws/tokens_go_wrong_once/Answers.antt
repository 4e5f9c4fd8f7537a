use Rattle.spf_parse.proofs.Texts.{go_wrong_once}
use Rattle.spf_parse.proofs.laws.tokens_go_wrong_once.Goals as goal

pub returns : goal.returns
returns c = go_wrong_once

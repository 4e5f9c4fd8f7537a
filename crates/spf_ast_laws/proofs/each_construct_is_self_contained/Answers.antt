use Rattle.spf_ast_laws.proofs.SelfContained.{self-contained}
use Rattle.spf_ast_laws.proofs.each_construct_is_self_contained.Goals as goal

pub returns : goal.returns
returns c = self-contained

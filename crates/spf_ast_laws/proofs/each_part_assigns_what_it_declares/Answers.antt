use Rattle.spf_ast_laws.proofs.SelfContained.{own-assigned}
use Rattle.spf_ast_laws.proofs.each_part_assigns_what_it_declares.Goals as goal

pub returns : goal.returns
returns c = own-assigned

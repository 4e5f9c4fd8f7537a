use Rattle.spf_ast.proofs.GoingOn.{block-goes, lawful-keeps, program-keeps}
use Rattle.spf_ast.proofs.laws.breaks_stay_in_their_loops.Goals as goal

pub returns-clause-go_on : goal.returns-clause-go_on
returns-clause-go_on c = block-goes

pub returns-clause-lawful : goal.returns-clause-lawful
returns-clause-lawful c = lawful-keeps

pub returns-clause-programs : goal.returns-clause-programs
returns-clause-programs c = program-keeps

use Rattle.std.proofs.Common.{arith}
use Rattle.spf_ast.proofs.LawfulPrograms.{functions-silent, few-constructs}
use Rattle.spf_ast.proofs.laws.lawful_programs_are_quiet_and_small.Goals as goal

pub returns-clause-functions : goal.returns-clause-functions
returns-clause-functions c p l = functions-silent p l.scoped

pub returns-clause-constructs : goal.returns-clause-constructs
returns-clause-constructs c p l = let most = few-constructs p l in omega (arith, most)

use Rattle.spf_ast.specs.Meaning.{expression_means, condition_means, block_means}
use Rattle.spf_ast.specs.BlockRun.{part_asks}
use Rattle.spf_ast.proofs.PlainRuns.{one_plain_run}
use Rattle.spf_ast.proofs.laws.each_form_has_one_plain_run.Goals as goal

pub returns-clause-expressions : goal.returns-clause-expressions
returns-clause-expressions c g line e state memory = one_plain_run (expression_means g line e state) memory

pub returns-clause-conditions : goal.returns-clause-conditions
returns-clause-conditions c g line condition state memory = one_plain_run (condition_means g line condition state) memory

pub returns-clause-blocks : goal.returns-clause-blocks
returns-clause-blocks c g block state memory = one_plain_run (block_means g block state) memory

pub returns-clause-parts : goal.returns-clause-parts
returns-clause-parts c p construct part s memory = let one = one_plain_run (part_asks p construct part s) memory in record { is = one.is; only = one.only }

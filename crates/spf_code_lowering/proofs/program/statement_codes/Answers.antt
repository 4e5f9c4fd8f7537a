use Rattle.spf_code_lowering.specs.Lowering.{callees_in}
use Rattle.spf_code_lowering.proofs.Parts.{all_statements}
use Rattle.spf_code_lowering.proofs.program.statement_codes.Goals as goal

pub returns : goal.returns
returns c = record {
  codes = λ calls. all_statements (callees_in c.args.scope.now) calls c.args.scope.now.own c.args.main.now c.loop-stmt.stmt-index c.loop-stmt.codes.items c.loop-stmt-test.false (c.loop-stmt.invariant.codes calls);
}

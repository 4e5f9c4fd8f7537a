use Rattle.spf_ast.specs.View.{statement}
use Rattle.spf_code_lowering.specs.Lowering.{callees_in, RunIn}
use Rattle.spf_code_lowering.proofs.Same.{run-too, whole}
use Rattle.spf_code_lowering.proofs.program.statement_code.Goals as goal

pub returns : goal.returns
returns c = record {
  code = λ calls.
      let s = c.args.scope.now in
      let line = c.args.stmt.now.line in
      let form = statement c.args.stmt.now.kind in
      whole c.statement.new.out.items c.in_ok-list.list.items (RunIn s calls line form) (run-too (callees_in s) calls line s.own form) (c.in_ok-list.ensures {u = tt}) (rw c.new-nodes.ensures.items at c.in_ok-statement.ensures.wrote calls);
}

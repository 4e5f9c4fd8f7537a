use Rattle.std.proofs.Common.{drop, ℕ}
use Rattle.spf_ast.specs.View.{block}
use Rattle.spf_code_lowering.specs.Lowering.{callees_in}
use Rattle.spf_code_lowering.proofs.Parts.{StatementsSoFar}
use Rattle.spf_code_lowering.proofs.program.statement_codes.Given as goal

-- with the codes of the statements that are left, these are the codes of all of them
abbrev pub invariant-loop-stmt : goal.invariant-loop-stmt
invariant-loop-stmt l = record {
  codes : (calls : ℕ → ℕ) → StatementsSoFar (callees_in l.scope) calls l.scope.own (block l.main) (block (drop l.stmt-index l.main)) l.codes.items;
}

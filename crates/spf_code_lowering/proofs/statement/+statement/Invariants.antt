use Rattle.std.proofs.Common.{◌+◌, ◌*◌, drop, ℕ}
use Rattle.spf_ast.specs.View.{block, statement}
use Rattle.spf_ast.specs.declared.syntax.Fold.{out-Fold}
use Rattle.spf_ast.specs.declared.syntax.Pair.{out-Pair}
use Rattle.spf_code.specs.Code.{Code, ◌then◌}
use Rattle.spf_code_lowering.specs.Lowering.{Wrote, SetsNone, AreLeft, BlockIn}
use Rattle.spf_code_lowering.proofs.Weight.{statement_weight, stmts_weight}
use Rattle.spf_code_lowering.proofs.statement.+statement.Given as goal

abbrev pub decreases-append : goal.decreases-append
decreases-append l = 3 * stmts_weight l.statements.now + 1

abbrev pub decreases-block : goal.decreases-block
decreases-block l = 3 * stmts_weight l.statements.now + 2

abbrev pub decreases-statement : goal.decreases-statement
decreases-statement l = 3 * statement_weight (statement l.kind.now) + 3

abbrev pub decreases-choose : goal.decreases-choose
decreases-choose l = 3 * (stmts_weight l.first.now + stmts_weight l.second.now) + 3

abbrev pub decreases-for_loop : goal.decreases-for_loop
decreases-for_loop l = 3 * stmts_weight l.body.now + 3

abbrev pub decreases-while_loop : goal.decreases-while_loop
decreases-while_loop l = 3 * stmts_weight l.body.now + 3

abbrev pub decreases-fold : goal.decreases-fold
decreases-fold l = 3 * stmts_weight (out-Fold l.fold.now).body.items + 3

abbrev pub decreases-pair : goal.decreases-pair
decreases-pair l = 3 * (stmts_weight (out-Pair l.pair.now).producer.items + stmts_weight (out-Pair l.pair.now).consumer.items) + 3

-- with code for the statements that are left, the code is one for all
abbrev pub invariant-append-loop-stmt : goal.invariant-append-loop-stmt
invariant-append-loop-stmt l = record {
  wrote : (calls : ℕ → ℕ) → Wrote l.initial.out.items l.out.items (λ made. (rest : Code) → BlockIn l.scope calls (block (drop l.stmt-index l.statements)) rest → BlockIn l.scope calls (block l.statements) (made then rest));
  spares : SetsNone (AreLeft l.scope.own (block l.statements)) l.initial.out.items l.out.items;
}

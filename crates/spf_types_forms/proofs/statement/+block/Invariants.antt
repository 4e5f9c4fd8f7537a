use Rattle.std.proofs.Common.{◌+◌, ◌*◌}
use Rattle.spf_ast.specs.declared.raw.RawFold.{out-RawFold}
use Rattle.spf_ast.specs.declared.raw.RawPair.{out-RawPair}
use Rattle.spf_types_names.specs.HereView.{setting}
use Rattle.spf_types_forms.proofs.Weight.{kind_weight, stmts_weight}
use Rattle.spf_types_forms.proofs.Blocks.{IsResolved}
use Rattle.spf_types_forms.proofs.statement.+block.Given as goal

abbrev pub decreases-block : goal.decreases-block
decreases-block l = 2 * stmts_weight l.raw.now

abbrev pub decreases-inner : goal.decreases-inner
decreases-inner l = 2 * stmts_weight l.raw.now + 1

abbrev pub decreases-statement_kind : goal.decreases-statement_kind
decreases-statement_kind l = 2 * kind_weight l.raw.now

abbrev pub decreases-choice : goal.decreases-choice
decreases-choice l = 2 * (stmts_weight l.first.now + stmts_weight l.second.now) + 2

abbrev pub decreases-for_loop : goal.decreases-for_loop
decreases-for_loop l = 2 * stmts_weight l.body.now + 1

abbrev pub decreases-while_loop : goal.decreases-while_loop
decreases-while_loop l = 2 * stmts_weight l.body.now + 2

abbrev pub decreases-statements_and_row : goal.decreases-statements_and_row
decreases-statements_and_row l = 2 * stmts_weight l.raw.now + 1

abbrev pub decreases-fold_body : goal.decreases-fold_body
decreases-fold_body l = 2 * stmts_weight (out-RawFold l.raw.now).body.items + 2

abbrev pub decreases-fold : goal.decreases-fold
decreases-fold l = 2 * stmts_weight (out-RawFold l.raw.now).body.items + 3

abbrev pub decreases-consumer : goal.decreases-consumer
decreases-consumer l = 2 * stmts_weight (out-RawPair l.raw.now).consumer.items + 1

abbrev pub decreases-pair : goal.decreases-pair
decreases-pair l = 2 * (stmts_weight (out-RawPair l.raw.now).producer.items + stmts_weight (out-RawPair l.raw.now).consumer.items) + 2

abbrev pub invariant-block-loop-statement : goal.invariant-block-loop-statement
invariant-block-loop-statement l =
    IsResolved (setting l.here) l.initial.locals l.locals l.raw l.statements.items l.statement-index

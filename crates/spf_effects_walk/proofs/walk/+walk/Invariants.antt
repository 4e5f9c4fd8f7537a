use Rattle.spf_ast.specs.declared.syntax.Fold.{out-Fold}
use Rattle.std.proofs.Common.{◌+◌, ◌*◌}
use Rattle.std.specs.Prelude.{map}
use Rattle.spf_ast.specs.View.{function}
use Rattle.spf_effects_walk.specs.Settings.{setting}
use Rattle.spf_effects_walk.proofs.Weight.{weight_before}
use Rattle.spf_effects_walk.proofs.Forms.{expr_weight, exprs_weight, cond_weight, kind_weight, stmts_weight, function_weight, fold_weight, pair_weight}
use Rattle.spf_effects_walk.proofs.Leads.{ArgumentsLead, StatementsLead}
use Rattle.spf_effects_walk.proofs.walk.+walk.Given as goal

-- the weight of the functions that may be called, and that of the form
abbrev pub decreases-expression : goal.decreases-expression
decreases-expression l = weight_before (map function l.context.now.functions.now) l.context.now.below + 2 * expr_weight l.expr.now

abbrev pub decreases-arguments : goal.decreases-arguments
decreases-arguments l = weight_before (map function l.context.now.functions.now) l.context.now.below + 2 * exprs_weight l.given.now

abbrev pub decreases-call : goal.decreases-call
decreases-call l = weight_before (map function l.context.now.functions.now) l.context.now.below + 2 * exprs_weight l.given.now + 1

abbrev pub decreases-enter : goal.decreases-enter
decreases-enter l = weight_before (map function l.functions.now) l.index + 2 * function_weight l.function.now + 2

abbrev pub decreases-condition : goal.decreases-condition
decreases-condition l = weight_before (map function l.context.now.functions.now) l.context.now.below + 2 * cond_weight l.cond.now

abbrev pub decreases-block : goal.decreases-block
decreases-block l = weight_before (map function l.context.now.functions.now) l.context.now.below + 2 * stmts_weight l.statements.now

abbrev pub decreases-block_and : goal.decreases-block_and
decreases-block_and l = weight_before (map function l.context.now.functions.now) l.context.now.below + 2 * (stmts_weight l.statements.now + expr_weight l.last.now) + 1

abbrev pub decreases-block_and_row : goal.decreases-block_and_row
decreases-block_and_row l = weight_before (map function l.context.now.functions.now) l.context.now.below + 2 * (stmts_weight l.statements.now + exprs_weight l.last.now) + 1

abbrev pub decreases-statement : goal.decreases-statement
decreases-statement l = weight_before (map function l.context.now.functions.now) l.context.now.below + 2 * kind_weight l.kind.now + 1

abbrev pub decreases-fill : goal.decreases-fill
decreases-fill l = weight_before (map function l.context.now.functions.now) l.context.now.below + 2 * (expr_weight l.low.now + expr_weight l.high.now + expr_weight l.value.now) + 1

abbrev pub decreases-branches : goal.decreases-branches
decreases-branches l = weight_before (map function l.context.now.functions.now) l.context.now.below + 2 * (cond_weight l.cond.now + stmts_weight l.first.now + stmts_weight l.second.now) + 1

abbrev pub decreases-for_turns : goal.decreases-for_turns
decreases-for_turns l = weight_before (map function l.context.now.functions.now) l.context.now.below + 2 * stmts_weight l.body.now + 1

abbrev pub decreases-while_turns : goal.decreases-while_turns
decreases-while_turns l = weight_before (map function l.context.now.functions.now) l.context.now.below + 2 * (cond_weight l.cond.now + stmts_weight l.body.now) + 1

abbrev pub decreases-inner_fold : goal.decreases-inner_fold
decreases-inner_fold l = weight_before (map function l.context.now.functions.now) l.context.now.below + 2 * fold_weight l.fold.now

abbrev pub decreases-fold_turns : goal.decreases-fold_turns
decreases-fold_turns l = weight_before (map function l.context.now.functions.now) l.context.now.below + 2 * (stmts_weight (out-Fold l.fold.now).body.items + exprs_weight (out-Fold l.fold.now).next.items) + 2

abbrev pub decreases-inner_pair : goal.decreases-inner_pair
decreases-inner_pair l = weight_before (map function l.context.now.functions.now) l.context.now.below + 2 * pair_weight l.pair.now

abbrev pub invariant-arguments-loop-argument : goal.invariant-arguments-loop-argument
invariant-arguments-loop-argument l = ArgumentsLead (setting l.context) l.bounds l.given l.initial.found l.argument-index l.known.items l.found

abbrev pub invariant-block-loop-item : goal.invariant-block-loop-item
invariant-block-loop-item l = StatementsLead (setting l.context) l.bounds l.statements l.initial.found l.item-index l.known.items l.found

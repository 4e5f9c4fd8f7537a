use Rattle.spf_ast.specs.View.{block}
use Rattle.spf_code_lowering.proofs.Flat.{ended-sets}
use Rattle.spf_code_lowering.specs.Lowering.{callees_in, BlockIn}
use Rattle.spf_code_lowering.proofs.Same.{block-too, whole}
use Rattle.spf_code_lowering.proofs.program.block_code.Goals as goal

pub returns-clause-code : goal.returns-clause-code
returns-clause-code c = λ calls.
    let s = c.args.scope.now in
    let form = block c.args.statements.now in
    whole c.in_ok-nodes.nodes.items c.in_ok-list.list.items (BlockIn s calls form) (block-too (callees_in s) calls s.own form) (c.in_ok-list.ensures {u = tt}) (c.in_ok-nodes.ensures.runs calls)

pub returns-clause-sets : goal.returns-clause-sets
returns-clause-sets c = λ r p. ended-sets r c.in_ok-nodes.nodes.items c.in_ok-list.list.items (c.in_ok-list.ensures {u = tt}) (c.in_ok-nodes.ensures.spares r p)

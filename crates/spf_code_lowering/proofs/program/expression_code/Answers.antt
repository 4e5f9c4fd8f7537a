use Rattle.spf_ast.specs.View.{expression}
use Rattle.spf_code_lowering.proofs.Flat.{ended-sets}
use Rattle.spf_code_lowering.specs.Lowering.{callees_in, HeldIn}
use Rattle.spf_code_lowering.proofs.Same.{held-too, whole}
use Rattle.spf_code_lowering.proofs.Spared.{none-set}
use Rattle.spf_code_lowering.proofs.program.expression_code.Goals as goal

pub returns-clause-code : goal.returns-clause-code
returns-clause-code c = λ calls.
    let s = c.args.scope.now in
    let e = expression c.args.value.now in
    let next = c.in_ok-held.held.next in
    let r = c.in_ok-held.held.register in
    (next, whole c.hold.new.out.items c.in_ok-list.list.items (HeldIn s calls c.args.line s.own next r e) (held-too (callees_in s) calls c.args.line s.own s.own next r e) (c.in_ok-list.ensures {u = tt}) (rw c.new-nodes.ensures.items at c.in_ok-held.ensures.wrote calls))

pub returns-clause-sets : goal.returns-clause-sets
returns-clause-sets c = λ r p. ended-sets r c.hold.new.out.items c.in_ok-list.list.items (c.in_ok-list.ensures {u = tt}) (none-set (rw c.new-nodes.ensures.items at c.in_ok-held.ensures.spares) r p)

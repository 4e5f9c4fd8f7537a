use Rattle.spf_code_lowering.specs.Lowering.{IsLeft, callees_in, ComputedIn, RunIn}
use Rattle.std.proofs.Common.{◌≡◌, ◌+◌, subst, arith}
use Rattle.spf_ast.specs.View.{arguments}
use Rattle.spf_ast.specs.Syntax.{Call, Do}
use Rattle.spf_code_lowering.proofs.Lowering.{mapped, as_well, value_held}
use Rattle.spf_code_lowering.proofs.Running.{call_run}
use Rattle.spf_code_lowering.proofs.Spared.{fewer, less-differs}
use Rattle.spf_code_lowering.proofs.statement.drop_answer.Goals as goal

pub returns-clause-wrote : goal.returns-clause-wrote
returns-clause-wrote c = λ calls.
    let s = c.args.scope.now in
    let given = arguments c.args.given.now in
    let n : c.in_ok-next.next ≡ s.own + 1 = c.in_ok-next.ensures {u = tt} in
    mapped c.call.result (c.call.ensures.wrote calls) (λ u w. as_well (RunIn s calls c.args.line (Do c.args.function given)) w
    (λ made p. call_run s calls c.args.line (s.own + 1) s.own c.args.function given made
    (value_held (callees_in s) calls c.args.line s.own s.own (Call c.args.function given) made (omega arith) (subst (λ k. ComputedIn s calls c.args.line k s.own (Call c.args.function given) made) n p))))

pub returns-clause-spares : goal.returns-clause-spares
returns-clause-spares c =
    let s = c.args.scope.now in
    let n : c.in_ok-next.next ≡ s.own + 1 = c.in_ok-next.ensures {u = tt} in
    mapped c.call.result c.call.ensures.spares (λ u w. fewer (IsLeft s.own (Do c.args.function (arguments c.args.given.now))) w (λ r p. let l = p.0 in (omega (arith, l, n), less-differs r s.own l)))

use Rattle.std.specs.Prelude.{◌==◌}
use Rattle.std.proofs.Common.{false, ◌<◌, ◌≡◌}
use Rattle.spf_ast.specs.View.{expression}
use Rattle.spf_ast.specs.Syntax.{Let}
use Rattle.spf_code_lowering.proofs.Lowering.{mapped, as_well}
use Rattle.spf_code_lowering.proofs.Running.{set_run, vain_run}
use Rattle.spf_code_lowering.proofs.Spared.{fewer}
use Rattle.spf_code_lowering.specs.Lowering.{RunIn}
use Rattle.spf_code_lowering.proofs.statement.assign.Goals as goal

pub returns-then-slot-scope-clause-wrote : goal.returns-then-slot-scope-clause-wrote
returns-then-slot-scope-clause-wrote c = λ calls.
    let s = c.args.scope.now in
    let e = expression c.args.value.now in
    mapped c.compute.result (c.compute.ensures.wrote calls) (λ u w. as_well (RunIn s calls c.args.line (Let c.args.slot e)) w (λ made p. set_run s calls c.args.line c.args.slot e made c.if-slot-scope.true p))

pub returns-clause-wrote : goal.returns-clause-wrote
returns-clause-wrote c = λ calls.
    let s = c.args.scope.now in
    let e = expression c.args.value.now in
    as_well (RunIn s calls c.args.line (Let c.args.slot e)) (c.in_ok-hold.ensures.wrote calls) (λ made p. vain_run s calls c.args.line c.args.slot c.in_ok-hold.field-0.next c.in_ok-hold.field-0.register e made c.if-slot-scope.false p)

pub returns-then-slot-scope-clause-spares : goal.returns-then-slot-scope-clause-spares
returns-then-slot-scope-clause-spares c = c.compute.ensures.spares

pub returns-clause-spares : goal.returns-clause-spares
returns-clause-spares c = fewer (λ r. (r < c.args.scope.now.own) × ((r == c.args.slot) ≡ false)) c.in_ok-hold.ensures.spares (λ r p. p.0)

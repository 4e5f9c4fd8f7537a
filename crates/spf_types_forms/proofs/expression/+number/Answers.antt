use Rattle.std.proofs.Common.{◌≡◌, ◌*◌, ◌<◌, rules, refl, sym, ap, ◌∙◌, arith}
use Rattle.std.proofs.lemmas.Result.{err_from_is_err_and}
use Rattle.spf_ast.specs.RawView.{raw_arguments}
use Rattle.spf_types_names.specs.HereView.{setting}
use Rattle.spf_types_names.specs.Faults.{arguments_faults, a_number}
use Rattle.spf_types_names.specs.Resolved.{scope}
use Rattle.spf_types_forms.proofs.Weight.{expr_weight, exprs_weight, expr_weight-call, weight_at}
use Rattle.spf_types_names.proofs.Rows.{item_at}
use Rattle.spf_types_forms.proofs.Arguments.{one_more, all_resolved, call_faults, call_form}
use Rattle.spf_types_forms.proofs.Steps.{ahead, behind, along, none_in}
use Rattle.spf_types_forms.proofs.expression.+number.Goals as goal

pub number-numbers-requires : goal.number-numbers-requires
number-numbers-requires t c =
    let m : t ≡ 2 * expr_weight c.args.raw.now = sym c.decreases in
    let e = ap expr_weight c.in-Call.is ∙ expr_weight-call c.in-Call.name c.in-Call.given in
    let d = ap exprs_weight c.deref-in-Call.ensures.value in
    let k : 2 * exprs_weight c.deref-in-Call.result.now < t = omega (arith, m, e, d) in
    (k, tt)

pub numbers-loop-argument-init : goal.numbers-loop-argument-init
numbers-loop-argument-init t c = let e = c.new-arguments.ensures.items in record { faults = refl; forms = rw e refl }

pub numbers-number-requires : goal.numbers-number-requires
numbers-number-requires t c =
    let m : t ≡ 2 * exprs_weight c.args.raw.now = sym c.decreases in
    let w = weight_at c.args.raw.now c.loop-argument.argument-index c.argument-item.result c.loop-argument-test.true c.argument-item.is in
    let k : 2 * expr_weight c.argument-item.result < t = omega (arith, m, w) in
    (k, tt)

pub numbers-returns-in_err-expr : goal.numbers-returns-in_err-expr
numbers-returns-in_err-expr t c =
    let p = err_from_is_err_and c.from_residual.result c.from_residual.ensures.1 in
    rw (p.1, p.2) (along _ _ _ (c.loop-argument.invariant.faults ∙ ap (λ es. arguments_faults (setting c.args.here.now) (scope c.args.locals.now.locals) c.args.line (raw_arguments es)) (item_at c.args.raw.now c.loop-argument.argument-index c.argument-item.result c.loop-argument-test.true c.argument-item.is)) (ahead _ _ _ c.in_err-expr.ensures))

pub numbers-loop-argument-preserved : goal.numbers-loop-argument-preserved
numbers-loop-argument-preserved t c =
    one_more (setting c.args.here.now) c.args.locals.now.locals c.args.line c.args.raw.now c.loop-argument.arguments.items c.loop-argument.argument-index c.argument-item.result c.in_ok-expr.expr c.push.new.self.items c.loop-argument-test.true c.argument-item.is c.loop-argument.invariant (c.in_ok-expr.ensures {u = tt}).0 (c.in_ok-expr.ensures {u = tt}).1 (c.in_ok-push.ensures {u = tt}).items

pub numbers-returns : goal.numbers-returns
numbers-returns t c = all_resolved (setting c.args.here.now) c.args.locals.now.locals c.args.line c.args.raw.now c.loop-argument.arguments.items c.loop-argument.argument-index c.loop-argument-test.false c.loop-argument.invariant

pub number-returns-in_err-function-in-Call : goal.number-returns-in_err-function-in-Call
number-returns-in_err-function-in-Call t c =
    let p = err_from_is_err_and c.from_residual-in_err-function-in-Call.result c.from_residual-in_err-function-in-Call.ensures.1 in
    rw (p.1, p.2) (along _ _ _ (call_faults (setting c.args.here.now) (scope c.args.locals.now.locals) c.args.line a_number c.args.raw.now c.in-Call.name c.in-Call.given c.len.result c.in-Call.is (search rules)) (ahead _ _ _ c.in_err-function-in-Call.ensures))

pub number-returns-in_err-arguments-in-Call : goal.number-returns-in_err-arguments-in-Call
number-returns-in_err-arguments-in-Call t c =
    let p = err_from_is_err_and c.from_residual-in_err-arguments-in-Call.result c.from_residual-in_err-arguments-in-Call.ensures.1 in
    rw (p.1, p.2) (along _ _ _ (call_faults (setting c.args.here.now) (scope c.args.locals.now.locals) c.args.line a_number c.args.raw.now c.in-Call.name c.in-Call.given c.len.result c.in-Call.is (search rules)) (behind _ _ _ (c.in_ok-function-in-Call.ensures {u = tt}).0 (rw c.deref-in-Call.ensures.value at c.in_err-arguments-in-Call.ensures)))

pub number-returns-in_ok-arguments-in-Call : goal.number-returns-in_ok-arguments-in-Call
number-returns-in_ok-arguments-in-Call t c =
    let a = rw c.deref-in-Call.ensures.value at (c.in_ok-arguments-in-Call.ensures {u = tt}) in (
      call_faults (setting c.args.here.now) (scope c.args.locals.now.locals) c.args.line a_number c.args.raw.now c.in-Call.name c.in-Call.given c.len.result c.in-Call.is (search rules) ∙ none_in _ _ (c.in_ok-function-in-Call.ensures {u = tt}).0 a.0,
      call_form c.args.here.now.globals.now c.args.locals.now.locals c.args.raw.now c.in-Call.name c.in-Call.given c.in_ok-function-in-Call.function c.in_ok-arguments-in-Call.arguments c.in-Call.is (c.in_ok-function-in-Call.ensures {u = tt}).1 a.1,
    )

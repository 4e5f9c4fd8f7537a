use Rattle.std.proofs.Common.{rules, refl}
use Rattle.spf_types_names.specs.declared.fault.TypeError.TheVariants.{Refused}
use Rattle.spf_types_names.specs.declared.fault.TypeFault.TheVariants.{Kind}
use Rattle.std.proofs.lemmas.Result.{err_from_is_err_and}
use Rattle.spf_types_names.specs.HereView.{setting}
use Rattle.spf_types_names.specs.Faults.{a_truth}
use Rattle.spf_types_names.specs.Resolved.{scope}
use Rattle.spf_types_forms.proofs.Arguments.{call_faults}
use Rattle.spf_types_forms.proofs.Steps.{ahead, behind, along}
use Rattle.spf_types_forms.proofs.expression.+truth.Goals as goal

pub truth-returns-in_err-callee-in-Call : goal.truth-returns-in_err-callee-in-Call
truth-returns-in_err-callee-in-Call t c =
    let p = err_from_is_err_and c.from_residual-in_err-callee-in-Call.result c.from_residual-in_err-callee-in-Call.ensures.1 in
    rw (p.1, p.2) (along _ _ _ (call_faults (setting c.args.here.now) (scope c.args.locals.now.locals) c.args.line a_truth c.args.raw.now c.in-Call.name c.in-Call.given c.len.result c.in-Call.is (search rules)) (ahead _ _ _ (ahead _ _ _ c.in_err-callee-in-Call.ensures.answers)))

pub truth-returns-in_ok-callee-in-Call : goal.truth-returns-in_ok-callee-in-Call
truth-returns-in_ok-callee-in-Call t c =
    rw c.wrong_kind-in-Call.ensures (along _ _ (Refused Kind c.args.line) (call_faults (setting c.args.here.now) (scope c.args.locals.now.locals) c.args.line a_truth c.args.raw.now c.in-Call.name c.in-Call.given c.len.result c.in-Call.is (search rules)) (ahead _ _ (Refused Kind c.args.line) (behind _ _ (Refused Kind c.args.line) (c.in_ok-callee-in-Call.ensures {u = tt}).answers.0 refl)))

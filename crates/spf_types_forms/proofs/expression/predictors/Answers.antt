use Rattle.std.proofs.Common.{map, ap, ◌∙◌}
use Rattle.std.proofs.lemmas.Result.{err_from_is_err_and}
use Rattle.spf_ast.specs.RawView.{raw_predictor}
use Rattle.spf_types_names.specs.HereView.{setting}
use Rattle.spf_types_names.specs.Faults.{predictors_faults}
use Rattle.spf_types_names.specs.Resolved.{scope}
use Rattle.spf_types_names.proofs.Rows.{item_at}
use Rattle.spf_types_forms.proofs.Steps.{ahead, along}
use Rattle.spf_types_forms.proofs.expression.predictors.Goals as goal

pub returns-in_err-guess : goal.returns-in_err-guess
returns-in_err-guess c =
    let p = err_from_is_err_and c.from_residual.result c.from_residual.ensures.1 in
    rw (p.1, p.2) (along _ _ _ (c.loop-part.invariant.faults ∙ ap (λ es. predictors_faults (setting c.args.here.now) (scope c.args.locals.now.locals) c.args.line (map raw_predictor es)) (item_at c.args.raw.now c.loop-part.part-index c.part-item.result c.loop-part-test.true c.part-item.is)) (ahead _ _ _ c.in_err-guess.ensures))

use Rattle.std.proofs.Common.{◌+◌, refl}
use Rattle.spf_ast.specs.View.{predictor}
use Rattle.spf_ast.specs.Size.{predictor_measure}
use Rattle.spf_types_size.proofs.Measures.{none_behind, one_behind, all_behind, predictors_from, predictors_split, predictors_end}
use Rattle.spf_types_size.proofs.measure.predictors.Goals as goal

pub loop-part-init : goal.loop-part-init
loop-part-init c = λ counts h. none_behind counts (predictors_from c.args.predict.now 0) (record { nodes = 0; depth = 0; slots = 0 }) refl refl refl

pub loop-part-preserved : goal.loop-part-preserved
loop-part-preserved c = λ counts h.
    let all = c.args.predict.now in
    let i = c.loop-part.part-index in
    let p = c.part-item.result in
    one_behind counts (predictors_from all 0) (predictors_from all i) (λ m. predictor_measure m (predictor p)) (predictors_from all (i + 1)) c.loop-part.size c.predictor.result c.beside-size.result (c.loop-part.invariant counts h) (predictors_split all i p c.loop-part-test.true c.part-item.is) (c.predictor.ensures counts h) c.beside-size.ensures

pub returns : goal.returns
returns c = λ counts h.
    let all = c.args.predict.now in
    let i = c.loop-part.part-index in
    all_behind counts (predictors_from all 0) (predictors_from all i) c.loop-part.size (c.loop-part.invariant counts h) (predictors_end all i c.loop-part-test.false)

use Rattle.std.proofs.Common.{◌+◌}
use Rattle.spf_ast.specs.View.{predictor}
use Rattle.spf_code_registers.specs.Registers.{predictor_needs}
use Rattle.spf_code_registers.proofs.Behind.{none_behind, statement_behind, all_behind, predictors_from, predictors_split, predictors_end}
use Rattle.spf_code_registers.proofs.needs.predictors.Goals as goal

pub loop-part-init : goal.loop-part-init
loop-part-init c = λ calls h. none_behind (predictors_from calls c.args.predict.now 0)

pub loop-part-preserved : goal.loop-part-preserved
loop-part-preserved c = λ calls h.
    let all = c.args.predict.now in
    let i = c.loop-part.part-index in
    let p = c.part-item.result in
    statement_behind c.loop-part.most (predictors_from calls all i) (predictors_from calls all 0) c.predictor.result c.max-most.result (predictor_needs calls (predictor p)) (predictors_from calls all (i + 1)) (c.loop-part.invariant calls h) (predictors_split calls all i p c.loop-part-test.true c.part-item.is) (c.predictor.ensures calls h) c.max-most.ensures

pub returns : goal.returns
returns c = λ calls h.
    let all = c.args.predict.now in
    let i = c.loop-part.part-index in
    all_behind 0 c.loop-part.most (predictors_from calls all i) (predictors_from calls all 0) (c.loop-part.invariant calls h) (predictors_end calls all i c.loop-part-test.false)

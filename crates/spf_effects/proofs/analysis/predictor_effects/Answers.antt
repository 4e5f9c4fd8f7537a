use Rattle.std.proofs.Common.{[], map, refl, subst}
use Rattle.spf_ast.specs.Syntax.{end}
use Rattle.spf_ast.specs.View.{predictor}
use Rattle.spf_effects_findings.specs.Extends.{Extends, Lists}
use Rattle.spf_effects_findings.specs.Parts.{guesses_find}
use Rattle.spf_effects_walk.specs.Settings.{setting}
use Rattle.spf_effects.proofs.Gathering.{effects_are}
use Rattle.spf_effects.proofs.Guessing.{guesses_next, guesses_end}
use Rattle.spf_effects.proofs.analysis.predictor_effects.Goals as goal

pub loop-part-init : goal.loop-part-init
loop-part-init c =
    record { finds = λ new n. subst (λ l. Extends (guesses_find (setting c.args.context.now) c.args.bounds.now (map predictor c.args.predict.now)) l new) c.new-found.ensures n }

pub loop-part-preserved : goal.loop-part-preserved
loop-part-preserved c =
    guesses_next (setting c.args.context.now) c.args.bounds.now c.args.predict.now (record { uncovered = []; may = []; written = [] }) c.loop-part.part-index c.loop-part.found c.guess.new.found c.part-item.result c.loop-part-test.true c.part-item.is (c.in_ok-guess.ensures {u = tt}) c.loop-part.invariant

pub returns : goal.returns
returns c =
    let g = setting c.args.context.now in
    let finds = guesses_find g c.args.bounds.now (map predictor c.args.predict.now) in
    let none : Lists = record { uncovered = []; may = []; written = [] } in
    effects_are c.gather.result finds end none c.loop-part.found refl
    (guesses_end g c.args.bounds.now c.args.predict.now none c.loop-part.part-index c.loop-part.found c.loop-part-test.false c.loop-part.invariant) c.gather.ensures

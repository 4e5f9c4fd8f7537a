use Rattle.std.proofs.Common.{◌∙◌, sym, ap, drop, List, ◌++◌, pos, ◌+ℤ◌}
use Rattle.spf_ast.specs.Construct.{predictors_of}
use Rattle.spf_ast.specs.ConstructView.{construct as seen_construct}
use Rattle.spf_guess_statistics.specs.Guess.{tells_from}
use Rattle.spf_ast.specs.Carried.{Carried}
use Rattle.spf_engine_construct.proofs.Hosts.{retold}
use Rattle.spf_engine_construct.proofs.telling.tell_history.Goals as goal

pub returns-in-Some-clause-told : goal.returns-in-Some-clause-told
returns-in-Some-clause-told g c = λ before telling were.
    let blocks = (c.in-Some.ensures {u = tt}).cases.0 in
    retold before _ _ _
    (ap (λ more. telling ++ more)
    ((λ i. tells_from (c.predictors.ensures i) (c.args.header.now.low +ℤ pos 1) c.in-Some.others.now)
    ∙ ap (λ (l : List Carried). tells_from (predictors_of (seen_construct c.args.construct)) (c.args.header.now.low +ℤ pos 1) (drop 1 l)) (sym blocks)))
    (c.tell_from_one.ensures.told before telling were)

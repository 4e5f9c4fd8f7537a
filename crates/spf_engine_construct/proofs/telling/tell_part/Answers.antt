use Rattle.std.proofs.Common.{Some, ◌∙◌, sym, ap, [], ◌∷◌, ◌++◌, rules, w64, FitsSigned}
use Rattle.std.proofs.lemmas.Int.{to_z-of_z}
use Rattle.spf_ast.specs.View.{predictor as seen_predictor}
use Rattle.spf_guess_statistics.specs.Guess.{tells_part}
use Rattle.spf_engine_construct.proofs.Hosts.{retold}
use Rattle.spf_engine_construct.proofs.telling.tell_part.Goals as goal

pub tell-requires : goal.tell-requires
tell-requires g c = c.requires.handed_in 0 c.in-Host.host (ap (λ p. Some (seen_predictor p)) c.in-Host.is)

pub returns-in-Host-clause-told : goal.returns-in-Host-clause-told
returns-in-Host-clause-told g c = λ before telling were.
    let number : FitsSigned w64 c.args.number = search rules in
    let word : FitsSigned w64 c.args.word = search rules in
    retold before _ _ _
    (ap (λ more. telling ++ more)
    ((λ i. record { host = c.in-Host.host; told = record { block = to_z-of_z w64 c.args.number number i; real = to_z-of_z w64 c.args.word word i } } ∷ [])
    ∙ sym (ap (λ p. tells_part (seen_predictor p) c.args.number c.args.word) c.in-Host.is)))
    (c.tell.ensures.told before telling were)

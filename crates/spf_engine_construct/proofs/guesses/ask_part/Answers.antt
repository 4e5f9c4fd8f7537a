use Rattle.std.proofs.Common.{Some, Ok, ◌∙◌, sym, ap, rules, w64, FitsSigned}
use Rattle.std.proofs.lemmas.Int.{to_z-of_z}
use Rattle.spf_ast.specs.View.{predictor as seen_predictor}
use Rattle.spf_guess_statistics.specs.Guess.{part_by}
use Rattle.spf_engine_construct.specs.Guesses.{answered}
use Rattle.spf_engine_construct.proofs.guesses.ask_part.Goals as goal

pub ask-requires : goal.ask-requires
ask-requires g c = c.requires.handed_in 0 c.in-Host.host (ap (λ p. Some (seen_predictor p)) c.in-Host.is)

pub returns-in-Host-clause-word : goal.returns-in-Host-clause-word
returns-in-Host-clause-word g c = λ before telling were.
    let fits : FitsSigned w64 c.ask.result = search rules in
    let number : FitsSigned w64 c.args.number = search rules in
    to_z-of_z w64 c.ask.result fits ∙ c.ask.ensures.guess before telling were
    ∙ (λ i. answered before telling (to_z-of_z w64 c.args.number number i) c.in-Host.host)
    ∙ sym (ap (λ p. (part_by (answered before telling c.args.number) (Ok c.args.word) (seen_predictor p)).word) c.in-Host.is)

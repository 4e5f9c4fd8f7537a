use Rattle.std.proofs.Common.{◌≡◌, ◌<◌, ◌∙◌, add-one, length, take, sym, ap, arith, rules, w64, FitsSigned, to_z, of_z}
use Rattle.std.specs.Prelude.{◌||◌}
use Rattle.std.proofs.lemmas.Int.{to_z-of_z}
use Rattle.std.proofs.lemmas.List.{length-map, length-set}
use Rattle.spf_ast.specs.Construct.{predictors_of}
use Rattle.spf_ast.specs.ConstructView.{construct as seen_construct}
use Rattle.spf_ast.specs.View.{predictor as seen_predictor}
use Rattle.spf_guess_statistics.specs.Guess.{part_of_result}
use Rattle.spf_engine_construct.specs.Guesses.{predicted}
use Rattle.spf_engine_construct.proofs.Words.{next-word, parts_there, trapped_in, comes_there, traps-there, unwrap-word, err-traps, all-predicted}
use Rattle.spf_engine_construct.proofs.guesses.predict.Goals as goal

pub loop-index-preserved : goal.loop-index-preserved
loop-index-preserved c =
    let inv = c.loop-index.invariant in
    let n = c.loop-index.index in
    let at = c.args.at in
    let number = to_z w64 (of_z w64 c.args.number) in
    let test = c.loop-index-test.true in
    let room = inv.room in
    let few = c.requires.width.1 in
    let width : length c.predictors-width.result.now ≡ length (predictors_of (seen_construct at.construct))
    = sym (length-map c.predictors-width.result.now seen_predictor) ∙ ap length c.predictors-width.ensures in
    let below : n < length (predictors_of (seen_construct at.construct)) = omega (arith, test, width) in
    let came : c.exec_predictor-word.result ≡ comes_there at number n = rw c.restore.ensures.equal at c.exec_predictor-word.ensures.guess in
    let fits : FitsSigned w64 c.unwrap_or.result = search rules in
    let word : c.unwrap_or.result ≡ (part_of_result c.exec_predictor-word.result).word = c.unwrap_or.ensures ∙ unwrap-word c.exec_predictor-word.result in
    let traps : c.is_err-blind.result ≡ (part_of_result c.exec_predictor-word.result).traps = c.is_err-blind.ensures.value ∙ err-traps c.exec_predictor-word.result in
    rw (add-one n) (record {
      words = next-word at number n c.loop-index.words _ (omega (arith, room, below, few)) below inv.words (to_z-of_z w64 c.unwrap_or.result fits ∙ word ∙ ap (λ r. (part_of_result r).word) came);
      blind = (λ i. inv.blind i || traps i) ∙ ap (λ r. trapped_in (take n (parts_there at number)) || (part_of_result r).traps) came ∙ sym (traps-there at number n below);
      room = length-set c.loop-index.words n (to_z w64 (of_z w64 c.unwrap_or.result)) ∙ room;
      size = c.exec_predictor-word.ensures.size ∙ ap length c.restore.ensures.equal ∙ c.requires.own_frame;
    })

pub returns-clause-guess : goal.returns-clause-guess
returns-clause-guess c =
    let fits : FitsSigned w64 c.args.number = search rules in
    let width : length c.predictors-width.result.now ≡ length (predictors_of (seen_construct c.args.at.construct))
    = sym (length-map c.predictors-width.result.now seen_predictor) ∙ ap length c.predictors-width.ensures in
    all-predicted c.args.at (to_z w64 (of_z w64 c.args.number)) _ c.loop-index.index c.loop-index.words c.of.result c.loop-index.blind width c.loop-index-test.false c.loop-index.auto.index-end
    c.loop-index.invariant.words c.loop-index.invariant.blind c.of.ensures
    ∙ ap (predicted c.args.at) (to_z-of_z w64 c.args.number fits)

use Rattle.std.proofs.Common.{◌∙◌, add-one, length, map, take, [], ◌∷◌, ◌++◌, pos, subst, sym, ap, arith, rules, w64, FitsSigned, to_z, of_z, append_assoc, slice_index_or}
use Rattle.std.proofs.lemmas.Int.{to_z-of_z}
use Rattle.std.proofs.lemmas.List.{length-map}
use Rattle.spf_ast.specs.View.{predictor as seen_predictor}
use Rattle.spf_guess_statistics.specs.Guess.{tells_part, tells_row}
use Rattle.spf_guess.specs.Missing.{AreAllHandedIn}
use Rattle.spf_engine_construct.proofs.Hosts.{retold}
use Rattle.spf_engine_construct.proofs.Words.{get-mapped, one-handed-in}
use Rattle.spf_engine_construct.proofs.Tellings.{row-more, row-all}
use Rattle.spf_engine_construct.proofs.telling.tell_row.Goals as goal

pub tell_part-requires : goal.tell_part-requires
tell_part-requires g c =
    let test = c.loop-index-test.true in
    let fewer = c.min-index-end.ensures in
    record {
      handed_in = subst (λ count. AreAllHandedIn count (seen_predictor c.index-predictors-index.result ∷ [])) (sym c.loop-index.invariant.count)
          (one-handed-in seen_predictor _ c.args.predictors.now c.loop-index.index _ (omega (arith, test, fewer)) c.index-predictors-index.is c.requires.handed_in);
    }

pub loop-index-preserved : goal.loop-index-preserved
loop-index-preserved g c =
    let inv = c.loop-index.invariant in
    let n = c.loop-index.index in
    let ps = map seen_predictor c.args.predictors.now in
    let number = to_z w64 (of_z w64 c.args.number) in
    let test = c.loop-index-test.true in
    let fewer = c.min-index-end.ensures in
    let words = ap length c.words-words.ensures in
    let word : FitsSigned w64 (slice_index_or c.words-words.result.now n (pos 0)) = search rules in
    let at = get-mapped seen_predictor c.args.predictors.now n c.index-predictors-index.result (omega (arith, test, fewer)) c.index-predictors-index.is in
    record {
      count = c.tell_part.ensures.count ∙ inv.count;
      told = λ before telling were.
          retold before _ _ _
          (append_assoc telling (tells_row (take n ps) number c.args.row.now) (tells_part (seen_predictor c.index-predictors-index.result) number _)
          ∙ ap (λ more. telling ++ more)
          (sym (row-more ps n (seen_predictor c.index-predictors-index.result) number c.args.row.now _ (pos 0) at (omega (arith, test, fewer, words))
          (to_z-of_z w64 (slice_index_or c.words-words.result.now n (pos 0)) word ∙ ap (λ row. slice_index_or row n (pos 0)) c.words-words.ensures))
          ∙ ap (λ k. tells_row (take k ps) number c.args.row.now) (sym (add-one n))))
          (c.tell_part.ensures.told before _ (inv.told before telling were));
    }

pub returns-clause-told : goal.returns-clause-told
returns-clause-told g c = λ before telling were.
    let fits : FitsSigned w64 c.args.number = search rules in
    let number = to_z-of_z w64 c.args.number fits in
    let ps = map seen_predictor c.args.predictors.now in
    let long = length-map c.args.predictors.now seen_predictor in
    let words = ap length c.words-words.ensures in
    let test = c.loop-index-test.false in
    let fewer = c.min-index-end.ensures in
    retold before _ _ _
    (ap (λ more. telling ++ more) (row-all ps c.loop-index.index _ c.args.row.now (omega (arith, long, words, test, fewer)) ∙ ap (λ k. tells_row ps k c.args.row.now) number))
    (c.loop-index.invariant.told before telling were)

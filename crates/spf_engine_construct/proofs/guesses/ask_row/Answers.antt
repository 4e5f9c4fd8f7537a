use Rattle.std.proofs.Common.{◌≡◌, ◌∙◌, add-one, Ok, map, take, [], ◌∷◌, pos, subst, sym, ap, arith, rules, w64, FitsSigned, to_z, of_z}
use Rattle.std.proofs.lemmas.Int.{to_z-of_z}
use Rattle.std.proofs.lemmas.List.{length-map, length-set}
use Rattle.spf_ast.specs.View.{predictor as seen_predictor}
use Rattle.spf_guess_statistics.specs.Guess.{Guess, no_hosts, part_by, guess_of, parts_from}
use Rattle.spf_guess.specs.Missing.{AreAllHandedIn}
use Rattle.spf_engine_construct.specs.Guesses.{seen_guess, answered}
use Rattle.spf_engine_construct.proofs.Words.{words_of, get-mapped, one-handed-in, ask-step, all-asked}
use Rattle.spf_engine_construct.proofs.guesses.ask_row.Goals as goal

pub ask_part-requires : goal.ask_part-requires
ask_part-requires g c = record {
  handed_in = subst (λ count. AreAllHandedIn count (seen_predictor c.index-predictors-index.result ∷ [])) (sym c.loop-index.invariant.count)
      (one-handed-in seen_predictor _ c.args.predictors.now c.loop-index.index _ c.loop-index-test.true c.index-predictors-index.is c.requires.handed_in);
}

pub loop-index-preserved : goal.loop-index-preserved
loop-index-preserved g c =
    let inv = c.loop-index.invariant in
    let n = c.loop-index.index in
    let ps = map seen_predictor c.args.predictors.now in
    let number = to_z w64 (of_z w64 c.args.number) in
    let test = c.loop-index-test.true in
    let room = inv.room in
    let few = c.requires.width.1 in
    let long = length-map c.args.predictors.now seen_predictor in
    let result : FitsSigned w64 c.ask_part.result = search rules in
    let word : FitsSigned w64 c.part-word.result = search rules in
    let q = seen_predictor c.index-predictors-index.result in
    rw (add-one n) (record {
      words = λ before telling results were old.
          ask-step (answered no_hosts [] number) (answered before telling number) results ps n q (pos 0) c.args.predicted.now.value c.loop-index.words c.part-word.result _
          (get-mapped seen_predictor c.args.predictors.now n c.index-predictors-index.result test c.index-predictors-index.is)
          (ap (λ (one : Guess). one.value) old) c.part-word.ensures
          (to_z-of_z w64 c.ask_part.result result ∙ c.ask_part.ensures.word before telling (inv.told before telling were)
          ∙ (λ i. (part_by (answered before telling number) (Ok (to_z-of_z w64 c.part-word.result word i)) q).word))
          (omega (arith, room, test, few)) (omega (arith, test, long)) (inv.words before telling results were old);
      told = λ before telling were. c.ask_part.ensures.told before telling (inv.told before telling were);
      count = c.ask_part.ensures.count ∙ inv.count;
      room = length-set c.loop-index.words n (to_z w64 (of_z w64 c.ask_part.result)) ∙ room;
    })

pub returns-clause-guess : goal.returns-clause-guess
returns-clause-guess g c = λ before telling results were old.
    let fits : FitsSigned w64 c.args.number = search rules in
    let number = to_z-of_z w64 c.args.number fits in
    let ps = map seen_predictor c.args.predictors.now in
    let old_there = subst (λ k. seen_guess c.args.predicted.now ≡ guess_of (parts_from (answered no_hosts [] k) results 0 ps)) (sym number) old in
    let same = subst (λ k. take c.loop-index.index c.loop-index.words ≡ take c.loop-index.index (words_of (parts_from (answered before telling k) results 0 ps))) number
    (c.loop-index.invariant.words before telling results were old_there) in
    all-asked (answered no_hosts [] c.args.number) (answered before telling c.args.number) results ps _ c.loop-index.index c.loop-index.words c.of.result c.args.predicted.now.value _
    (sym (length-map c.args.predictors.now seen_predictor)) c.loop-index-test.false c.loop-index.auto.index-end same c.of.ensures old

use Rattle.std.proofs.Common.{◌≡◌, ◌∙◌, add-one, map, take, ◌++◌, pos, ◌+ℤ◌, ◌+◌, ℕ, ℤ, sym, ap, arith, rules, w64, FitsSigned, to_z, of_z, append_assoc}
use Rattle.std.proofs.lemmas.Int.{to_z-of_z, ints}
use Rattle.std.proofs.lemmas.List.{take_all}
use Rattle.spf_ast.specs.View.{predictor as seen_predictor}
use Rattle.spf_guess_statistics.specs.Guess.{tells_row, tells_from}
use Rattle.spf_engine_construct.proofs.Hosts.{retold}
use Rattle.spf_engine_construct.proofs.Tellings.{rows-more}
use Rattle.spf_engine_construct.proofs.telling.tell_from_one.Goals as goal

next-number : (low : ℤ) (n : ℕ) → low +ℤ pos (n + 1) ≡ low +ℤ pos 1 +ℤ pos n
next-number low n = grind (arith, ints)

pub loop-index-preserved : goal.loop-index-preserved
loop-index-preserved g c =
    let inside = c.loop-index-test.true in
    let n = c.loop-index.index in
    let ps = map seen_predictor c.args.predictors.now in
    let rows = c.args.others.now in
    let first = c.args.header.now.low +ℤ pos 1 in
    let row = c.index-others-index.result in
    let fits : FitsSigned w64 c.number_at-number.result = search rules in
    let number : to_z w64 (of_z w64 c.number_at-number.result) ≡ first +ℤ pos n = to_z-of_z w64 c.number_at-number.result fits ∙ c.number_at-number.ensures ∙ next-number c.args.header.now.low n in
    record {
      count = c.tell_row.ensures.count ∙ c.loop-index.invariant.count;
      told = λ before telling were.
          retold before _ _ _
          (append_assoc telling (tells_from ps first (take n rows)) (tells_row ps _ row)
          ∙ ap (λ more. telling ++ more)
          (ap (λ k. tells_from ps first (take n rows) ++ tells_row ps k row) number
          ∙ sym (rows-more ps first rows n row inside c.index-others-index.is)
          ∙ ap (λ k. tells_from ps first (take k rows)) (sym (add-one n))))
          (c.tell_row.ensures.told before _ (c.loop-index.invariant.told before telling were));
    }

pub returns-clause-told : goal.returns-clause-told
returns-clause-told g c = λ before telling were.
    let outside = c.loop-index-test.false in
    retold before _ _ _
    (ap (λ rows. telling ++ tells_from (map seen_predictor c.args.predictors.now) (c.args.header.now.low +ℤ pos 1) rows) (take_all c.loop-index.index c.args.others.now (omega (arith, outside))))
    (c.loop-index.invariant.told before telling were)

use Rattle.std.proofs.Common.{◌≡◌, ◌<◌, ◌∙◌, pos, ◌+ℤ◌, ◌-◌, ◌+◌, ◌++◌, ◌∷◌, [], add-one, map, sym, ap, arith, rules, w64, FitsSigned, ℕ, to_z, of_z, length}
use Rattle.std.proofs.lemmas.List.{map-append, length-append, length-map}
use Rattle.std.proofs.lemmas.Int.{to_z-of_z}
use Rattle.spf_ast.specs.Construct.{predictors_of}
use Rattle.spf_ast.specs.ConstructView.{construct as seen_construct}
use Rattle.spf_ast.specs.View.{predictor as seen_predictor}
use Rattle.spf_guess_statistics.specs.Guess.{Guess, PartGuess, no_hosts, guess_of, parts_from}
use Rattle.spf_engine_construct.specs.Guesses.{seen_guess, predicted_at, answered, block_guess, guesses_from}
use Rattle.spf_engine_construct.proofs.Counting.{guesses-snoc, guess-at, guess-count, fewer-fit}
use Rattle.spf_engine_construct.proofs.Words.{parts-length, parts_there, comes_there}
use Rattle.spf_engine_construct.proofs.guesses.ask_all.Goals as goal

pub number_at-number-requires-clause-few : goal.number_at-number-requires-clause-few
number_at-number-requires-clause-few g c =
    let test = c.loop-n-test.true in
    let count = guess-count c.args.predicted.now _ 1 _ c.requires.predicted in
    let few = c.requires.few in
    omega (arith, test, count, few)

pub number_at-number-requires-clause-fits : goal.number_at-number-requires-clause-fits
number_at-number-requires-clause-fits g c =
    let test = c.loop-n-test.true in
    let count = guess-count c.args.predicted.now _ 1 _ c.requires.predicted in
    fewer-fit c.args.header.now.low _ (c.loop-n.n + 1) c.args.header.now.blocks (omega (arith, test, count)) c.requires.fits

pub ask_row-guess-requires-clause-same_width : goal.ask_row-guess-requires-clause-same_width
ask_row-guess-requires-clause-same_width g c =
    let n = c.loop-n.n in
    let test = c.loop-n-test.true in
    let count = guess-count c.args.predicted.now _ 1 _ c.requires.predicted in
    let below : n < c.args.header.now.blocks - 1 = omega (arith, test, count) in
    let here = guess-at c.args.predicted.now (predicted_at c.args.at c.args.header.now) 1 _ n c.index-predicted-n.result c.requires.predicted below c.index-predicted-n.is in
    let number = c.args.header.now.low +ℤ pos (1 + n) in
    ap (λ (g : Guess). length g.value) here ∙ length-map (parts_there c.args.at number) (λ (part : PartGuess). part.word)
    ∙ parts-length (answered no_hosts [] number) (comes_there c.args.at number) 0 (predictors_of (seen_construct c.args.at.construct))
    ∙ sym (ap length c.predictors-predictors.ensures) ∙ length-map c.predictors-predictors.result.now seen_predictor

pub returns-in_err-push-clause-told : goal.returns-in_err-push-clause-told
returns-in_err-push-clause-told g c = λ before telling were. c.ask_row-guess.ensures.told before telling (c.loop-n.invariant.told before telling were)

pub loop-n-preserved : goal.loop-n-preserved
loop-n-preserved g c =
    let inv = c.loop-n.invariant in
    let n = c.loop-n.n in
    let at = c.args.at in
    let low = c.args.header.now.low in
    let test = c.loop-n-test.true in
    let items = c.in_ok-push.ensures.items in
    let count = guess-count c.args.predicted.now _ 1 _ c.requires.predicted in
    let below : n < c.args.header.now.blocks - 1 = omega (arith, test, count) in
    let here = guess-at c.args.predicted.now (predicted_at at c.args.header.now) 1 _ n c.index-predicted-n.result c.requires.predicted below c.index-predicted-n.is in
    let fits : FitsSigned w64 c.number_at-number.result = search rules in
    let next : n + 1 ≡ 1 + n = omega arith in
    let number : to_z w64 (of_z w64 c.number_at-number.result) ≡ low +ℤ pos (1 + n) = to_z-of_z w64 c.number_at-number.result fits ∙ c.number_at-number.ensures ∙ ap (λ k. low +ℤ pos k) next in
    let ps = c.predictors-predictors.ensures in
    let old = here ∙ (λ i. guess_of (parts_from (answered no_hosts [] (sym number i)) (comes_there at (sym number i)) 0 (sym ps i))) in
    record {
      guesses = λ before telling were.
          let of : ℕ → Guess = block_guess before telling at c.args.header.now in
          let guess : seen_guess c.ask_row-guess.result ≡ of (1 + n)
          = c.ask_row-guess.ensures.guess before telling (comes_there at (to_z w64 (of_z w64 c.number_at-number.result))) (inv.told before telling were) old
          ∙ (λ i. guess_of (parts_from (answered before telling (number i)) (comes_there at (number i)) 0 (ps i))) in
          ap (map seen_guess) items ∙ map-append seen_guess c.loop-n.guesses.items (c.ask_row-guess.result ∷ [])
          ∙ ap (λ l. l ++ seen_guess c.ask_row-guess.result ∷ []) (inv.guesses before telling were)
          ∙ ap (λ x. guesses_from of 1 n ++ x ∷ []) guess
          ∙ sym (guesses-snoc of 1 n)
          ∙ ap (guesses_from of 1) (sym (add-one n));
      told = λ before telling were. c.ask_row-guess.ensures.told before telling (inv.told before telling were);
      count = c.ask_row-guess.ensures.count ∙ inv.count;
      taken = (let one = ap length items in let taken = inv.taken in let two = length-append c.loop-n.guesses.items (c.ask_row-guess.result ∷ []) in omega (arith, one, taken, two));
    }

pub returns-clause-guesses : goal.returns-clause-guesses
returns-clause-guesses g c = λ before telling were.
    let low = c.loop-n-test.false in
    let high = c.loop-n.auto.n-end in
    let count = guess-count c.args.predicted.now _ 1 _ c.requires.predicted in
    let ended : c.loop-n.n ≡ c.args.header.now.blocks - 1 = omega (arith, low, high, count) in
    c.loop-n.invariant.guesses before telling were ∙ ap (guesses_from (block_guess before telling c.args.at c.args.header.now) 1) ended

pub returns-clause-size : goal.returns-clause-size
returns-clause-size g c =
    let low = c.loop-n-test.false in
    let high = c.loop-n.auto.n-end in
    let count = guess-count c.args.predicted.now _ 1 _ c.requires.predicted in
    let some = c.requires.some in
    let taken = c.loop-n.invariant.taken in
    omega (arith, low, high, some, taken, count)

use Rattle.std.proofs.Common.{◌≡◌, pos, ◌+ℤ◌, ◌+◌, suc, ◌++◌, ◌∷◌, [], map, sym, ap, ◌∙◌, arith, rules, w64, FitsSigned, ℕ, to_z, of_z}
use Rattle.std.proofs.lemmas.List.{map-append}
use Rattle.std.proofs.lemmas.Int.{to_z-of_z}
use Rattle.spf_guess_statistics.specs.Guess.{Guess}
use Rattle.spf_engine_construct.specs.Guesses.{seen_guess, predicted, predicted_at, guesses_from}
use Rattle.spf_engine_construct.proofs.Counting.{guesses-snoc}
use Rattle.spf_engine_construct.proofs.pieces.predict_piece.Goals as goal

pub loop-n-preserved : goal.loop-n-preserved
loop-n-preserved c =
    let inv = c.loop-n.invariant in
    let fits : FitsSigned w64 c.number_at.result = search rules in
    let number : to_z w64 (of_z w64 c.number_at.result) ≡ c.args.header.now.low +ℤ pos (c.args.from + c.loop-n.n) = to_z-of_z w64 c.number_at.result fits ∙ c.number_at.ensures in
    let of : ℕ → Guess = predicted_at c.args.at c.args.header.now in
    let guess : seen_guess c.predict.result ≡ of (c.args.from + c.loop-n.n) = c.predict.ensures.guess ∙ ap (predicted c.args.at) number in
    let count : suc c.loop-n.n ≡ c.loop-n.n + 1 = omega arith in
    record {
      guesses =
          ap (map seen_guess) c.in_ok-push.ensures.items ∙ map-append seen_guess c.loop-n.guesses.items (c.predict.result ∷ [])
          ∙ ap (λ l. l ++ seen_guess c.predict.result ∷ []) inv.guesses
          ∙ ap (λ x. guesses_from of c.args.from c.loop-n.n ++ x ∷ []) guess
          ∙ sym (guesses-snoc of c.args.from c.loop-n.n)
          ∙ ap (guesses_from of c.args.from) count;
      size = c.predict.ensures.size ∙ inv.size;
    }

use Rattle.std.proofs.Common.{◌∷◌, ◌∙◌, ap, w64}
use Rattle.std.proofs.lemmas.Int.{to_z-of_z}
use Rattle.spf_guess.specs.Counting.{answer_of}
use Rattle.spf_guess.proofs.voting.count_for.Goals as goal

pub returns : goal.returns
returns c =
    let block_is = to_z-of_z w64 c.args.block c.ranges.block in
    let real_is = to_z-of_z w64 c.args.real c.ranges.real in
    λ i pairs block.
    (c.tell.ensures.told pairs block ∙ ap (λ told. answer_of c.args.most.now (told ∷ pairs) block) (λ j. record { block = block_is j; real = real_is j })) i

use Rattle.std.proofs.Common.{◌≡◌, ◌∙◌, ◌+ℤ◌, arith, ap, get_or, pos, w64, to_z, of_z}
use Rattle.std.proofs.lemmas.Int.{to_z-of_z}
use Rattle.std.proofs.lemmas.Option.{slice_get-get_or}
use Rattle.spf_chain.specs.declared.block.ChainBlock.{ChainBlock}
use Rattle.spf_chain.proofs.start.first_ticket.Goals as goal

pub returns : goal.returns
returns c =
    let bs = c.args.blocks.now in
    let d : ChainBlock = c.index-blocks-block.result in
    let number : to_z w64 (of_z w64 c.number_at-number.result) ≡ c.number_at-number.result = grind (arith, to_z-of_z) in
    let low : to_z w64 (of_z w64 c.args.low) ≡ c.args.low = to_z-of_z w64 c.args.low c.ranges.low in
    record {
      block = c.make.ensures.block;
      number = c.make.ensures.number ∙ number ∙ c.number_at-number.ensures ∙ ap (λ x. x +ℤ pos c.args.block) low;
      attempt = c.make.ensures.attempt;
      carried = (get_or bs c.args.block d, slice_get-get_or bs c.args.block d c.requires.inside, c.make.ensures.carried);
      own_lane = c.make.ensures.lane;
      own_frame = c.make.ensures.frame ∙ c.in_ok-own.ensures.equal;
    }

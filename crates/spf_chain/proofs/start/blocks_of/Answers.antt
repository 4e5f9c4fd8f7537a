use Rattle.std.proofs.Common.{◌≡◌, ◌∙◌, ap, length}
use Rattle.spf_guess_statistics.specs.declared.guess.Guess.{Guess}
use Rattle.spf_chain.proofs.Beginning.{one_block}
use Rattle.spf_chain.proofs.start.blocks_of.Goals as goal

pub loop-guess-preserved : goal.loop-guess-preserved
loop-guess-preserved c =
    let gs = c.args.guesses.now in
    let i = c.loop-guess.guess-index in
    let g : Guess = c.guess-item.result in
    let count : c.len-block.result ≡ length c.loop-guess.blocks.items = c.len-block.ensures ∙ c.loop-guess.blocks.ok.0 in
    one_block c.args.start gs i c.len-block.result g g.value c.loop-guess.blocks.items c.push-in-loop-guess.new.self.items c.loop-guess-test.true (ap (λ (x : Guess). x.value) c.guess-item.is) c.loop-guess.invariant count c.in_ok-push-2.ensures.items

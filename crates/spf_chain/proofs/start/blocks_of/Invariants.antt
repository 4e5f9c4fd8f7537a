use Rattle.std.proofs.Common.{◌≡◌, ◌∷◌, take, map, None, Some}
use Rattle.spf_chain.specs.Beginning.{unvalidated}
use Rattle.spf_chain.proofs.start.blocks_of.Given as goal

-- block 0 and the blocks of the guesses so far
abbrev pub invariant-loop-guess : goal.invariant-loop-guess
invariant-loop-guess l = l.blocks.items ≡ unvalidated 0 l.fn.start (None ∷ map (λ g. Some g.value) (take l.guess-index l.guesses))

use Rattle.std.proofs.Common.{arith}
use Rattle.spf_speculation.proofs.Guesses.{first-at-guess}
use Rattle.spf_speculation.proofs.laws.blocks_are_first_attempted_at_their_guess.Goals as goal

pub returns : goal.returns
returns c e guess logs values result come n low = first-at-guess e guess logs come n n (omega arith) low

use Rattle.spf_guess.specs.Stores.{stored_of}
use Rattle.spf_guess.proofs.Counts.{most-answers}
use Rattle.spf_guess.proofs.most.Most.make.Goals as goal

pub returns : goal.returns
returns c = λ pairs block. most-answers c.args.room (stored_of c.in_ok-counts.counts) c.in_ok-counts.ensures pairs

use Rattle.spf_guess.specs.Stores.{stored_of}
use Rattle.spf_guess.proofs.Tables.{table-answers}
use Rattle.spf_guess.proofs.table.Table.make.Goals as goal

pub returns : goal.returns
returns c = table-answers c.args.room (stored_of c.in_ok-reals.reals) c.in_ok-reals.ensures

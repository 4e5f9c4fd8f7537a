use Rattle.spf_cli_words.proofs.Building.{with-sub-if}
use Rattle.spf_cli_words.proofs.line.add_command.Goals as goal

pub returns : goal.returns
returns c = λ app part before is.
    with-sub-if c.subcommand.result c.in_ok-command.field-0 c.in_ok-other.other app part c.subcommand.ensures
    (rw (c.in_ok-command.was {u = tt}) at before) (rw (c.in_ok-other.was {u = tt}) at is)

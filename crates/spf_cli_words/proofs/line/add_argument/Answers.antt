use Rattle.spf_cli_words.proofs.Building.{with-arg-if}
use Rattle.spf_cli_words.proofs.line.add_argument.Goals as goal

pub returns : goal.returns
returns c = λ app rule before is.
    with-arg-if c.arg.result c.in_ok-command.field-0 c.args.argument app rule c.arg.ensures (rw (c.in_ok-command.was {u = tt}) at before) is

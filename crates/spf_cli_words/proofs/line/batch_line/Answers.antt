use Rattle.std.proofs.Common.{codes}
use Rattle.clap.specs.Words.{App, new_app, with_rule}
use Rattle.spf_cli_words.specs.Line.{positional, valued}
use Rattle.spf_cli_words.proofs.Building.{with-arg-if}
use Rattle.spf_cli_words.proofs.line.batch_line.Goals as goal

abbrev bare : App
bare = new_app (codes "batch")

abbrev named : App
named = with_rule bare (positional (codes "program"))

abbrev given : App
given = with_rule named (positional (codes "list"))

pub returns : goal.returns
returns c =
    let program = with-arg-if c.arg-command.result _ _ bare (positional (codes "program")) c.arg-command.ensures (c.new.ensures.app, c.new.ensures.local) c.positional.ensures in
    let list = c.add_argument-command.ensures named (positional (codes "list")) program c.positional-2.ensures in
    c.add_argument.ensures given (valued (codes "workers")) list c.option_with_value.ensures

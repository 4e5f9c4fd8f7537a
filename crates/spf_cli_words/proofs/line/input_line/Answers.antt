use Rattle.std.proofs.Common.{codes}
use Rattle.clap.specs.Words.{App, Text, new_app, with_rule}
use Rattle.spf_cli_words.specs.Line.{positional}
use Rattle.spf_cli_words.proofs.Building.{with-arg-if}
use Rattle.spf_cli_words.proofs.line.input_line.Goals as goal

abbrev named : Text → App
named name = with_rule (new_app name) (positional (codes "program"))

abbrev given : Text → App
given name = with_rule (named name) (positional (codes "input"))

pub returns : goal.returns
returns c =
    let name = c.args.name.now in
    let program = with-arg-if c.arg-command.result _ _ (new_app name) (positional (codes "program")) c.arg-command.ensures (c.new.ensures.app, c.new.ensures.local) c.positional.ensures in
    let input = c.add_argument-command.ensures (named name) (positional (codes "input")) program c.positional-2.ensures in
    c.add_argument.ensures (given name) (positional c.args.last.now) input c.positional-3.ensures

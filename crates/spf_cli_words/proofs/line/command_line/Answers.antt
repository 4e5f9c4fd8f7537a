use Rattle.std.proofs.Common.{codes}
use Rattle.clap.specs.Words.{App, with_subcommand}
use Rattle.spf_cli_words.specs.Line.{texts, batch_app, input_app}
use Rattle.spf_cli_words.proofs.line.command_line.Goals as goal

abbrev batch : App
batch = with_subcommand texts batch_app.top

abbrev sim : App
sim = with_subcommand batch (input_app (codes "sim") (codes "seed")).top

pub returns : goal.returns
returns c =
    let a = c.add_command-line.ensures texts batch_app c.text_lines.ensures c.batch_line.ensures in
    let b = c.add_command-line-2.ensures batch (input_app (codes "sim") (codes "seed")) a c.input_line.ensures in
    c.add_command.ensures sim (input_app (codes "replay") (codes "log")) b c.input_line-2.ensures

use Rattle.std.proofs.Common.{codes}
use Rattle.clap.specs.Words.{App, with_subcommand}
use Rattle.spf_cli_words.specs.Line.{bare_line, run_app, program_app}
use Rattle.spf_cli_words.proofs.line.program_lines.Goals as goal

abbrev run : App
run = with_subcommand bare_line run_app.top

abbrev check : App
check = with_subcommand run (program_app (codes "check")).top

abbrev explain : App
explain = with_subcommand check (program_app (codes "explain")).top

pub returns : goal.returns
returns c =
    let a = c.add_command-line.ensures bare_line run_app c.bare_line.ensures c.run_line.ensures in
    let b = c.add_command-line-2.ensures run (program_app (codes "check")) a c.program_line.ensures in
    let d = c.add_command-line-3.ensures check (program_app (codes "explain")) b c.program_line-2.ensures in
    c.add_command.ensures explain (program_app (codes "print")) d c.program_line-3.ensures

use Rattle.std.proofs.Common.{codes}
use Rattle.clap.specs.Words.{App, with_subcommand}
use Rattle.spf_cli_words.specs.Line.{programs, decoder_app, lex_app, demo_app}
use Rattle.spf_cli_words.proofs.line.decoder_lines.Goals as goal

abbrev unpack : App
unpack = with_subcommand programs (decoder_app (codes "unpack")).top

abbrev unhuff : App
unhuff = with_subcommand unpack (decoder_app (codes "unhuff")).top

abbrev lex : App
lex = with_subcommand unhuff lex_app.top

pub returns : goal.returns
returns c =
    let a = c.add_command-line.ensures programs (decoder_app (codes "unpack")) c.program_lines.ensures c.decoder_line.ensures in
    let b = c.add_command-line-2.ensures unpack (decoder_app (codes "unhuff")) a c.decoder_line-2.ensures in
    let d = c.add_command-line-3.ensures unhuff lex_app b c.lex_line.ensures in
    c.add_command.ensures lex demo_app d c.demo_line.ensures

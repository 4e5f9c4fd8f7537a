use Rattle.std.proofs.Common.{codes}
use Rattle.clap.specs.Words.{App, with_subcommand}
use Rattle.spf_cli_words.specs.Line.{decoders, file_app}
use Rattle.spf_cli_words.proofs.line.text_lines.Goals as goal

abbrev show : App
show = with_subcommand decoders (file_app (codes "show") (codes "machine")).top

pub returns : goal.returns
returns c =
    let a = c.add_command-line.ensures decoders (file_app (codes "show") (codes "machine")) c.decoder_lines.ensures c.file_line.ensures in
    c.add_command.ensures show (file_app (codes "build") (codes "text")) a c.file_line-2.ensures

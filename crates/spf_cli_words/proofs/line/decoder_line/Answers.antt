use Rattle.std.proofs.Common.{codes}
use Rattle.clap.specs.Words.{App, Text, new_app, with_rule}
use Rattle.spf_cli_words.specs.Line.{positional}
use Rattle.spf_cli_words.proofs.Building.{with-arg-if}
use Rattle.spf_cli_words.proofs.line.decoder_line.Goals as goal

abbrev given : Text → App
given name = with_rule (new_app name) (positional (codes "input"))

pub returns : goal.returns
returns c =
    let name = c.args.name.now in
    let input = with-arg-if c.arg-command.result _ _ (new_app name) (positional (codes "input")) c.arg-command.ensures (c.new.ensures.app, c.new.ensures.local) c.positional.ensures in
    c.with_decode_options.ensures (given name) input

use Rattle.std.proofs.Common.{codes}
use Rattle.clap.specs.Words.{with_rule}
use Rattle.spf_cli_words.specs.Line.{valued, flag}
use Rattle.spf_cli_words.proofs.line.with_decode_options.Goals as goal

pub returns : goal.returns
returns c = λ app is.
    let one = with_rule app (valued (codes "block")) in
    let two = with_rule one (valued (codes "workers")) in
    let block = c.add_argument-command.ensures app (valued (codes "block")) is c.option_with_value.ensures in
    let workers = c.add_argument-command-2.ensures one (valued (codes "workers")) block c.option_with_value-2.ensures in
    c.add_argument.ensures two (flag (codes "stats")) workers c.flag.ensures

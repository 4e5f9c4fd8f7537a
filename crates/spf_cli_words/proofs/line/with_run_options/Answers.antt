use Rattle.std.proofs.Common.{codes}
use Rattle.clap.specs.Words.{with_rule}
use Rattle.spf_cli_words.specs.Line.{valued, flag}
use Rattle.spf_cli_words.proofs.line.with_run_options.Goals as goal

pub returns : goal.returns
returns c = λ app is.
    let one = with_rule app (valued (codes "workers")) in
    let two = with_rule one (flag (codes "stats")) in
    let three = with_rule two (flag (codes "cells")) in
    let workers = c.add_argument-command.ensures app (valued (codes "workers")) is c.option_with_value.ensures in
    let stats = c.add_argument-command-2.ensures one (flag (codes "stats")) workers c.flag.ensures in
    let cells = c.add_argument-command-3.ensures two (flag (codes "cells")) stats c.flag-2.ensures in
    c.add_argument.ensures three (flag (codes "plain")) cells c.flag-3.ensures

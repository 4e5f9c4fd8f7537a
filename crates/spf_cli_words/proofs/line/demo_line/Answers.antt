use Rattle.std.proofs.Common.{codes}
use Rattle.clap.specs.Words.{App, new_app, with_rule}
use Rattle.spf_cli_words.specs.Line.{positional}
use Rattle.spf_cli_words.proofs.Building.{with-arg-if}
use Rattle.spf_cli_words.proofs.line.demo_line.Goals as goal

abbrev bare : App
bare = new_app (codes "demo")

abbrev one : App
one = with_rule bare (positional (codes "kind"))

abbrev two : App
two = with_rule one (positional (codes "seed"))

abbrev three : App
three = with_rule two (positional (codes "size"))

pub returns : goal.returns
returns c =
    let kind = with-arg-if c.arg-command.result _ _ bare (positional (codes "kind")) c.arg-command.ensures (c.new.ensures.app, c.new.ensures.local) c.positional.ensures in
    let seed = c.add_argument-command.ensures one (positional (codes "seed")) kind c.positional-2.ensures in
    let size = c.add_argument-command-2.ensures two (positional (codes "size")) seed c.positional-3.ensures in
    c.add_argument.ensures three (positional (codes "workers")) size c.positional-4.ensures

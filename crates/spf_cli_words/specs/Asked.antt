-- What contracts see of commands.
use Rattle.spf_cli_words.specs.Command as asked
use Rattle.spf_cli_words.specs.declared.command.Command.{Command}
use Rattle.spf_cli_words.specs.declared.command.Command.TheVariants as command
use Rattle.spf_cli_words.specs.declared.command.DecodeOptions.{DecodeOptions}
use Rattle.spf_cli_words.specs.declared.command.Options.{Options}

-- what contracts see of options
abbrev pub seen_options : Options → asked.Options
seen_options o = record { workers = o.workers; stats = o.stats; cells = o.cells; plain = o.plain }

-- what contracts see of a decoder's options
abbrev pub seen_decode_options : DecodeOptions → asked.DecodeOptions
seen_decode_options o = record { block = o.block; workers = o.workers; stats = o.stats }

-- what contracts see of a command
abbrev pub seen_command : Command → asked.Command
seen_command (command.Run program input options) = asked.Run program.now input.now (seen_options options)
seen_command (command.Check program) = asked.Check program.now
seen_command (command.Explain program) = asked.Explain program.now
seen_command (command.Print program) = asked.Print program.now
seen_command (command.Unpack input options) = asked.Unpack input.now (seen_decode_options options)
seen_command (command.Unhuff input options) = asked.Unhuff input.now (seen_decode_options options)
seen_command (command.Lex machine input options) = asked.Lex machine.now input.now (seen_decode_options options)
seen_command (command.Show machine) = asked.Show machine.now
seen_command (command.Build text) = asked.Build text.now
seen_command (command.Batch program list workers) = asked.Batch program.now list.now workers
seen_command (command.Sim program input seed) = asked.Sim program.now input.now seed
seen_command (command.Replay program input log) = asked.Replay program.now input.now log.now
seen_command (command.Demo kind seed size workers) = asked.Demo kind seed size workers

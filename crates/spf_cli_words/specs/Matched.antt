-- The command that the matches of `clap` give, as a function.
use Rattle.std.specs.Prelude.{ℕ, Bool, false, not, ◌&&◌, List, [], ◌∷◌, codes, Option, Some, None, if◌then◌else◌, bytes_eq, nat_le, option_and_then, option_map, ◌^◌, ◌-◌}
use Rattle.std.specs.Option.{option_map_or}
use Rattle.std.specs.Str.Parse.{digits_value}
use Rattle.std.specs.Fmt.{decimal}
use Rattle.clap.specs.Words.{Row, first_of, one_of}
use Rattle.spf_cli_words.specs.Command.{Options, DecodeOptions, Command, Run, Check, Explain, Print, Unpack, Unhuff, Lex, Show, Build, Batch, Sim, Replay, Demo}
use Rattle.spf_apps_formats.specs.declared.generate.Kind.{Kind}
use Rattle.spf_apps_formats.specs.declared.generate.Kind.TheVariants as kind

-- ---- single words

-- a number, where it stands from `least` to `most` and the word is its decimal text
abbrev pub checked : ℕ → ℕ → List ℕ → ℕ → Option ℕ
checked least most word n = if nat_le least n && (nat_le n most && bytes_eq word (decimal n)) then Some n else None

-- the number from `least` to `most` that a word is
unfoldable pub number_in : ℕ → ℕ → List ℕ → Option ℕ
number_in least most word = checked least most word (digits_value 10 word)

-- whether a word is a file's name
unfoldable pub is_name : List ℕ → Bool
is_name [] = false
is_name (b ∷ bytes) = not (bytes_eq (b ∷ []) (codes "-"))

-- the file's name that a word is
abbrev pub name_in : List ℕ → Option (List ℕ)
name_in word = if is_name word then Some word else None

-- the decoder that a word names
abbrev pub kind_in : List ℕ → Option Kind
kind_in word =
    if bytes_eq word (codes "unpack") then Some kind.Unpack
    else (if bytes_eq word (codes "unhuff") then Some kind.Unhuff
    else (if bytes_eq word (codes "lex") then Some kind.Lex else None))

-- ---- single arguments

-- the file's name that an argument has
abbrev pub name_of : List ℕ → List Row → Option (List ℕ)
name_of argument rows = option_and_then name_in (first_of argument rows)

-- the number that an argument has
abbrev pub number_of : List ℕ → ℕ → ℕ → List Row → Option ℕ
number_of argument least most rows = option_and_then (number_in least most) (first_of argument rows)

-- the seed
abbrev pub seed_of : List Row → Option ℕ
seed_of rows = number_of (codes "seed") 0 (2 ^ 64 - 1) rows

-- the number that an option has where it is given
abbrev pub given_number : ℕ → Option (List ℕ) → Option (Option ℕ)
given_number most None = Some None
given_number most (Some word) = option_map (λ n. Some n) (number_in 1 most word)

abbrev pub option_of : List ℕ → ℕ → List Row → Option (Option ℕ)
option_of argument most rows = given_number most (first_of argument rows)

-- whether a flag is given
abbrev pub flag_of : List ℕ → List Row → Bool
flag_of argument rows = option_map_or (λ text. bytes_eq text (codes "true")) (one_of argument rows) false

-- ---- commands

-- the options of a run, with this option on workers
abbrev pub options_with : List Row → Option ℕ → Option Options
options_with rows workers =
    Some (record { workers = workers; stats = flag_of (codes "stats") rows; cells = flag_of (codes "cells") rows; plain = flag_of (codes "plain") rows })

abbrev pub options_of : List Row → Option Options
options_of rows = option_and_then (options_with rows) (option_of (codes "workers") 64 rows)

-- the options of a decoder, with these on blocks and workers
abbrev pub decode_options_with : List Row → Option ℕ → Option ℕ → Option DecodeOptions
decode_options_with rows block workers = Some (record { block = block; workers = workers; stats = flag_of (codes "stats") rows })

abbrev pub block_with : List Row → Option ℕ → Option DecodeOptions
block_with rows block = option_and_then (decode_options_with rows block) (option_of (codes "workers") 64 rows)

abbrev pub decode_options_of : List Row → Option DecodeOptions
decode_options_of rows = option_and_then (block_with rows) (option_of (codes "block") 65536 rows)

-- the run that matches give, with this program and this input
abbrev pub run_with : List ℕ → List ℕ → Options → Option Command
run_with program input options = Some (Run program input options)

abbrev pub run_on : List Row → List ℕ → List ℕ → Option Command
run_on rows program input = option_and_then (run_with program input) (options_of rows)

abbrev pub run_from : List Row → List ℕ → Option Command
run_from rows program = option_and_then (run_on rows program) (name_of (codes "input") rows)

abbrev pub run_of : List Row → Option Command
run_of rows = option_and_then (run_from rows) (name_of (codes "program") rows)

-- a command on one program
abbrev pub program_with : (List ℕ → Command) → List ℕ → Option Command
program_with command program = Some (command program)

abbrev pub program_of : (List ℕ → Command) → List Row → Option Command
program_of command rows = option_and_then (program_with command) (name_of (codes "program") rows)

-- a command on one file, which is this argument
abbrev pub file_of : List ℕ → (List ℕ → Command) → List Row → Option Command
file_of argument command rows = option_and_then (program_with command) (name_of argument rows)

-- a batch
abbrev pub batch_with : List ℕ → List ℕ → Option ℕ → Option Command
batch_with program list workers = Some (Batch program list workers)

abbrev pub batch_on : List Row → List ℕ → List ℕ → Option Command
batch_on rows program list = option_and_then (batch_with program list) (option_of (codes "workers") 64 rows)

abbrev pub batch_from : List Row → List ℕ → Option Command
batch_from rows program = option_and_then (batch_on rows program) (name_of (codes "list") rows)

abbrev pub batch_of : List Row → Option Command
batch_of rows = option_and_then (batch_from rows) (name_of (codes "program") rows)

-- a simulation
abbrev pub sim_with : List ℕ → List ℕ → ℕ → Option Command
sim_with program input seed = Some (Sim program input seed)

abbrev pub sim_on : List Row → List ℕ → List ℕ → Option Command
sim_on rows program input = option_and_then (sim_with program input) (seed_of rows)

abbrev pub sim_from : List Row → List ℕ → Option Command
sim_from rows program = option_and_then (sim_on rows program) (name_of (codes "input") rows)

abbrev pub sim_of : List Row → Option Command
sim_of rows = option_and_then (sim_from rows) (name_of (codes "program") rows)

-- the check of a log
abbrev pub replay_with : List ℕ → List ℕ → List ℕ → Option Command
replay_with program input log = Some (Replay program input log)

abbrev pub replay_on : List Row → List ℕ → List ℕ → Option Command
replay_on rows program input = option_and_then (replay_with program input) (name_of (codes "log") rows)

abbrev pub replay_from : List Row → List ℕ → Option Command
replay_from rows program = option_and_then (replay_on rows program) (name_of (codes "input") rows)

abbrev pub replay_of : List Row → Option Command
replay_of rows = option_and_then (replay_from rows) (name_of (codes "program") rows)

-- a decoder's command on one input
abbrev pub decoding_with : (List ℕ → DecodeOptions → Command) → List ℕ → DecodeOptions → Option Command
decoding_with command input options = Some (command input options)

abbrev pub decoding_on : (List ℕ → DecodeOptions → Command) → List Row → List ℕ → Option Command
decoding_on command rows input = option_and_then (decoding_with command input) (decode_options_of rows)

abbrev pub decoding_of : (List ℕ → DecodeOptions → Command) → List Row → Option Command
decoding_of command rows = option_and_then (decoding_on command rows) (name_of (codes "input") rows)

-- a text is cut into tokens
abbrev pub lex_from : List Row → List ℕ → Option Command
lex_from rows machine = decoding_of (Lex machine) rows

abbrev pub lex_of : List Row → Option Command
lex_of rows = option_and_then (lex_from rows) (name_of (codes "machine") rows)

-- a trial of a decoder
abbrev pub demo_with : Kind → ℕ → ℕ → ℕ → Option Command
demo_with decoder seed size workers = Some (Demo decoder seed size workers)

abbrev pub demo_sized : List Row → Kind → ℕ → ℕ → Option Command
demo_sized rows decoder seed size = option_and_then (demo_with decoder seed size) (number_of (codes "workers") 1 64 rows)

abbrev pub demo_seeded : List Row → Kind → ℕ → Option Command
demo_seeded rows decoder seed = option_and_then (demo_sized rows decoder seed) (number_of (codes "size") 1 1000000 rows)

abbrev pub demo_from : List Row → Kind → Option Command
demo_from rows decoder = option_and_then (demo_seeded rows decoder) (seed_of rows)

abbrev pub demo_of : List Row → Option Command
demo_of rows = option_and_then (demo_from rows) (option_and_then kind_in (first_of (codes "kind") rows))

-- the command of this name, with the matches of its own arguments
abbrev pub named : List ℕ → List Row → Option Command
named name rows =
    if bytes_eq name (codes "run") then run_of rows
    else (if bytes_eq name (codes "check") then program_of Check rows
    else (if bytes_eq name (codes "explain") then program_of Explain rows
    else (if bytes_eq name (codes "print") then program_of Print rows
    else (if bytes_eq name (codes "unpack") then decoding_of Unpack rows
    else (if bytes_eq name (codes "unhuff") then decoding_of Unhuff rows
    else (if bytes_eq name (codes "lex") then lex_of rows
    else (if bytes_eq name (codes "demo") then demo_of rows
    else (if bytes_eq name (codes "show") then file_of (codes "machine") Show rows
    else (if bytes_eq name (codes "build") then file_of (codes "text") Build rows
    else (if bytes_eq name (codes "batch") then batch_of rows
    else (if bytes_eq name (codes "sim") then sim_of rows
    else (if bytes_eq name (codes "replay") then replay_of rows
    else None))))))))))))

abbrev pub named_by : List ℕ × List Row → Option Command
named_by subcommand = named subcommand.0 subcommand.1

-- the command that a subcommand of `clap` with its matches is
abbrev pub command_in : Option (List ℕ × List Row) → Option Command
command_in subcommand = option_and_then named_by subcommand

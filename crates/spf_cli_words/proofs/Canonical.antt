-- The words of a command, which `clap` takes, and the command that its matches give.
use Rattle.std.proofs.Common.{◌≡◌, ◌≤◌, ◌<◌, ℕ, true, false, refl, ap, ◌∙◌, List, [], ◌∷◌, codes, Option, Some, None, arith}
use Rattle.std.specs.Prelude.{option_and_then, option_map, ◌^◌, ◌-◌}
use Rattle.std.specs.Fmt.{decimal}
use Rattle.clap.specs.Words.{Row, Shape, Text, built, first_of, subcommand_of, takes}
use Rattle.clap.specs.Walk.{nothing_held, rows_after, walk_from}
use Rattle.clap.specs.Simple.{names_of}
use Rattle.clap.specs.Takes.{level_passes}
use Rattle.clap.proofs.OnLiterals.{clap_on_literals}
use Rattle.spf_cli_words.specs.Command.{Options, DecodeOptions, option_words, decode_words, kind_word, number_words, words_of, IsFileName, HasFileNames, IsUpTo, HasDecodeNumbers, HasNumbers, Command, Run, Check, Explain, Print, Unpack, Unhuff, Lex, Show, Build, Batch, Sim, Replay, Demo}
use Rattle.spf_cli_words.specs.Line.{line, run_app, program_app, decoder_app, lex_app, demo_app, file_app, batch_app, input_app}
use Rattle.spf_cli_words.specs.Matched.{number_in, kind_in, number_of, given_number, option_of, options_with, decode_options_with, block_with, run_with, run_on, run_from, run_of, program_with, program_of, decoding_with, decoding_on, decoding_of, lex_from, lex_of, demo_with, demo_sized, demo_seeded, demo_from, demo_of, file_of, batch_with, batch_on, batch_from, batch_of, sim_with, sim_on, sim_from, sim_of, replay_with, replay_on, replay_from, replay_of, command_in}
use Rattle.spf_cli_words.proofs.Numbers.{number-of, decimal-begins}
use Rattle.spf_cli_words.proofs.Matching.{name-given}
use Rattle.spf_cli_words.proofs.Walk.{IsPlain, plain, kept, kept-passes, whole}
use Rattle.spf_cli_words.proofs.Subcommands.{leaf, IsPlainNumber, HasRun, HasProgram, HasDecoding, HasLex, HasDemo, HasFile, HasBatch, HasSim, HasReplay, show-reads, build-reads, batch-reads, sim-reads, replay-reads, run-reads, program-reads, decoder-reads, lex-reads, demo-reads}
use Rattle.spf_apps_formats.specs.declared.generate.Kind.{Kind}
use Rattle.spf_apps_formats.specs.declared.generate.Kind.TheVariants as kind

-- ---- matches that are a command

-- an argument's number
number-given : (argument : Text) (least most : ℕ) (rows : List Row) (n : ℕ) → first_of argument rows ≡ Some (decimal n) → least ≤ n → n ≤ most → n < 2 ^ 64
    → number_of argument least most rows ≡ Some n
number-given argument least most rows n e l h small = ap (option_and_then (number_in least most)) e ∙ number-of least most n l h small

-- an option's number
option-given : (argument : Text) (most : ℕ) (rows : List Row) (number : Option ℕ) → most < 2 ^ 64 → first_of argument rows ≡ option_map decimal number
    → IsUpTo most number
    → option_of argument most rows ≡ Some number
option-given argument most rows None small e within = ap (given_number most) e
option-given argument most rows (Some n) small e within =
    let high = within.1 in
    ap (given_number most) e ∙ ap (option_map (λ (m : ℕ). Some m)) (number-of 1 most n within.0 high (omega (arith, high, small)))

run-given : (rows : List Row) (program input : Text) (o : Options) → HasRun program input o rows → IsFileName program → IsFileName input → IsUpTo 64 o.workers
    → run_of rows ≡ Some (Run program input o)
run-given rows program input o has p i within =
    ap (option_and_then (run_from rows)) (name-given (codes "program") rows program has.0 p)
    ∙ ap (option_and_then (run_on rows program)) (name-given (codes "input") rows input has.1 i)
    ∙ ap (λ (found : Option (Option ℕ)). option_and_then (run_with program input) (option_and_then (options_with rows) found))
    (option-given (codes "workers") 64 rows o.workers (omega arith) has.2 within)
    ∙ (λ k. Some (Run program input (record { workers = o.workers; stats = has.3 k; cells = has.4 k; plain = has.5 k })))

program-given : (command : Text → Command) (rows : List Row) (program : Text) → HasProgram program rows → IsFileName program
    → program_of command rows ≡ Some (command program)
program-given command rows program has p = ap (option_and_then (program_with command)) (name-given (codes "program") rows program has p)

decoding-given : (command : Text → DecodeOptions → Command) (rows : List Row) (input : Text) (o : DecodeOptions) → HasDecoding input o rows → IsFileName input
    → HasDecodeNumbers o
    → decoding_of command rows ≡ Some (command input o)
decoding-given command rows input o has i within =
    ap (option_and_then (decoding_on command rows)) (name-given (codes "input") rows input has.0 i)
    ∙ ap (λ (found : Option (Option ℕ)). option_and_then (decoding_with command input) (option_and_then (block_with rows) found))
    (option-given (codes "block") 65536 rows o.block (omega arith) has.1 within.0)
    ∙ ap (λ (found : Option (Option ℕ)). option_and_then (decoding_with command input) (option_and_then (decode_options_with rows o.block) found))
    (option-given (codes "workers") 64 rows o.workers (omega arith) has.2 within.1)
    ∙ (λ k. Some (command input (record { block = o.block; workers = o.workers; stats = has.3 k })))

lex-given : (rows : List Row) (machine input : Text) (o : DecodeOptions) → HasLex machine input o rows → IsFileName machine → IsFileName input
    → HasDecodeNumbers o
    → lex_of rows ≡ Some (Lex machine input o)
lex-given rows machine input o has m i within =
    ap (option_and_then (lex_from rows)) (name-given (codes "machine") rows machine has.0 m) ∙ decoding-given (Lex machine) rows input o has.1 i within

file-given : (argument : Text) (command : Text → Command) (rows : List Row) (file : Text) → HasFile argument file rows → IsFileName file
    → file_of argument command rows ≡ Some (command file)
file-given argument command rows file has f = ap (option_and_then (program_with command)) (name-given argument rows file has f)

batch-given : (rows : List Row) (program list : Text) (workers : Option ℕ) → HasBatch program list workers rows → IsFileName program → IsFileName list
    → IsUpTo 64 workers
    → batch_of rows ≡ Some (Batch program list workers)
batch-given rows program list workers has p l within =
    ap (option_and_then (batch_from rows)) (name-given (codes "program") rows program has.0 p)
    ∙ ap (option_and_then (batch_on rows program)) (name-given (codes "list") rows list has.1 l)
    ∙ ap (option_and_then (batch_with program list)) (option-given (codes "workers") 64 rows workers (omega arith) has.2 within)

sim-given : (rows : List Row) (program input : Text) (seed : ℕ) → HasSim program input seed rows → IsFileName program → IsFileName input → seed < 2 ^ 64
    → sim_of rows ≡ Some (Sim program input seed)
sim-given rows program input seed has p i small =
    ap (option_and_then (sim_from rows)) (name-given (codes "program") rows program has.0 p)
    ∙ ap (option_and_then (sim_on rows program)) (name-given (codes "input") rows input has.1 i)
    ∙ ap (option_and_then (sim_with program input)) (number-given (codes "seed") 0 (2 ^ 64 - 1) rows seed has.2 (omega arith) (omega (arith, small)) small)

replay-given : (rows : List Row) (program input log : Text) → HasReplay program input log rows → IsFileName program → IsFileName input → IsFileName log
    → replay_of rows ≡ Some (Replay program input log)
replay-given rows program input log has p i l =
    ap (option_and_then (replay_from rows)) (name-given (codes "program") rows program has.0 p)
    ∙ ap (option_and_then (replay_on rows program)) (name-given (codes "input") rows input has.1 i)
    ∙ ap (option_and_then (replay_with program input)) (name-given (codes "log") rows log has.2 l)

kind-given : (decoder : Kind) → kind_in (kind_word decoder) ≡ Some decoder
kind-given kind.Unpack = refl
kind-given kind.Unhuff = refl
kind-given kind.Lex = refl

demo-given : (rows : List Row) (decoder : Kind) (seed size workers : ℕ) → HasDemo decoder seed size workers rows → seed < 2 ^ 64 → IsUpTo 1000000 (Some size)
    → IsUpTo 64 (Some workers)
    → demo_of rows ≡ Some (Demo decoder seed size workers)
demo-given rows decoder seed size workers has small sized worked =
    let size_high = sized.1 in
    let workers_high = worked.1 in
    ap (λ (found : Option Text). option_and_then (demo_from rows) (option_and_then kind_in found)) has.0
    ∙ ap (option_and_then (demo_from rows)) (kind-given decoder)
    ∙ ap (option_and_then (demo_seeded rows decoder)) (number-given (codes "seed") 0 (2 ^ 64 - 1) rows seed has.1 (omega arith) (omega (arith, small)) small)
    ∙ ap (option_and_then (demo_sized rows decoder seed)) (number-given (codes "size") 1 1000000 rows size has.2 sized.0 size_high (omega (arith, size_high)))
    ∙ ap (option_and_then (demo_with decoder seed size))
    (number-given (codes "workers") 1 64 rows workers has.3 worked.0 workers_high (omega (arith, workers_high)))

-- ---- the name of a subcommand, and the words after it

-- the command line takes a subcommand's name and these words after it, which the subcommand reads
record Enters (name : Text) (subcommand : Shape) (words : List Text) : Type 0 where
  taken : takes line (name ∷ words) ≡ true
  given : subcommand_of line (name ∷ words) ≡ Some (name, rows_after subcommand.rules [] words)

run-enters : (words : List Text) → level_passes (leaf run_app) [] nothing_held words false ≡ true → Enters (codes "run") (leaf run_app) words
unfolding clap_on_literals
run-enters words passes =
    let after = kept (built line).top.rules (names_of (built line)) (walk_from nothing_held) (codes "run") [] words in
    let past = kept-passes (built line).top (names_of (built line)) (walk_from nothing_held) (codes "run") [] words in
    record { taken = rw (after, past, passes) refl; given = rw after refl }

check-enters : (words : List Text) → level_passes (leaf (program_app (codes "check"))) [] nothing_held words false ≡ true
    → Enters (codes "check") (leaf (program_app (codes "check"))) words
unfolding clap_on_literals
check-enters words passes =
    let after = kept (built line).top.rules (names_of (built line)) (walk_from nothing_held) (codes "check") [] words in
    let past = kept-passes (built line).top (names_of (built line)) (walk_from nothing_held) (codes "check") [] words in
    record { taken = rw (after, past, passes) refl; given = rw after refl }

explain-enters : (words : List Text) → level_passes (leaf (program_app (codes "explain"))) [] nothing_held words false ≡ true
    → Enters (codes "explain") (leaf (program_app (codes "explain"))) words
unfolding clap_on_literals
explain-enters words passes =
    let after = kept (built line).top.rules (names_of (built line)) (walk_from nothing_held) (codes "explain") [] words in
    let past = kept-passes (built line).top (names_of (built line)) (walk_from nothing_held) (codes "explain") [] words in
    record { taken = rw (after, past, passes) refl; given = rw after refl }

print-enters : (words : List Text) → level_passes (leaf (program_app (codes "print"))) [] nothing_held words false ≡ true
    → Enters (codes "print") (leaf (program_app (codes "print"))) words
unfolding clap_on_literals
print-enters words passes =
    let after = kept (built line).top.rules (names_of (built line)) (walk_from nothing_held) (codes "print") [] words in
    let past = kept-passes (built line).top (names_of (built line)) (walk_from nothing_held) (codes "print") [] words in
    record { taken = rw (after, past, passes) refl; given = rw after refl }

unpack-enters : (words : List Text) → level_passes (leaf (decoder_app (codes "unpack"))) [] nothing_held words false ≡ true
    → Enters (codes "unpack") (leaf (decoder_app (codes "unpack"))) words
unfolding clap_on_literals
unpack-enters words passes =
    let after = kept (built line).top.rules (names_of (built line)) (walk_from nothing_held) (codes "unpack") [] words in
    let past = kept-passes (built line).top (names_of (built line)) (walk_from nothing_held) (codes "unpack") [] words in
    record { taken = rw (after, past, passes) refl; given = rw after refl }

unhuff-enters : (words : List Text) → level_passes (leaf (decoder_app (codes "unhuff"))) [] nothing_held words false ≡ true
    → Enters (codes "unhuff") (leaf (decoder_app (codes "unhuff"))) words
unfolding clap_on_literals
unhuff-enters words passes =
    let after = kept (built line).top.rules (names_of (built line)) (walk_from nothing_held) (codes "unhuff") [] words in
    let past = kept-passes (built line).top (names_of (built line)) (walk_from nothing_held) (codes "unhuff") [] words in
    record { taken = rw (after, past, passes) refl; given = rw after refl }

lex-enters : (words : List Text) → level_passes (leaf lex_app) [] nothing_held words false ≡ true → Enters (codes "lex") (leaf lex_app) words
unfolding clap_on_literals
lex-enters words passes =
    let after = kept (built line).top.rules (names_of (built line)) (walk_from nothing_held) (codes "lex") [] words in
    let past = kept-passes (built line).top (names_of (built line)) (walk_from nothing_held) (codes "lex") [] words in
    record { taken = rw (after, past, passes) refl; given = rw after refl }

demo-enters : (words : List Text) → level_passes (leaf demo_app) [] nothing_held words false ≡ true → Enters (codes "demo") (leaf demo_app) words
unfolding clap_on_literals
demo-enters words passes =
    let after = kept (built line).top.rules (names_of (built line)) (walk_from nothing_held) (codes "demo") [] words in
    let past = kept-passes (built line).top (names_of (built line)) (walk_from nothing_held) (codes "demo") [] words in
    record { taken = rw (after, past, passes) refl; given = rw after refl }

show-enters : (words : List Text) → level_passes (leaf (file_app (codes "show") (codes "machine"))) [] nothing_held words false ≡ true → Enters (codes "show") (leaf (file_app (codes "show") (codes "machine"))) words
unfolding clap_on_literals
show-enters words passes =
    let after = kept (built line).top.rules (names_of (built line)) (walk_from nothing_held) (codes "show") [] words in
    let past = kept-passes (built line).top (names_of (built line)) (walk_from nothing_held) (codes "show") [] words in
    record { taken = rw (after, past, passes) refl; given = rw after refl }

build-enters : (words : List Text) → level_passes (leaf (file_app (codes "build") (codes "text"))) [] nothing_held words false ≡ true → Enters (codes "build") (leaf (file_app (codes "build") (codes "text"))) words
unfolding clap_on_literals
build-enters words passes =
    let after = kept (built line).top.rules (names_of (built line)) (walk_from nothing_held) (codes "build") [] words in
    let past = kept-passes (built line).top (names_of (built line)) (walk_from nothing_held) (codes "build") [] words in
    record { taken = rw (after, past, passes) refl; given = rw after refl }

batch-enters : (words : List Text) → level_passes (leaf batch_app) [] nothing_held words false ≡ true → Enters (codes "batch") (leaf batch_app) words
unfolding clap_on_literals
batch-enters words passes =
    let after = kept (built line).top.rules (names_of (built line)) (walk_from nothing_held) (codes "batch") [] words in
    let past = kept-passes (built line).top (names_of (built line)) (walk_from nothing_held) (codes "batch") [] words in
    record { taken = rw (after, past, passes) refl; given = rw after refl }

sim-enters : (words : List Text) → level_passes (leaf (input_app (codes "sim") (codes "seed"))) [] nothing_held words false ≡ true
    → Enters (codes "sim") (leaf (input_app (codes "sim") (codes "seed"))) words
unfolding clap_on_literals
sim-enters words passes =
    let after = kept (built line).top.rules (names_of (built line)) (walk_from nothing_held) (codes "sim") [] words in
    let past = kept-passes (built line).top (names_of (built line)) (walk_from nothing_held) (codes "sim") [] words in
    record { taken = rw (after, past, passes) refl; given = rw after refl }

replay-enters : (words : List Text) → level_passes (leaf (input_app (codes "replay") (codes "log"))) [] nothing_held words false ≡ true
    → Enters (codes "replay") (leaf (input_app (codes "replay") (codes "log"))) words
unfolding clap_on_literals
replay-enters words passes =
    let after = kept (built line).top.rules (names_of (built line)) (walk_from nothing_held) (codes "replay") [] words in
    let past = kept-passes (built line).top (names_of (built line)) (walk_from nothing_held) (codes "replay") [] words in
    record { taken = rw (after, past, passes) refl; given = rw after refl }

-- ---- the words of a command

-- the text of a number is no flag
number : (n : ℕ) → n < 2 ^ 64 → IsPlain (decimal n)
number n small = plain (decimal n) (decimal-begins n small)

number-up_to : (most : ℕ) (n : Option ℕ) → most < 2 ^ 64 → IsUpTo most n → IsPlainNumber n
number-up_to most None small within = tt
number-up_to most (Some n) small within = let high = within.1 in number n (omega (arith, high, small))

-- the command line takes these words, and its matches give this command
pub record IsRead (words : List Text) (command : Command) : Type 0 where
  pub taken : takes line words ≡ true
  pub given : command_in (subcommand_of line words) ≡ Some command

pub is-read : (command : Command) → HasFileNames command → HasNumbers command → IsRead (words_of command) command
is-read (Run program input o) files numbers =
    let words = program ∷ input ∷ option_words o in
    let reads =
    run-reads program input (plain program files.0) (plain input files.1)
    o.workers (number-up_to 64 o.workers (omega arith) numbers) o.stats o.cells o.plain in
    let enters = run-enters words (whole (leaf run_app) words (HasRun program input o) reads) in
    let rows = rows_after (leaf run_app).rules [] words in
    record { taken = enters.taken; given = ap command_in enters.given ∙ run-given rows program input o reads.has files.0 files.1 numbers }
is-read (Check program) files numbers =
    let words = program ∷ [] in
    let reads = program-reads (codes "check") program (plain program files) in
    let enters = check-enters words (whole (leaf (program_app (codes "check"))) words (HasProgram program) reads) in
    let rows = rows_after (leaf (program_app (codes "check"))).rules [] words in
    record { taken = enters.taken; given = ap command_in enters.given ∙ program-given Check rows program reads.has files }
is-read (Explain program) files numbers =
    let words = program ∷ [] in
    let reads = program-reads (codes "explain") program (plain program files) in
    let enters = explain-enters words (whole (leaf (program_app (codes "explain"))) words (HasProgram program) reads) in
    let rows = rows_after (leaf (program_app (codes "explain"))).rules [] words in
    record { taken = enters.taken; given = ap command_in enters.given ∙ program-given Explain rows program reads.has files }
is-read (Print program) files numbers =
    let words = program ∷ [] in
    let reads = program-reads (codes "print") program (plain program files) in
    let enters = print-enters words (whole (leaf (program_app (codes "print"))) words (HasProgram program) reads) in
    let rows = rows_after (leaf (program_app (codes "print"))).rules [] words in
    record { taken = enters.taken; given = ap command_in enters.given ∙ program-given Print rows program reads.has files }
is-read (Unpack input o) files numbers =
    let words = input ∷ decode_words o in
    let reads =
    decoder-reads (codes "unpack") input (plain input files) o.block (number-up_to 65536 o.block (omega arith) numbers.0)
    o.workers (number-up_to 64 o.workers (omega arith) numbers.1) o.stats in
    let enters = unpack-enters words (whole (leaf (decoder_app (codes "unpack"))) words (HasDecoding input o) reads) in
    let rows = rows_after (leaf (decoder_app (codes "unpack"))).rules [] words in
    record { taken = enters.taken; given = ap command_in enters.given ∙ decoding-given Unpack rows input o reads.has files numbers }
is-read (Unhuff input o) files numbers =
    let words = input ∷ decode_words o in
    let reads =
    decoder-reads (codes "unhuff") input (plain input files) o.block (number-up_to 65536 o.block (omega arith) numbers.0)
    o.workers (number-up_to 64 o.workers (omega arith) numbers.1) o.stats in
    let enters = unhuff-enters words (whole (leaf (decoder_app (codes "unhuff"))) words (HasDecoding input o) reads) in
    let rows = rows_after (leaf (decoder_app (codes "unhuff"))).rules [] words in
    record { taken = enters.taken; given = ap command_in enters.given ∙ decoding-given Unhuff rows input o reads.has files numbers }
is-read (Lex machine input o) files numbers =
    let words = machine ∷ input ∷ decode_words o in
    let reads =
    lex-reads machine input (plain machine files.0) (plain input files.1) o.block (number-up_to 65536 o.block (omega arith) numbers.0)
    o.workers (number-up_to 64 o.workers (omega arith) numbers.1) o.stats in
    let enters = lex-enters words (whole (leaf lex_app) words (HasLex machine input o) reads) in
    let rows = rows_after (leaf lex_app).rules [] words in
    record { taken = enters.taken; given = ap command_in enters.given ∙ lex-given rows machine input o reads.has files.0 files.1 numbers }
is-read (Show machine) files numbers =
    let words = machine ∷ [] in
    let reads = show-reads machine (plain machine files) in
    let enters = show-enters words (whole (leaf (file_app (codes "show") (codes "machine"))) words (HasFile (codes "machine") machine) reads) in
    let rows = rows_after (leaf (file_app (codes "show") (codes "machine"))).rules [] words in
    record { taken = enters.taken; given = ap command_in enters.given ∙ file-given (codes "machine") Show rows machine reads.has files }
is-read (Build text) files numbers =
    let words = text ∷ [] in
    let reads = build-reads text (plain text files) in
    let enters = build-enters words (whole (leaf (file_app (codes "build") (codes "text"))) words (HasFile (codes "text") text) reads) in
    let rows = rows_after (leaf (file_app (codes "build") (codes "text"))).rules [] words in
    record { taken = enters.taken; given = ap command_in enters.given ∙ file-given (codes "text") Build rows text reads.has files }
is-read (Batch program list workers) files numbers =
    let words = program ∷ list ∷ number_words (codes "--workers") workers in
    let reads = batch-reads program list (plain program files.0) (plain list files.1) workers (number-up_to 64 workers (omega arith) numbers) in
    let enters = batch-enters words (whole (leaf batch_app) words (HasBatch program list workers) reads) in
    let rows = rows_after (leaf batch_app).rules [] words in
    record { taken = enters.taken; given = ap command_in enters.given ∙ batch-given rows program list workers reads.has files.0 files.1 numbers }
is-read (Sim program input seed) files numbers =
    let words = program ∷ input ∷ decimal seed ∷ [] in
    let reads = sim-reads program input seed (plain program files.0) (plain input files.1) (number seed numbers) in
    let enters = sim-enters words (whole (leaf (input_app (codes "sim") (codes "seed"))) words (HasSim program input seed) reads) in
    let rows = rows_after (leaf (input_app (codes "sim") (codes "seed"))).rules [] words in
    record { taken = enters.taken; given = ap command_in enters.given ∙ sim-given rows program input seed reads.has files.0 files.1 numbers }
is-read (Replay program input log) files numbers =
    let words = program ∷ input ∷ log ∷ [] in
    let reads = replay-reads program input log (plain program files.0) (plain input files.1) (plain log files.2) in
    let enters = replay-enters words (whole (leaf (input_app (codes "replay") (codes "log"))) words (HasReplay program input log) reads) in
    let rows = rows_after (leaf (input_app (codes "replay") (codes "log"))).rules [] words in
    record { taken = enters.taken; given = ap command_in enters.given ∙ replay-given rows program input log reads.has files.0 files.1 files.2 }
is-read (Demo decoder seed size workers) files numbers =
    let size_high = numbers.1.1 in
    let workers_high = numbers.2.1 in
    let words = kind_word decoder ∷ decimal seed ∷ decimal size ∷ decimal workers ∷ [] in
    let reads =
    demo-reads decoder seed size workers (number seed numbers.0) (number size (omega (arith, size_high)))
    (number workers (omega (arith, workers_high))) in
    let enters = demo-enters words (whole (leaf demo_app) words (HasDemo decoder seed size workers) reads) in
    let rows = rows_after (leaf demo_app).rules [] words in
    let given = demo-given rows decoder seed size workers reads.has numbers.0 numbers.1 numbers.2 in
    record { taken = enters.taken; given = ap command_in enters.given ∙ given }

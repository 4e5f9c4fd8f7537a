-- What the subcommands of the command line make of their words.
use Rattle.std.proofs.Common.{◌≡◌, ℕ, Bool, true, false, refl, List, [], ◌∷◌, ◌++◌, codes, Option, Some, None}
use Rattle.std.specs.Prelude.{option_map}
use Rattle.std.specs.Fmt.{decimal}
use Rattle.clap.specs.Words.{App, Row, Shape, Text, first_of}
use Rattle.clap.specs.Walk.{nothing_held, walk_from}
use Rattle.clap.specs.Simple.{built_leaf, inherited}
use Rattle.clap.proofs.OnLiterals.{clap_on_literals}
use Rattle.spf_cli_words.specs.Command.{Options, DecodeOptions, option, number_words, kind_word}
use Rattle.spf_cli_words.specs.Line.{bare_line, run_app, program_app, decoder_app, lex_app, demo_app, file_app, batch_app, input_app}
use Rattle.spf_cli_words.specs.Matched.{flag_of}
use Rattle.spf_cli_words.proofs.Walk.{IsPlain, Gives, by, on, over}
use Rattle.spf_apps_formats.specs.declared.generate.Kind.{Kind}
use Rattle.spf_apps_formats.specs.declared.generate.Kind.TheVariants as kind

-- a subcommand, as it is built
abbrev pub leaf : App → Shape
leaf app = built_leaf (inherited bare_line.top app.top)

-- a subcommand takes these words, and its matches are such
abbrev pub Reads : App → List Text → (List Row → Type 0) → Type 0
Reads app words Has = Gives (leaf app) (walk_from nothing_held) words Has

-- the text of a number that may be left out is no flag
abbrev pub IsPlainNumber : Option ℕ → Type 0
IsPlainNumber None = Unit {0}
IsPlainNumber (Some n) = IsPlain (decimal n)

-- ---- what the matches are

-- the matches of a run
abbrev pub HasRun : Text → Text → Options → List Row → Type 0
HasRun program input o rows =
    (first_of (codes "program") rows ≡ Some program) × (first_of (codes "input") rows ≡ Some input)
    × (first_of (codes "workers") rows ≡ option_map decimal o.workers) × (flag_of (codes "stats") rows ≡ o.stats)
    × (flag_of (codes "cells") rows ≡ o.cells) × (flag_of (codes "plain") rows ≡ o.plain)

-- the matches of a command on one program
abbrev pub HasProgram : Text → List Row → Type 0
HasProgram program rows = first_of (codes "program") rows ≡ Some program

-- the matches of a decoder
abbrev pub HasDecoding : Text → DecodeOptions → List Row → Type 0
HasDecoding input o rows =
    (first_of (codes "input") rows ≡ Some input) × (first_of (codes "block") rows ≡ option_map decimal o.block)
    × (first_of (codes "workers") rows ≡ option_map decimal o.workers) × (flag_of (codes "stats") rows ≡ o.stats)

-- the matches of a lexer
abbrev pub HasLex : Text → Text → DecodeOptions → List Row → Type 0
HasLex machine input o rows = (first_of (codes "machine") rows ≡ Some machine) × HasDecoding input o rows

-- the matches of a trial
abbrev pub HasDemo : Kind → ℕ → ℕ → ℕ → List Row → Type 0
HasDemo decoder seed size workers rows =
    (first_of (codes "kind") rows ≡ Some (kind_word decoder)) × (first_of (codes "seed") rows ≡ Some (decimal seed))
    × (first_of (codes "size") rows ≡ Some (decimal size)) × (first_of (codes "workers") rows ≡ Some (decimal workers))

-- the matches of a command on one file
abbrev pub HasFile : Text → Text → List Row → Type 0
HasFile argument file rows = first_of argument rows ≡ Some file

-- the matches of a batch
abbrev pub HasBatch : Text → Text → Option ℕ → List Row → Type 0
HasBatch program list workers rows =
    (first_of (codes "program") rows ≡ Some program) × (first_of (codes "list") rows ≡ Some list) × (first_of (codes "workers") rows ≡ option_map decimal workers)

-- the matches of a simulation
abbrev pub HasSim : Text → Text → ℕ → List Row → Type 0
HasSim program input seed rows =
    (first_of (codes "program") rows ≡ Some program) × (first_of (codes "input") rows ≡ Some input) × (first_of (codes "seed") rows ≡ Some (decimal seed))

-- the matches of a log's check
abbrev pub HasReplay : Text → Text → Text → List Row → Type 0
HasReplay program input log rows =
    (first_of (codes "program") rows ≡ Some program) × (first_of (codes "input") rows ≡ Some input) × (first_of (codes "log") rows ≡ Some log)

-- ---- runs

abbrev run_words : Option ℕ → Bool → Bool → Bool → List Text
run_words workers stats cells bare =
    number_words (codes "--workers") workers ++ (option stats (codes "--stats") ++ (option cells (codes "--cells") ++ option bare (codes "--plain")))

pub run-reads : (program input : Text) → IsPlain program → IsPlain input → (workers : Option ℕ) → IsPlainNumber workers → (stats cells bare : Bool)
    → Reads run_app (program ∷ input ∷ run_words workers stats cells bare)
    (HasRun program input (record { workers = workers; stats = stats; cells = cells; plain = bare }))
unfolding clap_on_literals
run-reads program input p i (Some n) w true true true =
    by p refl refl refl refl (by i refl refl refl refl (on refl (by w refl refl refl refl (over refl refl (refl, refl, refl, refl, refl, refl)))))
run-reads program input p i (Some n) w true true false =
    by p refl refl refl refl (by i refl refl refl refl (on refl (by w refl refl refl refl (over refl refl (refl, refl, refl, refl, refl, refl)))))
run-reads program input p i (Some n) w true false true =
    by p refl refl refl refl (by i refl refl refl refl (on refl (by w refl refl refl refl (over refl refl (refl, refl, refl, refl, refl, refl)))))
run-reads program input p i (Some n) w true false false =
    by p refl refl refl refl (by i refl refl refl refl (on refl (by w refl refl refl refl (over refl refl (refl, refl, refl, refl, refl, refl)))))
run-reads program input p i (Some n) w false true true =
    by p refl refl refl refl (by i refl refl refl refl (on refl (by w refl refl refl refl (over refl refl (refl, refl, refl, refl, refl, refl)))))
run-reads program input p i (Some n) w false true false =
    by p refl refl refl refl (by i refl refl refl refl (on refl (by w refl refl refl refl (over refl refl (refl, refl, refl, refl, refl, refl)))))
run-reads program input p i (Some n) w false false true =
    by p refl refl refl refl (by i refl refl refl refl (on refl (by w refl refl refl refl (over refl refl (refl, refl, refl, refl, refl, refl)))))
run-reads program input p i (Some n) w false false false =
    by p refl refl refl refl (by i refl refl refl refl (on refl (by w refl refl refl refl (over refl refl (refl, refl, refl, refl, refl, refl)))))
run-reads program input p i None w true true true =
    by p refl refl refl refl (by i refl refl refl refl (over refl refl (refl, refl, refl, refl, refl, refl)))
run-reads program input p i None w true true false =
    by p refl refl refl refl (by i refl refl refl refl (over refl refl (refl, refl, refl, refl, refl, refl)))
run-reads program input p i None w true false true =
    by p refl refl refl refl (by i refl refl refl refl (over refl refl (refl, refl, refl, refl, refl, refl)))
run-reads program input p i None w true false false =
    by p refl refl refl refl (by i refl refl refl refl (over refl refl (refl, refl, refl, refl, refl, refl)))
run-reads program input p i None w false true true =
    by p refl refl refl refl (by i refl refl refl refl (over refl refl (refl, refl, refl, refl, refl, refl)))
run-reads program input p i None w false true false =
    by p refl refl refl refl (by i refl refl refl refl (over refl refl (refl, refl, refl, refl, refl, refl)))
run-reads program input p i None w false false true =
    by p refl refl refl refl (by i refl refl refl refl (over refl refl (refl, refl, refl, refl, refl, refl)))
run-reads program input p i None w false false false =
    by p refl refl refl refl (by i refl refl refl refl (over refl refl (refl, refl, refl, refl, refl, refl)))

-- ---- commands on one program

pub program-reads : (subcommand program : Text) → IsPlain program → Reads (program_app subcommand) (program ∷ []) (HasProgram program)
unfolding clap_on_literals
program-reads subcommand program p =
    by p refl refl refl refl (over refl refl refl)

pub show-reads : (machine : Text) → IsPlain machine → Reads (file_app (codes "show") (codes "machine")) (machine ∷ []) (HasFile (codes "machine") machine)
unfolding clap_on_literals
show-reads machine p =
    by p refl refl refl refl (over refl refl refl)

pub build-reads : (text : Text) → IsPlain text → Reads (file_app (codes "build") (codes "text")) (text ∷ []) (HasFile (codes "text") text)
unfolding clap_on_literals
build-reads text p =
    by p refl refl refl refl (over refl refl refl)

-- ---- batches

pub batch-reads : (program list : Text) → IsPlain program → IsPlain list → (workers : Option ℕ) → IsPlainNumber workers
    → Reads batch_app (program ∷ list ∷ number_words (codes "--workers") workers) (HasBatch program list workers)
unfolding clap_on_literals
batch-reads program list p l (Some n) w =
    by p refl refl refl refl (by l refl refl refl refl (on refl (by w refl refl refl refl (over refl refl (refl, refl, refl)))))
batch-reads program list p l None w =
    by p refl refl refl refl (by l refl refl refl refl (over refl refl (refl, refl, refl)))

-- ---- logs

pub sim-reads : (program input : Text) (seed : ℕ) → IsPlain program → IsPlain input → IsPlain (decimal seed)
    → Reads (input_app (codes "sim") (codes "seed")) (program ∷ input ∷ decimal seed ∷ []) (HasSim program input seed)
unfolding clap_on_literals
sim-reads program input seed p i s =
    by p refl refl refl refl (by i refl refl refl refl (by s refl refl refl refl (over refl refl (refl, refl, refl))))

pub replay-reads : (program input log : Text) → IsPlain program → IsPlain input → IsPlain log
    → Reads (input_app (codes "replay") (codes "log")) (program ∷ input ∷ log ∷ []) (HasReplay program input log)
unfolding clap_on_literals
replay-reads program input log p i l =
    by p refl refl refl refl (by i refl refl refl refl (by l refl refl refl refl (over refl refl (refl, refl, refl))))

-- ---- decoders

abbrev decoder_words : Option ℕ → Option ℕ → Bool → List Text
decoder_words block workers stats = number_words (codes "--block") block ++ (number_words (codes "--workers") workers ++ option stats (codes "--stats"))

pub decoder-reads : (subcommand input : Text) → IsPlain input → (block : Option ℕ) → IsPlainNumber block → (workers : Option ℕ)
    → IsPlainNumber workers → (stats : Bool) → Reads (decoder_app subcommand) (input ∷ decoder_words block workers stats)
    (HasDecoding input (record { block = block; workers = workers; stats = stats }))
unfolding clap_on_literals
decoder-reads subcommand input i (Some m) b (Some n) w true =
    by i refl refl refl refl (on refl (by b refl refl refl refl (on refl (by w refl refl refl refl (over refl refl (refl, refl, refl, refl))))))
decoder-reads subcommand input i (Some m) b (Some n) w false =
    by i refl refl refl refl (on refl (by b refl refl refl refl (on refl (by w refl refl refl refl (over refl refl (refl, refl, refl, refl))))))
decoder-reads subcommand input i (Some m) b None w true =
    by i refl refl refl refl (on refl (by b refl refl refl refl (over refl refl (refl, refl, refl, refl))))
decoder-reads subcommand input i (Some m) b None w false =
    by i refl refl refl refl (on refl (by b refl refl refl refl (over refl refl (refl, refl, refl, refl))))
decoder-reads subcommand input i None b (Some n) w true =
    by i refl refl refl refl (on refl (by w refl refl refl refl (over refl refl (refl, refl, refl, refl))))
decoder-reads subcommand input i None b (Some n) w false =
    by i refl refl refl refl (on refl (by w refl refl refl refl (over refl refl (refl, refl, refl, refl))))
decoder-reads subcommand input i None b None w true =
    by i refl refl refl refl (over refl refl (refl, refl, refl, refl))
decoder-reads subcommand input i None b None w false =
    by i refl refl refl refl (over refl refl (refl, refl, refl, refl))

pub lex-reads : (machine input : Text) → IsPlain machine → IsPlain input → (block : Option ℕ) → IsPlainNumber block → (workers : Option ℕ)
    → IsPlainNumber workers → (stats : Bool) → Reads lex_app (machine ∷ input ∷ decoder_words block workers stats)
    (HasLex machine input (record { block = block; workers = workers; stats = stats }))
unfolding clap_on_literals
lex-reads machine input a i (Some m) b (Some n) w true =
    by a refl refl refl refl (by i refl refl refl refl (on refl (by b refl refl refl refl
    (on refl (by w refl refl refl refl (over refl refl (refl, (refl, refl, refl, refl))))))))
lex-reads machine input a i (Some m) b (Some n) w false =
    by a refl refl refl refl (by i refl refl refl refl (on refl (by b refl refl refl refl
    (on refl (by w refl refl refl refl (over refl refl (refl, (refl, refl, refl, refl))))))))
lex-reads machine input a i (Some m) b None w true =
    by a refl refl refl refl (by i refl refl refl refl (on refl (by b refl refl refl refl (over refl refl (refl, (refl, refl, refl, refl))))))
lex-reads machine input a i (Some m) b None w false =
    by a refl refl refl refl (by i refl refl refl refl (on refl (by b refl refl refl refl (over refl refl (refl, (refl, refl, refl, refl))))))
lex-reads machine input a i None b (Some n) w true =
    by a refl refl refl refl (by i refl refl refl refl (on refl (by w refl refl refl refl (over refl refl (refl, (refl, refl, refl, refl))))))
lex-reads machine input a i None b (Some n) w false =
    by a refl refl refl refl (by i refl refl refl refl (on refl (by w refl refl refl refl (over refl refl (refl, (refl, refl, refl, refl))))))
lex-reads machine input a i None b None w true =
    by a refl refl refl refl (by i refl refl refl refl (over refl refl (refl, (refl, refl, refl, refl))))
lex-reads machine input a i None b None w false =
    by a refl refl refl refl (by i refl refl refl refl (over refl refl (refl, (refl, refl, refl, refl))))

-- ---- trials

kind-plain : (decoder : Kind) → IsPlain (kind_word decoder)
kind-plain kind.Unpack = record { ends = refl; long = refl; short = refl }
kind-plain kind.Unhuff = record { ends = refl; long = refl; short = refl }
kind-plain kind.Lex = record { ends = refl; long = refl; short = refl }

pub demo-reads : (decoder : Kind) (seed size workers : ℕ) → IsPlain (decimal seed) → IsPlain (decimal size) → IsPlain (decimal workers)
    → Reads demo_app (kind_word decoder ∷ decimal seed ∷ decimal size ∷ decimal workers ∷ []) (HasDemo decoder seed size workers)
unfolding clap_on_literals
demo-reads decoder seed size workers s z w =
    by (kind-plain decoder) refl refl refl refl (by s refl refl refl refl (by z refl refl refl refl
    (by w refl refl refl refl (over refl refl (refl, refl, refl, refl)))))

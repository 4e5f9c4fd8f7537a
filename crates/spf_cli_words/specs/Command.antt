-- What the words of the command line ask for.
use Rattle.std.specs.Prelude.{◌≡◌, ℕ, ◌≤◌, ◌<◌, ◌^◌, Bool, true, false, List, [], ◌∷◌, ◌++◌, codes, Option, Some, None}
use Rattle.spf_ast_lemmas.specs.Limits.{max_workers}
use Rattle.std.specs.Fmt.{decimal}
use Rattle.spf_apps_formats.specs.declared.generate.Kind.{Kind}
use Rattle.spf_apps_formats.specs.declared.generate.Kind.TheVariants as kind

-- how many workers run the blocks, where that is given; what a run is to show; and whether it goes by the plain meaning alone
pub record Options : Type 0 where
  pub workers : Option ℕ
  pub stats : Bool
  pub cells : Bool
  pub plain : Bool

-- how large a decoder's blocks are and how many workers run them, where that is given; and whether it shows the statistics
pub record DecodeOptions : Type 0 where
  pub block : Option ℕ
  pub workers : Option ℕ
  pub stats : Bool

-- a command, with the names of its files
pub data Command : Type 0 where
  Run : List ℕ → List ℕ → Options → Command
  Check : List ℕ → Command
  Explain : List ℕ → Command
  Print : List ℕ → Command
  Unpack : List ℕ → DecodeOptions → Command
  Unhuff : List ℕ → DecodeOptions → Command
  -- the machine's file stands before the input's
  Lex : List ℕ → List ℕ → DecodeOptions → Command
  Show : List ℕ → Command
  Build : List ℕ → Command
  -- the program's file stands before the list's; how many workers, where that is given
  Batch : List ℕ → List ℕ → Option ℕ → Command
  -- the program's file, the input's, and the seed
  Sim : List ℕ → List ℕ → ℕ → Command
  -- the program's file, the input's, and the log's
  Replay : List ℕ → List ℕ → List ℕ → Command
  -- the seed, the size and the number of workers
  Demo : Kind → ℕ → ℕ → ℕ → Command

-- a word that stands only where it is asked for
abbrev pub option : Bool → List ℕ → List (List ℕ)
option true word = word ∷ []
option false word = []

-- the words of an option with a number
abbrev pub number_words : List ℕ → Option ℕ → List (List ℕ)
number_words name None = []
number_words name (Some n) = name ∷ decimal n ∷ []

-- the words of options, in their order
abbrev pub option_words : Options → List (List ℕ)
option_words o = number_words (codes "--workers") o.workers
    ++ (option o.stats (codes "--stats") ++ (option o.cells (codes "--cells") ++ option o.plain (codes "--plain")))

-- the words of a decoder's options, in their order
abbrev pub decode_words : DecodeOptions → List (List ℕ)
decode_words o = number_words (codes "--block") o.block ++ (number_words (codes "--workers") o.workers ++ option o.stats (codes "--stats"))

-- the word of a decoder
abbrev pub kind_word : Kind → List ℕ
kind_word kind.Unpack = codes "unpack"
kind_word kind.Unhuff = codes "unhuff"
kind_word kind.Lex = codes "lex"

-- the words of a command
abbrev pub words_of : Command → List (List ℕ)
words_of (Run program input options) = codes "run" ∷ program ∷ input ∷ option_words options
words_of (Check program) = codes "check" ∷ program ∷ []
words_of (Explain program) = codes "explain" ∷ program ∷ []
words_of (Print program) = codes "print" ∷ program ∷ []
words_of (Unpack input options) = codes "unpack" ∷ input ∷ decode_words options
words_of (Unhuff input options) = codes "unhuff" ∷ input ∷ decode_words options
words_of (Lex machine input options) = codes "lex" ∷ machine ∷ input ∷ decode_words options
words_of (Show machine) = codes "show" ∷ machine ∷ []
words_of (Build text) = codes "build" ∷ text ∷ []
words_of (Batch program list workers) = codes "batch" ∷ program ∷ list ∷ number_words (codes "--workers") workers
words_of (Sim program input seed) = codes "sim" ∷ program ∷ input ∷ decimal seed ∷ []
words_of (Replay program input log) = codes "replay" ∷ program ∷ input ∷ log ∷ []
words_of (Demo decoder seed size workers) = codes "demo" ∷ kind_word decoder ∷ decimal seed ∷ decimal size ∷ decimal workers ∷ []

-- a file's name isn't empty and doesn't begin with `-`
abbrev pub IsFileName : List ℕ → Type 0
IsFileName [] = ⊥
IsFileName (b ∷ bytes) = b ≡ 45 → ⊥

-- the names of its files are names
abbrev pub HasFileNames : Command → Type 0
HasFileNames (Run program input options) = IsFileName program × IsFileName input
HasFileNames (Check program) = IsFileName program
HasFileNames (Explain program) = IsFileName program
HasFileNames (Print program) = IsFileName program
HasFileNames (Unpack input options) = IsFileName input
HasFileNames (Unhuff input options) = IsFileName input
HasFileNames (Lex machine input options) = IsFileName machine × IsFileName input
HasFileNames (Show machine) = IsFileName machine
HasFileNames (Build text) = IsFileName text
HasFileNames (Batch program list workers) = IsFileName program × IsFileName list
HasFileNames (Sim program input seed) = IsFileName program × IsFileName input
HasFileNames (Replay program input log) = IsFileName program × IsFileName input × IsFileName log
HasFileNames (Demo decoder seed size workers) = Unit {0}

-- a number is from 1 to `most`, where it is given
abbrev pub IsUpTo : ℕ → Option ℕ → Type 0
IsUpTo most None = Unit {0}
IsUpTo most (Some n) = (1 ≤ n) × (n ≤ most)

-- the numbers of a decoder's options are in their ranges
abbrev pub HasDecodeNumbers : DecodeOptions → Type 0
HasDecodeNumbers o = IsUpTo 65536 o.block × IsUpTo max_workers o.workers

-- its numbers are in their ranges
abbrev pub HasNumbers : Command → Type 0
HasNumbers (Run program input options) = IsUpTo max_workers options.workers
HasNumbers (Unpack input options) = HasDecodeNumbers options
HasNumbers (Unhuff input options) = HasDecodeNumbers options
HasNumbers (Lex machine input options) = HasDecodeNumbers options
HasNumbers (Batch program list workers) = IsUpTo max_workers workers
HasNumbers (Sim program input seed) = seed < 2 ^ 64
HasNumbers (Demo decoder seed size workers) = (seed < 2 ^ 64) × IsUpTo 1000000 (Some size) × IsUpTo max_workers (Some workers)
HasNumbers _ = Unit {0}

-- the words ask for this command
pub record Asks (words : List (List ℕ)) (command : Command) : Type 0 where
  pub words_are : words ≡ words_of command
  pub files_are : HasFileNames command
  pub numbers_are : HasNumbers command

-- The whole answer of the program: what it says to these words, by what the fetches of their files give.
use Rattle.std.specs.Prelude.{◌≡◌, ◌⊎◌, ◌≤◌, ℕ, Bool, true, false, if◌then◌else◌, nat_le, List, [], ◌++◌, length, map, Option, Some, None, unwrap_or}
use Rattle.spf_ast.specs.Syntax.{Program}
use Rattle.spf_ast.specs.Program.{Outcome, outcome, cell_count_of, max_cells}
use Rattle.spf_exec_instance.specs.RunErrors.{counted}
use Rattle.spf_cli_answers.specs.Answer.{
  Answer,
  not_understood,
  text_refused,
  accepted,
  rule_refused,
  explained,
  too_many_cells,
  host_missing,
  not_huf1,
  not_lex1,
  not_a_machine,
  not_a_name,
  not_a_log,
  too_many_steps,
  written,
  printed,
  ran,
  simulated,
  judged,
  shown,
}
use Rattle.spf_cli_answers.specs.Course.{Wanted, Is, Both, Either, Course, Ends, Fetches}
use Rattle.spf_cli_words.specs.Command.{Command, Run, Check, Explain, Print, Unpack, Unhuff, Lex, Show, Build, Sim, Replay, Batch, Demo, Options, DecodeOptions, Asks}
use Rattle.spf_region.specs.declared.range.Range.{Range}
use Rattle.spf_check.specs.declared.rule.Rule.{Rule}
use Rattle.spf_check.specs.Accepting.{IsAccepted, IsFirstRefusal}
use Rattle.spf_check.specs.Explaining.{Explains}
use Rattle.spf_guess_statistics.specs.declared.stats.Stats.{Stats}
use Rattle.spf_ast.specs.Construct.{constructs_in}
use Rattle.spf_guess_statistics.specs.Guess.{Hosts}
use Rattle.spf_guess_statistics.specs.Statistics.{none, tally}
use Rattle.spf_guess.specs.Answers.{Answers, handed_in}
use Rattle.spf_guess.specs.Missing.{missing_host}
use Rattle.spf_apps_formats.specs.declared.generate.Kind.{Kind}
use Rattle.spf_apps_formats.specs.declared.generate.Kind.TheVariants as kind
use Rattle.spf_apps_formats.specs.Draws.{IsGenerated}
use Rattle.spf_apps_formats.specs.Toy.{machine as toy_machine}
use Rattle.spf_apps_formats.specs.Laws.{AreBytes}
use Rattle.spf_apps_formats.specs.Huf1.{IsHuf1, IsNoHuf1At}
use Rattle.spf_apps_formats.specs.Lex1.{IsLex1, IsNoLex1At}
use Rattle.spf_apps_machine_text.specs.MachineText.{IsTextOf, machine_text}
use Rattle.spf_apps_machine_text.specs.Building.{BelongsToNoMachine}
use Rattle.spf_apps_programs.specs.PackBits.{packbits_program}
use Rattle.spf_apps_programs.specs.Huffman.{huffman_program}
use Rattle.spf_apps_programs.specs.Lexer.{lexer_program}
use Rattle.spf_speculation.specs.Steps.{Step}
use Rattle.spf_replay_log.specs.declared.log.Step as logged
use Rattle.spf_replay_log.specs.Log.{IsLog}
use Rattle.spf_replay_log.specs.Refusals.{LogBreaksAt}
use Rattle.spf_replay.specs.Limits.{max_steps}
use Rattle.spf_replay.specs.SeenSteps.{seen_steps}
use Rattle.spf_replay.specs.Expecting.{expected, IsSchedule}
use Rattle.spf_replay.specs.declared.verdict.Verdict as log_verdict
use Rattle.spf_replay.specs.Verdicts.{IsVerdict}
use Rattle.spf_replay_sim.specs.Drawing.{step_count, HasTooManySteps}
use Rattle.spf_replay_sim.specs.Bytes.{bytes_of}
use Rattle.spf_cli_answers.specs.Reading.{TextVerdict, Says, Refuses, IsTextVerdict}
use Rattle.spf_batch.specs.Batch.{max_input}
use Rattle.spf_batch_lists.specs.Lists.{AreNames, IsBadAt}
use Rattle.spf_cli_answers.specs.Batched.{RunsFiles}
use Rattle.spf_cli_answers.specs.Decoded.{Unpacked, Unhuffed, Tokenized}

-- how many bytes the file of a program, that of a machine, that of a machine's text, that of a list, that of a log, and that of an input may have
abbrev pub max_program : ℕ
max_program = 1048576

abbrev pub max_machine : ℕ
max_machine = 16384

abbrev pub max_machine_text : ℕ
max_machine_text = 32768

abbrev pub max_list : ℕ
max_list = 1048576

abbrev pub max_log : ℕ
max_log = 20971520

-- with the program that a text says, or without one
abbrev pub WithText : TextVerdict → (Program → Course) → Course
WithText (Says p) next = next p
WithText (Refuses refusal) next = Ends (Is (text_refused refusal))

-- with the verdict on a text: its program, or the refusal
abbrev pub Read : List ℕ → (Program → Course) → Course
Read text next fetches answer = (v : TextVerdict) × IsTextVerdict text v × WithText v next fetches answer

-- with a program that the rules accept, or by the first refusal of one that they don't
abbrev pub CheckedBy : Program → Course → Course
CheckedBy p next fetches answer =
    (IsAccepted p × next fetches answer)
    ⊎ ((rule : Rule) × (line : ℕ) × (range : Option Range) × IsFirstRefusal p rule line range
    × Ends (Is (rule_refused p rule line range)) fetches answer)

-- with a program that may be run: by the plain meaning each may, otherwise those that the rules accept
abbrev pub Allowed : Bool → Program → Course → Course
Allowed true p next = next
Allowed false p next = CheckedBy p next

-- with the program of a file, where the rules accept it
abbrev pub AcceptedIn : List ℕ → (Program → Course) → Course
AcceptedIn name next = Fetches name max_program (λ text. Read text (λ p. CheckedBy p (next p)))

-- the explanation of a program
abbrev pub Explained : Program → Wanted
Explained p answer = (text : List ℕ) × Explains p text × (answer ≡ explained text)

-- the predictors that are supplied: what each answers, and how many they are
pub record Handed : Type 0 where
  pub hosts : Hosts
  pub count : ℕ

-- the predictors whose answers these are
abbrev pub handed : List Answers → Handed
handed predictors = record { hosts = handed_in predictors; count = length predictors }

-- the statistics of a run; by the plain meaning no block is guessed
abbrev pub stats_of : Options → Handed → Program → List ℕ → Stats
stats_of options given p input = if options.plain then none else (tally given.hosts p input).stats

-- the first host that a run would ask and that isn't supplied; by the plain meaning none is asked
abbrev pub host_wanted : Options → Handed → Program → Option ℕ
host_wanted options given p = if options.plain then None else missing_host given.count (constructs_in p.main)

-- where no host is missing
abbrev pub WithHosts : Option ℕ → Wanted → Wanted
WithHosts None next = next
WithHosts (Some host) next = Is (host_missing host)

-- a program can be run on an input: it doesn't have too many cells, and this host isn't missing
abbrev pub Started : Option ℕ → Program → List ℕ → Wanted → Wanted
Started missing p input next =
    Either (nat_le (cell_count_of p (length input)) (max_cells p)) (WithHosts missing next)
    (Is (too_many_cells (counted (cell_count_of p (length input))) (max_cells p)))

-- a program is run on an input, and this is said of how it ended and of its statistics
abbrev pub RunsTo : (Outcome → Stats → Answer) → Options → Handed → Program → List ℕ → Wanted
RunsTo said options given p input =
    Started (host_wanted options given p) p input (Is (said (outcome p input) (stats_of options given p input)))

-- a program is run on an input
abbrev pub Runs : Options → Handed → Program → List ℕ → Wanted
Runs options given p input = RunsTo (ran options p (length input)) options given p input

-- a program is run on the file of an input
abbrev pub RunsOn : Options → Handed → List ℕ → Program → Course
RunsOn options given input p = Fetches input max_input (λ content. Ends (Runs options given p content))

-- ---- bytes at hand

-- a run by blocks on `workers` workers, which shows its statistics
abbrev pub with_stats : ℕ → Options
with_stats workers = record { workers = Some workers; stats = true; cells = false; plain = false }

-- the program that a text says is run so, where the rules accept it, on an input; nothing is fetched
abbrev pub RunsText : Handed → ℕ → List ℕ → List ℕ → Wanted
RunsText given workers text input = Read text (λ p. CheckedBy p (Ends (Runs (with_stats workers) given p input))) []

-- ---- decoders

-- how many input bytes a block has: as many as the words say, otherwise 1,024
abbrev pub block_of : DecodeOptions → ℕ
block_of options = unwrap_or options.block 1024

-- the options of a decoder's run, which goes by blocks and shows no cells
abbrev pub run_options : DecodeOptions → Options
run_options options = record { workers = options.workers; stats = options.stats; cells = false; plain = false }

-- a decoder's program is run on an input, with no hosts
abbrev pub Decodes : DecodeOptions → Program → List ℕ → Wanted
Decodes options p input = Runs (run_options options) (handed []) p input

-- with a file that is HUF1, or by the offset at which it isn't
abbrev pub WithHuf1 : List ℕ → Course → Course
WithHuf1 file next fetches answer =
    (IsHuf1 file × next fetches answer)
    ⊎ ((offset : ℕ) × IsNoHuf1At file offset × Ends (Is (not_huf1 offset)) fetches answer)

-- with a file that is LEX1, or by the offset at which it isn't
abbrev pub WithLex1 : List ℕ → (ℕ → ℕ → Course) → Course
WithLex1 file next fetches answer =
    ((states : ℕ) × (classes : ℕ) × IsLex1 file states classes × next states classes fetches answer)
    ⊎ ((offset : ℕ) × IsNoLex1At file offset × Ends (Is (not_lex1 offset)) fetches answer)

-- what is wanted of the answers of the decoders: that of a run of their programs, which writes what the formats mean
abbrev pub Unpacking : DecodeOptions → List ℕ → Wanted
Unpacking options file = Both (Decodes options (packbits_program (block_of options)) file) (Unpacked (block_of options) file)

abbrev pub Unhuffing : DecodeOptions → List ℕ → Wanted
Unhuffing options file = Both (Decodes options (huffman_program (block_of options)) file) (Unhuffed (block_of options) file)

abbrev pub Lexing : DecodeOptions → List ℕ → ℕ → ℕ → List ℕ → Wanted
Lexing options machine states classes content =
    Both (Decodes options (lexer_program (block_of options) states classes) (machine ++ content))
    (Tokenized (block_of options) machine content)

-- ---- machines' texts

-- with the file of a text, or where no machine has this text
abbrev pub WithMachine : List ℕ → (List ℕ → Course) → Course
WithMachine text next fetches answer =
    ((file : List ℕ) × IsTextOf text file × next file fetches answer)
    ⊎ (BelongsToNoMachine text × Ends (Is not_a_machine) fetches answer)

-- ---- batches

-- with the names of a list, or by its first line that isn't one
abbrev pub WithNames : List ℕ → (List (List ℕ) → Course) → Course
WithNames list next fetches answer =
    ((names : List (List ℕ)) × AreNames list names × next names fetches answer)
    ⊎ ((number : ℕ) × IsBadAt list number × Ends (Is (not_a_name number)) fetches answer)

-- where no host is missing, the files of these names are run
abbrev pub Batches : Handed → Program → List (List ℕ) → Option ℕ → Course
Batches given p names None = RunsFiles given.hosts p [] names
Batches given p names (Some host) = Ends (Is (host_missing host))

-- a program is run on the files that a list names
abbrev pub BatchesOn : Handed → List ℕ → Program → Course
BatchesOn given list p =
    Fetches list max_list (λ bytes. WithNames bytes (λ names. Batches given p names (missing_host given.count (constructs_in p.main))))

-- ---- logs

-- with the log that a file is, or by the offset at which it is none
abbrev pub WithLog : List ℕ → (List (List logged.Step) → Course) → Course
WithLog file next fetches answer =
    ((log : List (List logged.Step)) × IsLog log file × next log fetches answer)
    ⊎ ((offset : ℕ) × LogBreaksAt file offset × Ends (Is (not_a_log offset)) fetches answer)

-- the log of the run whose schedule a seed draws, unless it has too many steps
abbrev pub Drawn : Hosts → Program → List ℕ → (seed : ℕ) → Wanted
Drawn hosts p input seed answer =
    ((log : List (List Step)) × IsSchedule hosts p input seed log × (step_count log ≤ max_steps)
    × (answer ≡ simulated (outcome p input) (tally hosts p input).stats (bytes_of log)))
    ⊎ (HasTooManySteps hosts p input seed × (answer ≡ too_many_steps))

-- a run on an input is simulated
abbrev pub Simulates : Handed → (seed : ℕ) → Program → List ℕ → Wanted
Simulates given seed p input = Started (missing_host given.count (constructs_in p.main)) p input (Drawn given.hosts p input seed)

-- the verdict on a log
abbrev pub Ruled : Hosts → Program → List ℕ → List (List logged.Step) → Wanted
Ruled hosts p input log answer = (v : log_verdict.Verdict) × IsVerdict (expected hosts p input) (map seen_steps log) v × (answer ≡ judged v)

-- a log is checked against the runs of a program on an input
abbrev pub Replays : Handed → Program → List ℕ → List (List logged.Step) → Wanted
Replays given p input log = Started (missing_host given.count (constructs_in p.main)) p input (Ruled given.hosts p input log)

-- ---- demos

-- a demo's program, for blocks of 1,024 bytes
abbrev pub demo_program : Kind → Program
demo_program kind.Unpack = packbits_program 1024
demo_program kind.Unhuff = huffman_program 1024
demo_program kind.Lex = lexer_program 1024 6 6

-- its input: the generated file, after the toy machine where it is a lexer's
abbrev pub demo_input : Kind → List ℕ → List ℕ
demo_input kind.Unpack file = file
demo_input kind.Unhuff file = file
demo_input kind.Lex file = toy_machine ++ file

-- by blocks, with nothing shown but what is said
abbrev pub by_blocks : Options
by_blocks = record { workers = None; stats = false; cells = false; plain = false }

-- a decoder's program is run, with no hosts, on the input that a seed and a size generate
abbrev pub Demonstrates : Kind → ℕ → ℕ → Wanted
Demonstrates decoder seed size answer =
    (file : List ℕ) × AreBytes file × IsGenerated decoder seed size file
    × RunsTo shown by_blocks (handed []) (demo_program decoder) (demo_input decoder file) answer

-- ---- commands

-- the course of a command: its files in their order, each with its tests
abbrev pub WholeOf : Handed → Command → Course
WholeOf given (Run program input options) =
    Fetches program max_program (λ text. Read text (λ p. Allowed options.plain p (RunsOn options given input p)))
WholeOf given (Check program) = AcceptedIn program (λ p. Ends (Is accepted))
WholeOf given (Explain program) = Fetches program max_program (λ text. Read text (λ p. Ends (Explained p)))
WholeOf given (Print program) = Fetches program max_program (λ text. Read text (λ p. Ends (Is (printed p))))
WholeOf given (Unpack input options) = Fetches input max_input (λ content. Ends (Unpacking options content))
WholeOf given (Unhuff input options) = Fetches input max_input (λ content. WithHuf1 content (Ends (Unhuffing options content)))
WholeOf given (Lex machine input options) =
    Fetches machine max_machine (λ table. WithLex1 table (λ states classes.
    Fetches input max_input (λ content. Ends (Lexing options table states classes content))))
WholeOf given (Show machine) =
    Fetches machine max_machine (λ table. WithLex1 table (λ states classes. Ends (Is (written (machine_text table)))))
WholeOf given (Build text) = Fetches text max_machine_text (λ bytes. WithMachine bytes (λ file. Ends (Is (written file))))
WholeOf given (Sim program input seed) =
    AcceptedIn program (λ p. Fetches input max_input (λ content. Ends (Simulates given seed p content)))
WholeOf given (Replay program input log) =
    AcceptedIn program (λ p. Fetches input max_input (λ content. Fetches log max_log (λ file.
    WithLog file (λ sections. Ends (Replays given p content sections)))))
WholeOf given (Batch program list workers) =
    AcceptedIn program (BatchesOn given list)
WholeOf given (Demo decoder seed size workers) = Ends (Demonstrates decoder seed size)

-- the words ask for no command
abbrev pub AskForNothing : List (List ℕ) → Type 0
AskForNothing words = (command : Command) → Asks words command → ⊥

-- the course of these words, where these predictors are supplied
abbrev pub Whole : Handed → List (List ℕ) → Course
Whole given words fetches answer =
    ((command : Command) × Asks words command × WholeOf given command fetches answer)
    ⊎ (AskForNothing words × Ends (Is not_understood) fetches answer)

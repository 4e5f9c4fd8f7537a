-- What calls promise: the course of a command was followed, and predictors were told so much.
use Rattle.std.specs.Prelude.{◌≡◌, ℕ, List, [], ◌∷◌, ◌++◌, map, length, string_bytes, Result, Ok, Err, IfOk, IfErr, String, Vec}
use Rattle.std.specs.declared.alloc.Global.{Global}
use Rattle.spf_ast.specs.declared.syntax.Program as checked
use Rattle.spf_ast.specs.Syntax.{Program}
use Rattle.spf_ast.specs.Program.{Outcome, seen_outcome}
use Rattle.spf_ast.specs.View.{program}
use Rattle.spf_exec_instance.specs.Instance.{InstanceValue, program_of}
use Rattle.spf_guess_statistics.specs.declared.stats.Stats.{Stats}
use Rattle.spf_guess_statistics.specs.Statistics.{tally}
use Rattle.spf_guess.specs.Answers.{Answers, WereTold, supplied}
use Rattle.spf_engine.specs.Runs.{WereToldFirst}
use Rattle.spf_edge.specs.Fetches.{FilesState, AreMade}
use Rattle.spf_batch.specs.declared.batch.Totals.{Totals}
use Rattle.spf_batch.specs.declared.error.BatchError.{BatchError}
use Rattle.spf_replay_log.specs.declared.log.Step as logged
use Rattle.spf_replay_sim.specs.declared.simulation.Simulated.{Simulated}
use Rattle.spf_replay_sim.specs.Bytes.{bytes_of}
use Rattle.spf_replay_walk.specs.Judging.{seen_log}
use Rattle.spf_cli_words.specs.Command.{Command, Run}
use Rattle.spf_cli_words.specs.Command as asked
use Rattle.spf_cli_words.specs.Asked.{seen_options, seen_decode_options}
use Rattle.spf_cli_words.specs.Only.{IsOnly}
use Rattle.spf_cli_words.specs.declared.command.Options.{Options}
use Rattle.spf_cli_words.specs.declared.command.DecodeOptions.{DecodeOptions}
use Rattle.spf_cli_answers.specs.Answer as said
use Rattle.spf_cli_answers.specs.Answer.{ran, simulated}
use Rattle.spf_cli_answers.specs.Answering.{lines_of, AnswersWith, IsFollowed, IsRunToItsEnd}
use Rattle.spf_cli_answers.specs.Course.{Course, Fetches, Ends}
use Rattle.spf_cli_answers.specs.Ending.{EndsWith}
use Rattle.spf_cli_answers.specs.Reading.{Says, IsTextVerdict}
use Rattle.spf_cli_answers.specs.Replying.{CanBegin, IsReply, RepliesWith}
use Rattle.spf_cli_answers.specs.Status.{status_number}
use Rattle.spf_batch.specs.Batch.{max_input}
use Rattle.spf_apps_formats.specs.declared.generate.Kind.{Kind}
use Rattle.spf_apps_formats.specs.Draws.{IsGenerated}
use Rattle.spf_apps_formats.specs.Laws.{AreBytes}
use Rattle.spf_cli_answers.specs.Whole.{Handed, handed, Whole, WholeOf, Allowed, Runs, RunsOn, Drawn, Ruled, Replays, WithLog, WithHuf1, Unhuffing, Lexing, demo_input, max_log}
use Rattle.spf_cli_answers.specs.declared.answer.Answer.{Answer}
use Rattle.spf_cli_answers.specs.declared.answer.Exit.{Exit}
use Rattle.spf_cli_answers.specs.declared.batch.Batch.{Batch}
use Rattle.spf_cli_answers.specs.declared.batching.Ending.{Ending}
use Rattle.spf_cli_answers.specs.declared.reply.Reply.{Reply}

-- ---- predictors in boxes, where it is known what each box answers

-- the predictors that the boxes are
abbrev pub given_by : {Box : Type 0} → (Box → Answers) → List Box → Handed
given_by answers boxes = handed (map answers boxes)

-- the predictors were told nothing
abbrev pub Untold : {Box : Type 0} → (Box → Answers) → List Box → List Box → Type 0
Untold answers old new = WereTold (supplied answers old) [] (supplied answers new)

-- the predictors were told a prefix of what they are told in a whole run
abbrev pub ToldFirst : {Box : Type 0} → (Box → Answers) → List Box → List Box → Program → List ℕ → Type 0
ToldFirst answers old new p input = WereToldFirst (supplied answers old) p input (supplied answers new)

-- if the answer is that of a run to its end, the predictors were told all of that run
abbrev pub ToldAll : {Box : Type 0} → (Box → Answers) → List Box → List Box → Program → List ℕ → said.Answer → Type 0
ToldAll answers old new p input answer =
    IsRunToItsEnd answer → WereTold (supplied answers old) (tally (supplied answers old) p input).telling (supplied answers new)

-- so it is with the program that a text says
abbrev pub ToldAllOf : {Box : Type 0} → (Box → Answers) → List Box → List Box → List ℕ → List ℕ → said.Answer → Type 0
ToldAllOf answers old new text input answer =
    (p : Program) → IsTextVerdict text (Says p) → ToldAll answers old new p input answer

-- ---- courses

-- the course of a command was followed to its answer, with these predictors
abbrev pub FollowsWith : {Box : Type 0} → (Box → Answers) → List Box → Command → FilesState → FilesState → Result Answer Exit → Type 0
FollowsWith answers boxes command old new = AnswersWith (IsFollowed (WholeOf (given_by answers boxes) command) old new)

-- the course of a command was followed to its answer, whatever predictors are supplied
abbrev pub Follows : Command → FilesState → FilesState → Result Answer Exit → Type 0
Follows command old new result = (given : Handed) → AnswersWith (IsFollowed (WholeOf given command) old new) result

-- the command that runs a program on an input, with these options
abbrev pub run_of : List ℕ → List ℕ → Options → Command
run_of program input options = Run program input (seen_options options)

-- a checked program was run on the file of an input, with these predictors
abbrev pub FollowsRun : {Box : Type 0} → (Box → Answers) → List Box → Options → List ℕ → checked.Program → FilesState → FilesState → Result Answer Exit → Type 0
FollowsRun answers boxes options input p old new =
    AnswersWith (IsFollowed (RunsOn (seen_options options) (given_by answers boxes) input (program p)) old new)

-- a program was run on the file of an input, with these predictors, where it may be run
abbrev pub FollowsAllowedRun : {Box : Type 0} → (Box → Answers) → List Box → Options → List ℕ → checked.Program → FilesState → FilesState → Result Answer Exit → Type 0
FollowsAllowedRun answers boxes options input p old new =
    AnswersWith (IsFollowed (Allowed options.plain (program p) (RunsOn (seen_options options) (given_by answers boxes) input (program p))) old new)

-- a program was run on the file of an input, whatever predictors are supplied
abbrev pub FollowsPlainRun : Options → List ℕ → Program → FilesState → FilesState → Result Answer Exit → Type 0
FollowsPlainRun options input p old new result =
    (given : Handed) → AnswersWith (IsFollowed (RunsOn (seen_options options) given input p) old new) result

-- the file of an input was lexed with a machine
abbrev pub FollowsLexing : DecodeOptions → List ℕ → List ℕ → ℕ → ℕ → FilesState → FilesState → Result Answer Exit → Type 0
FollowsLexing options input machine states classes old new =
    AnswersWith (IsFollowed (Fetches input max_input (λ content.
    Ends (Lexing (seen_decode_options options) machine states classes content))) old new)

-- a log is checked against the runs of a program, over the files of an input and of the log
abbrev pub ReplaysOn : Handed → List ℕ → List ℕ → Program → Course
ReplaysOn given input log p =
    Fetches input max_input (λ content. Fetches log max_log (λ file. WithLog file (λ sections. Ends (Replays given p content sections))))

-- a log was checked against the runs of a checked program, with these predictors
abbrev pub FollowsReplay : {Box : Type 0} → (Box → Answers) → List Box → List ℕ → List ℕ → checked.Program → FilesState → FilesState → Result Answer Exit → Type 0
FollowsReplay answers boxes input log p old new =
    AnswersWith (IsFollowed (ReplaysOn (given_by answers boxes) input log (program p)) old new)

-- the course of the words was followed to its answer, or to a batch
abbrev pub IsReplyTo : Handed → List (String Global) → FilesState → FilesState → Reply → Type 0
IsReplyTo given words old new = IsReply given (Whole given (map string_bytes words)) old new

-- the course of a command was followed to its answer, or to a batch, unless memory ran out
abbrev pub RepliesTo : Handed → Command → FilesState → FilesState → Result Reply Exit → Type 0
RepliesTo given command old new = RepliesWith given (WholeOf given command) old new

-- the file of this name was fetched within this limit, and nothing else, and this is its content
abbrev pub IsFetched : FilesState → FilesState → List ℕ → ℕ → List ℕ → Type 0
IsFetched old new name limit content = AreMade old new (record { name = name; limit = limit; gave = Ok content } ∷ [])

-- ---- answers

-- the answer is the only one to a run on an input at hand, unless memory ran out
abbrev pub AnswersRun : asked.Options → Handed → Program → List ℕ → Result Answer Exit → Type 0
AnswersRun options given p input = AnswersWith (IsOnly (Runs options given p input))

-- the answer is the only one to a log that is checked, unless memory ran out
abbrev pub AnswersReplay : Handed → Program → List ℕ → List (List logged.Step) → Result Answer Exit → Type 0
AnswersReplay given p input log = AnswersWith (IsOnly (Replays given p input log))

-- the answer is the only one to the content of a file that should be HUF1, unless memory ran out
abbrev pub AnswersUnhuffing : DecodeOptions → List ℕ → Result Answer Exit → Type 0
AnswersUnhuffing options file =
    AnswersWith (IsOnly (WithHuf1 file (Ends (Unhuffing (seen_decode_options options) file)) []))

-- the input of a demo, for some file that a seed and a size generate
abbrev pub IsDemoInput : Kind → ℕ → ℕ → List ℕ → Type 0
IsDemoInput decoder seed size input =
    (file : List ℕ) × AreBytes file × IsGenerated decoder seed size file × (input ≡ demo_input decoder file)

-- the answer is the only one to an instance that is simulated, with these predictors, unless memory ran out
abbrev pub AnswersDrawn : {Box : Type 0} → (Box → Answers) → List Box → InstanceValue → ℕ → Result Answer Exit → Type 0
AnswersDrawn answers boxes instance seed =
    AnswersWith (IsOnly (Drawn (supplied answers boxes) (program_of instance) instance.input seed))

-- the answer is the only one to a log that is checked against the runs of an instance, unless memory ran out
abbrev pub AnswersRuled : {Box : Type 0} → (Box → Answers) → List Box → InstanceValue → List (List logged.Step) → Result Answer Exit → Type 0
AnswersRuled answers boxes instance log =
    AnswersWith (IsOnly (Ruled (supplied answers boxes) (program_of instance) instance.input log))

-- the answer of an instance that was run
abbrev pub ran_there : Options → InstanceValue → Outcome → Stats → said.Answer
ran_there options instance outcome stats = ran (seen_options options) (program_of instance) (length instance.input) outcome stats

-- the answer of a run that was simulated
abbrev pub simulated_so : Simulated → said.Answer
simulated_so made = simulated (seen_outcome made.outcome) made.stats (bytes_of (seen_log made.log.items))

-- these lines were added to the messages
abbrev pub Adds : List (Vec ℕ Global) → List (Vec ℕ Global) → List (List ℕ) → Type 0
Adds old new lines = lines_of new ≡ lines_of old ++ lines

-- ---- batches

-- a batch that was read can begin, where so many predictors are supplied
abbrev pub BatchBegins : ℕ → Command → FilesState → FilesState → Result Batch Exit → Type 0
BatchBegins count command old new result =
    (given : Handed) → given.count ≡ count → IfOk result (CanBegin given (WholeOf given command) old new)

-- without a batch there is the answer of its command, where so many predictors are supplied, or memory ran out
abbrev pub BatchAnswers : ℕ → Command → FilesState → FilesState → Result Batch Exit → Type 0
BatchAnswers count command old new result =
    (given : Handed) → given.count ≡ count
    → IfErr result (λ left. AnswersWith (IsFollowed (WholeOf given command) old new) (Err left))

-- the ending is that of a batch that came to this
abbrev pub IsEndingOf : Batch → Result Totals BatchError → Ending → Type 0
IsEndingOf batch came ending =
    EndsWith (program batch.checked) (map string_bytes batch.names.items) came (status_number ending.status) (lines_of ending.messages.items)

-- A run in pieces that goes on as the plain run of its program does.
use Rattle.std.specs.Prelude.{◌≡◌, ℕ, true, false, List, [], ◌++◌, length, Some, Result, Ok, ℤ}
use Rattle.spf_ast.specs.declared.outcome.Trap.{Trap}
use Rattle.spf_ast.specs.Interaction.{Value}
use Rattle.spf_ast.specs.Syntax.{Program, Block, followed_by}
use Rattle.spf_ast.specs.Meaning.{main_means}
use Rattle.spf_ast.specs.Carried.{Carried}
use Rattle.spf_ast.specs.Plain.{plain_answer, plain_memory}
use Rattle.spf_ast.specs.Program.{environment_of, start_of, zeros_of, Outcome, outcome, outcome_from}
use Rattle.spf_ast.specs.Construct.{Moment, Construct, Header, header_means, constructs_in, Reached, reached_from}
use Rattle.spf_ast.specs.Pieces.{construct_first}
use Rattle.spf_ast.specs.Lawful.{Scope, names_at, IsLawfulBlock}
use Rattle.spf_exec_instance.specs.Frame.{main_slots}
use Rattle.spf_exec.specs.Pieces.{RunState, RunsTo, moment_of, ahead}
use Rattle.spf_ast_laws.specs.Agreement.{LookAlike}
use Rattle.spf_ast_laws.specs.Keeping.{AreDeclared}
use Rattle.spf_speculation_entry.specs.Entry.{Entry, plain_blocks, number_of}
use Rattle.spf_guess_statistics.specs.declared.stats.Stats.{Stats}
use Rattle.spf_guess_statistics.specs.Guess.{Guess, Hosts, Telling, guess_for, tells}
use Rattle.spf_guess_statistics.specs.Statistics.{none, plus, statistics_with, tally_from, tally}
use Rattle.spf_engine_laws.specs.Passed.{PassedConstruct, passed_from, all_passed_from, all_passed, OneByOne, PassedAlike}

-- ---- where a run is

-- the plain run of the program is at this moment when these statements of `main` are still to come: those before them came to it
pub record IsAt (p : Program) (input : List ℕ) (rest : Block) (m : Moment) : Type 0 where
  pub before : Block
  pub parts : followed_by before rest ≡ p.main
  pub state : plain_answer (main_means (environment_of p input) before (start_of p)) (zeros_of p (length input)) ≡ Value tt m.state
  pub memory : plain_memory (main_means (environment_of p input) before (start_of p)) (zeros_of p (length input)) ≡ m.memory

-- what a run has counted, what it has told its hosts, and which constructs with blocks it has passed, up to where it is
pub record Progress : Type 0 where
  pub stats : Stats
  pub telling : List Telling
  pub passed : List PassedConstruct

-- none yet
abbrev pub no_progress : Progress
no_progress = record { stats = none; telling = []; passed = [] }

-- With what the constructs still add that the plain run will reach, the progress is that of the whole run: what was
-- passed is, one by one, what the plain run passed before them.
pub record IsCompletedBy (hosts : Hosts) (p : Program) (input : List ℕ) (constructs : List Construct)
    (others : List Reached) (progress : Progress) : Type 0 where
  pub stats_are : plus progress.stats (tally_from hosts p input constructs others progress.telling).stats ≡ (tally hosts p input).stats
  pub telling_is : (tally_from hosts p input constructs others progress.telling).telling ≡ (tally hosts p input).telling
  pub before : List PassedConstruct
  pub passed_are : OneByOne PassedAlike progress.passed before
  pub all_are : before ++ all_passed_from hosts p input constructs others progress.telling ≡ all_passed hosts p input

-- A run of a lawful program is where its plain run is at the same place: they agree on the slots that are visible
-- there, on the output and on the memory. What the plain run does from this moment on gives the program's outcome,
-- and completes the run's progress.
pub record GoesOn (hosts : Hosts) (p : Program) (input : List ℕ) (s : RunState) (progress : Progress) : Type 0 where
  pub scope : Scope
  pub moment : Moment
  pub there : IsAt p input (ahead p s) moment
  pub lawful : IsLawfulBlock (names_at p (length p.functions) p.slots) true scope (ahead p s)
  pub declared : AreDeclared scope
  pub outside : scope.in_loop ≡ false
  pub alike : LookAlike scope.visible moment.state (moment_of p s).state
  pub memory : moment.memory ≡ s.cells
  pub outcome_is : outcome_from (plain_answer (main_means (environment_of p input) (ahead p s) moment.state) moment.memory)
      (plain_memory (main_means (environment_of p input) (ahead p s) moment.state) moment.memory)
      ≡ outcome p input
  pub completes : IsCompletedBy hosts p input (constructs_in (ahead p s)) (reached_from (environment_of p input) (ahead p s) moment) progress

-- ---- constructs

-- the entry of a construct at which a run stands, with this header
abbrev pub entry_there : Program → List ℕ → Construct → Header → RunState → Entry
entry_there p input c h s = record {
  program = p;
  construct = c;
  input = input;
  slots = main_slots p s.frame;
  memory = s.cells;
  header = h;
}

-- the guess for each of its blocks, after hosts were told these pairs
abbrev pub entry_guess : Hosts → List Telling → Entry → ℕ → Guess
entry_guess hosts telling e n = guess_for hosts telling e.program e.input e.construct e.slots e.memory (number_of e n)

-- the blocks from this entry come to this result, and leave this memory where none traps
pub record BlocksComeTo (e : Entry) (r : Result Carried Trap) (memory : List ℤ) : Type 0 where
  pub result : (plain_blocks e).result ≡ r
  pub memory_is : (v : Carried) → r ≡ Ok v → memory ≡ (plain_blocks e).memory

-- the progress after the construct of this entry, whose blocks had these guesses
abbrev pub with_construct : Entry → (ℕ → Guess) → Progress → Progress
with_construct e guess progress = record {
  stats = plus progress.stats (statistics_with guess (plain_blocks e).values);
  telling = progress.telling ++ tells e.construct e.header (plain_blocks e).values;
  passed = progress.passed ++ passed_from e guess;
}

-- so, where the blocks had the guesses after all that hosts were told before
abbrev pub past_construct : Hosts → Entry → Progress → Progress
past_construct hosts e progress = with_construct e (entry_guess hosts progress.telling e) progress

-- a run has reached a construct and done its header, which left it here
pub record HasEntered (hosts : Hosts) (p : Program) (input : List ℕ) (c : Construct) (h : Header) (s : RunState) (progress : Progress) : Type 0 where
  pub before : RunState
  pub goes : GoesOn hosts p input before progress
  pub first : construct_first (ahead p before) ≡ Some c
  pub header : RunsTo p (header_means (environment_of p input) c) before s h
  pub place : s.place ≡ before.place

-- the run was left where the header left it, but for its cells
pub record IsLeftThere (after now : RunState) : Type 0 where
  pub frame : now.frame ≡ after.frame
  pub output : now.output ≡ after.output
  pub place : now.place ≡ after.place

-- ---- the end

-- the progress is that of the whole run
pub record IsWhole (hosts : Hosts) (p : Program) (input : List ℕ) (progress : Progress) : Type 0 where
  pub stats_are : progress.stats ≡ (tally hosts p input).stats
  pub telling_is : progress.telling ≡ (tally hosts p input).telling
  pub passed_are : OneByOne PassedAlike progress.passed (all_passed hosts p input)

-- a run has reached its end with the program's outcome
pub record HasCome (hosts : Hosts) (p : Program) (input : List ℕ) (o : Outcome) (progress : Progress) : Type 0 where
  pub outcome_is : o ≡ outcome p input
  pub whole : IsWhole hosts p input progress

-- What it means that code ran one piece of `main`.
use Rattle.std.specs.Prelude.{◌≡◌, ℕ, ◌+◌, ◌≤◌, List, [], ◌++◌, length, take, drop, Some, Result, Ok, Err, ℤ}
use Rattle.spf_ast.specs.declared.outcome.Trap.{Trap}
use Rattle.spf_ast.specs.Carried.{Carried, with_carried}
use Rattle.spf_ast.specs.Interaction.{Interaction, State, Ending, Value, Trapped, Meaning}
use Rattle.spf_ast.specs.Syntax.{Program, Block, end}
use Rattle.spf_ast.specs.Meaning.{main_means}
use Rattle.spf_ast.specs.Plain.{plain_answer, plain_memory}
use Rattle.spf_ast.specs.Program.{environment_of, cell_count_of, start_of, zeros_of}
use Rattle.spf_ast.specs.Construct.{Construct, Moment, Header, plainly, header_means, constructs_in, carried_of}
use Rattle.spf_ast.specs.ConstructView.{construct as seen_construct}
use Rattle.spf_ast.specs.Pieces.{statement_count, rest_from, before_construct, from_construct, construct_first}
use Rattle.spf_exec_instance.specs.Frame.{frame_size, main_slots}
use Rattle.spf_exec_memory.specs.declared.memory.Halt.{Halt}
use Rattle.spf_exec_memory.specs.Growing.{IsPrefix, output_of}
use Rattle.spf_exec_memory.specs.declared.plain.Plain.{Plain}
use Rattle.spf_exec.specs.declared.pieces.Header as code_header
use Rattle.spf_exec.specs.declared.pieces.Pause.{Pause}
use Rattle.spf_exec.specs.declared.pieces.Pause.TheVariants as pause

-- the state of a run between two statements of `main`: its frame, its cells, its output, the index of the next
-- statement, and how many top constructs it has passed
pub record RunState : Type 0 where
  pub frame : List ℤ
  pub cells : List ℤ
  pub output : List ℕ
  pub place : ℕ
  pub passed : ℕ

-- the state with these parts
abbrev pub run_state : List ℤ → Plain → ℕ → ℕ → RunState
run_state frame memory place passed = record { frame = frame; cells = memory.cells.items; output = memory.output.items; place = place; passed = passed }

-- cells with these words; a list of another length is cut, or filled up with the cells' own words
abbrev pub refilled : List ℤ → List ℤ → List ℤ
refilled cells words = take (length cells) (words ++ drop (length words) cells)

-- the statements of `main` that a run has before it
abbrev pub ahead : Program → RunState → Block
ahead p s = rest_from s.place p.main

-- a state of a run of this program on an input of this length: the top constructs of `main` are those that it has passed and those ahead of it
pub record IsStateOf (p : Program) (len : ℕ) (s : RunState) : Type 0 where
  pub frame : length s.frame ≡ frame_size p
  pub cells : length s.cells ≡ cell_count_of p len
  pub place : s.place ≤ statement_count p.main
  pub passed : s.passed + length (constructs_in (ahead p s)) ≡ length (constructs_in p.main)

-- the state in which the plain run of the program begins
pub record IsInitial (p : Program) (len : ℕ) (s : RunState) : Type 0 where
  pub slots : main_slots p s.frame ≡ (start_of p).slots
  pub cells : s.cells ≡ zeros_of p len
  pub output : s.output ≡ []
  pub place : s.place ≡ 0

-- the moment of the plain run with the same slots, output and cells
abbrev pub moment_of : Program → RunState → Moment
moment_of p s = record { state = record { slots = main_slots p s.frame; output = s.output }; memory = s.cells }

-- a form, run plainly from the state before, ends with this value in the state after
pub record RunsTo {A : Type 0} (p : Program) (form : Meaning A) (before after : RunState) (value : A) : Type 0 where
  pub answer : plainly form (moment_of p before) ≡ Value value (moment_of p after).state
  pub memory : after.cells ≡ plain_memory (form (moment_of p before).state) before.cells

-- a form, run plainly from the state before, traps, with the output of the state after
abbrev pub TrapsIn : {A : Type 0} → Program → Meaning A → RunState → RunState → Trap → Type 0
TrapsIn p form before after trap = plainly form (moment_of p before) ≡ Trapped trap after.output

-- the run went over all statements up to the next construct, which is this one, with this number
pub record ReachesConstruct (p : Program) (input : List ℕ) (before after : RunState) (count : ℕ) (next : Construct) : Type 0 where
  pub went : RunsTo p (main_means (environment_of p input) (before_construct (ahead p before))) before after tt
  pub at : ahead p after ≡ from_construct (ahead p before)
  pub construct : construct_first (ahead p after) ≡ Some next
  pub number : count + length (constructs_in (ahead p after)) ≡ length (constructs_in p.main)

-- the run went over all statements that were left
pub record IsFinished (p : Program) (input : List ℕ) (before after : RunState) : Type 0 where
  pub went : RunsTo p (main_means (environment_of p input) (before_construct (ahead p before))) before after tt
  pub at : ahead p after ≡ from_construct (ahead p before)
  pub none : ahead p after ≡ end

-- what the answer of `advance` says
abbrev pub Advanced : Program → List ℕ → RunState → RunState → Pause → Type 0
Advanced p input before after (pause.AtConstruct number construct) = ReachesConstruct p input before after number (seen_construct construct)
Advanced p input before after pause.Finished = IsFinished p input before after
Advanced p input before after (pause.Trapped trap) =
    TrapsIn p (main_means (environment_of p input) (before_construct (ahead p before))) before after trap

-- memory ran out before the next construct: the output is a prefix of what it would have been there
abbrev pub IsCutShort : Program → List ℕ → RunState → RunState → Type 0
IsCutShort p input before after =
    IsPrefix after.output (output_of (plainly (main_means (environment_of p input) (before_construct (ahead p before))) (moment_of p before)))

-- a header, as contracts see it
abbrev pub seen_header : code_header.Header → Header
seen_header h = record { low = h.low; blocks = h.blocks; start = h.start }

-- a header that was performed, as contracts see it
abbrev pub header_result : Result code_header.Header Halt → Result Header Halt
header_result (Ok h) = Ok (seen_header h)
header_result (Err why) = Err why

-- a header that is performed from these cells ends with this result
abbrev pub IsHeaderAnswer : Interaction (Ending Header) → List ℤ → State → Result code_header.Header Trap → Type 0
IsHeaderAnswer tree before s (Ok header) = plain_answer tree before ≡ Value (seen_header header) s
IsHeaderAnswer tree before s (Err trap) = plain_answer tree before ≡ Trapped trap s.output

-- the header of a construct was performed in the state before, and the next statement is the same
abbrev pub HeaderDone : Program → List ℕ → Construct → RunState → RunState → Result code_header.Header Trap → Type 0
HeaderDone p input construct before after (Ok header) = RunsTo p (header_means (environment_of p input) construct) before after (seen_header header)
HeaderDone p input construct before after (Err trap) = TrapsIn p (header_means (environment_of p input) construct) before after trap

-- the construct that is next was settled: its carried slots have this row's words, all else is as before, and the run is past it
pub record IsSettled (p : Program) (construct : Construct) (before after : RunState) (value : Carried) : Type 0 where
  pub slots : main_slots p after.frame ≡ with_carried (carried_of construct) value (main_slots p before.frame)
  pub cells : after.cells ≡ before.cells
  pub output : after.output ≡ before.output
  pub place : after.place ≡ before.place + 1
  pub passed : after.passed ≡ before.passed + 1

-- Runs of a program with the hosts that are handed in as boxes.
use Rattle.std.specs.Prelude.{◌<◌, ◌≤◌, ℕ, List, [], length}
use Rattle.std.specs.Global.{Vec}
use Rattle.spf_ast.specs.declared.construct.TopConstruct.{TopConstruct}
use Rattle.spf_ast.specs.Construct.{constructs_in, reals}
use Rattle.spf_ast.specs.ConstructView.{construct as seen_construct}
use Rattle.spf_ast.specs.Program.{cell_count_of, max_cells}
use Rattle.spf_ast.specs.Syntax.{Program}
use Rattle.spf_cells.specs.declared.finish.Trace.{Trace}
use Rattle.spf_exec.specs.declared.pieces.Header.{Header}
use Rattle.spf_exec.specs.Pieces.{RunState, seen_header}
use Rattle.spf_exec_instance.specs.Instance.{InstanceValue}
use Rattle.spf_guess_statistics.specs.declared.stats.Stats.{Stats}
use Rattle.spf_guess_statistics.specs.Guess.{Hosts}
use Rattle.spf_guess_statistics.specs.Statistics.{tally}
use Rattle.spf_guess.specs.Answers.{Answers, supplied, WereTold}
use Rattle.spf_guess.specs.Missing.{missing_host}
use Rattle.spf_engine_construct.specs.declared.construct.ConstructReport.{ConstructReport}
use Rattle.spf_engine_laws.specs.Traces.{AreTraces}
use Rattle.spf_engine.specs.declared.account.Account.{Account}
use Rattle.spf_engine.specs.declared.error.EngineError.{EngineError}
use Rattle.spf_engine.specs.declared.step.Step.{Step}
use Rattle.spf_engine.specs.Accounts.{Steps, StepsPast, BlocksCome}
use Rattle.spf_engine.specs.Errors.{AreTooMany, IsMissing, IsCauseOf}
use Rattle.spf_engine.specs.Runs.{WereToldFirst, EndsWithoutMemory, EndsWithoutMemoryAt, RowsWereTold}

-- ---- whole runs

-- how good the guesses are in a program's run
abbrev pub run_counts : Hosts → Program → List ℕ → Stats
run_counts hosts p input = (tally hosts p input).stats

-- these are traces of the constructs that a program's run reaches, one for each that has blocks
abbrev pub AreTracesOf : {Box : Type 0} → (Box → Answers) → Program → List ℕ → List Box → List Trace → Type 0
AreTracesOf answer p input hosts traces = AreTraces (supplied answer hosts) p input (constructs_in p.main) (reals p input) [] traces

-- the hosts were told all that they are told in a program's run
abbrev pub WereToldAll : {Box : Type 0} → (Box → Answers) → Program → List ℕ → (before after : List Box) → Type 0
WereToldAll answer p input before after = WereTold (supplied answer before) (tally (supplied answer before) p input).telling (supplied answer after)

-- they were told a prefix of it
abbrev pub WereToldSome : {Box : Type 0} → (Box → Answers) → Program → List ℕ → (before after : List Box) → Type 0
WereToldSome answer p input before after = WereToldFirst (supplied answer before) p input (supplied answer after)

-- ---- steps of a run

-- a run took a step from where it stood; run, account and hosts before it and after it
abbrev pub TakesStep : {Box : Type 0} → (Box → Answers) → InstanceValue → RunState → Account → Vec Box → Step → RunState → Account → Vec Box → Type 0
TakesStep answer i s account before taken later counted after = Steps i s account (supplied answer before.items) taken later counted (supplied answer after.items)

-- it took the step from the blocks of a construct
abbrev pub TakesStepAt : {Box : Type 0} → (Box → Answers) → InstanceValue → TopConstruct → Header → RunState → Account → Vec Box → Step → RunState → Account → Vec Box → Type 0
TakesStepAt answer i construct header s account before taken later counted after =
    StepsPast i s account (supplied answer before.items) (seen_construct construct) (seen_header header) taken later counted (supplied answer after.items)

-- the blocks of a construct at which a run stood came to this, and the run has the cells that they left
abbrev pub BlocksGive : {Box : Type 0} → (Box → Answers) → InstanceValue → TopConstruct → Header → RunState → Vec Box → ConstructReport → RunState → Type 0
BlocksGive answer i construct header s hosts report later = BlocksCome i s (supplied answer hosts.items) (seen_construct construct) (seen_header header) report later.cells

-- the hosts were told the real rows of these blocks
abbrev pub RowsTold : {Box : Type 0} → (Box → Answers) → InstanceValue → TopConstruct → Header → RunState → (before after : Vec Box) → Type 0
RowsTold answer i construct header s before after = RowsWereTold i s (supplied answer before.items) (seen_construct construct) (seen_header header) (supplied answer after.items)

-- a run that stood here found no memory, and the hosts were told a prefix of what they are told in the whole run
abbrev pub StopsWithoutMemory : {Box : Type 0} → (Box → Answers) → InstanceValue → RunState → (before after : Vec Box) → Type 0
StopsWithoutMemory answer i s before after = EndsWithoutMemory i s (supplied answer before.items) (supplied answer after.items)

-- so it is with one that stood at the blocks of a construct
abbrev pub StopsWithoutMemoryAt : {Box : Type 0} → (Box → Answers) → InstanceValue → TopConstruct → Header → RunState → (before after : Vec Box) → Type 0
StopsWithoutMemoryAt answer i construct header s before after =
    EndsWithoutMemoryAt i s (supplied answer before.items) (seen_construct construct) (seen_header header) (supplied answer after.items)

-- ---- why a program isn't run

-- its arrays have more cells on this input than it may have
abbrev pub HasTooManyCells : Program → List ℕ → Type 0
HasTooManyCells p input = max_cells p < cell_count_of p (length input)

-- they have no more than it may have
abbrev pub HasFewCells : Program → List ℕ → Type 0
HasFewCells p input = cell_count_of p (length input) ≤ max_cells p

-- the error says how many cells they have; or that memory ran out
abbrev pub SaysCells : Program → List ℕ → EngineError → Type 0
SaysCells p input error = AreTooMany (cell_count_of p (length input)) error

-- the error names the first host of the program that isn't below this count; or it says that memory ran out
abbrev pub SaysHostBeyond : Program → (count : ℕ) → EngineError → Type 0
SaysHostBeyond p count error = IsMissing (missing_host count (constructs_in p.main)) error

-- the error names the first host of the program that isn't handed in; or it says that memory ran out
abbrev pub SaysHost : {Box : Type 0} → Program → List Box → EngineError → Type 0
SaysHost p hosts error = SaysHostBeyond p (length hosts) error

-- the error's cause holds; where it is one of the first two, the hosts were told nothing
abbrev pub HasItsCause : {Box : Type 0} → (Box → Answers) → Program → List ℕ → (before after : List Box) → EngineError → Type 0
HasItsCause answer p input before after error =
    IsCauseOf (cell_count_of p (length input)) (max_cells p) (missing_host (length before) (constructs_in p.main)) (supplied answer before) (supplied answer after) error

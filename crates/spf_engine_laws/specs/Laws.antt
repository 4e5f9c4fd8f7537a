-- What runs in pieces come to.
use Rattle.std.specs.Prelude.{◌≡◌, ℕ, List, [], length, Some, Ok, Err, ℤ}
use Rattle.spf_ast.specs.declared.outcome.Trap.{Trap}
use Rattle.spf_ast.specs.Syntax.{Program}
use Rattle.spf_ast.specs.Program.{environment_of, Done, Stopped}
use Rattle.spf_ast.specs.Construct.{Construct, Header, header_means, constructs_in, reals}
use Rattle.spf_ast.specs.Pieces.{construct_first}
use Rattle.spf_ast.specs.Carried.{Carried}
use Rattle.spf_ast.specs.Silence.{FunctionsAreSilent}
use Rattle.spf_ast.specs.Lawful.{IsLawful}
use Rattle.spf_exec.specs.declared.pieces.Pause.{Pause}
use Rattle.spf_exec.specs.declared.pieces.Pause.TheVariants as pause
use Rattle.spf_exec.specs.Pieces.{RunState, IsInitial, Advanced, TrapsIn, IsSettled, ahead}
use Rattle.spf_check_rules.specs.Rules.{KeepsTheRules}
use Rattle.spf_guess_statistics.specs.Guess.{Hosts}
use Rattle.spf_engine_laws.specs.Traces.{Trace, AreTraces}
use Rattle.spf_engine_laws.specs.Passed.{OneByOne, IsItsTrace}
use Rattle.spf_engine_laws.specs.Progress.{Progress, no_progress, GoesOn, IsWhole, HasCome, BlocksComeTo, HasEntered, IsLeftThere, entry_there, past_construct}

-- a run that begins goes on as the plain run of its program
abbrev pub RunsBegin : Type 0
RunsBegin = (hosts : Hosts) (p : Program) (input : List ℕ) (s : RunState) → IsLawful p → IsInitial p (length input) s → GoesOn hosts p input s no_progress

-- a run that paused in this way goes on before a construct, or has reached its end
abbrev pub IsPausedSo : Hosts → Program → List ℕ → RunState → Progress → Pause → Type 0
IsPausedSo hosts p input s progress (pause.AtConstruct number construct) = GoesOn hosts p input s progress
IsPausedSo hosts p input s progress pause.Finished = HasCome hosts p input (Done s.cells s.output) progress
IsPausedSo hosts p input s progress (pause.Trapped trap) = HasCome hosts p input (Stopped trap s.output) progress

-- so it is after a run was advanced
abbrev pub RunsAdvance : Type 0
RunsAdvance =
    (hosts : Hosts) (p : Program) (input : List ℕ) (before after : RunState) (progress : Progress) (paused : Pause)
    → GoesOn hosts p input before progress → Advanced p input before after paused → IsPausedSo hosts p input after progress paused

-- a header that traps ends the run
abbrev pub HeadersEndRuns : Type 0
HeadersEndRuns =
    (hosts : Hosts) (p : Program) (input : List ℕ) (before after : RunState) (progress : Progress) (construct : Construct) (trap : Trap)
    → GoesOn hosts p input before progress → construct_first (ahead p before) ≡ Some construct
    → TrapsIn p (header_means (environment_of p input) construct) before after trap
    → HasCome hosts p input (Stopped trap after.output) progress

-- A run has entered a construct that keeps the rules, its blocks came to a row in the run's cells, and it was settled
-- with this row: the run goes on after the construct.
abbrev pub ConstructsSettle : Type 0
ConstructsSettle =
    (hosts : Hosts) (p : Program) (input : List ℕ) (progress : Progress) (construct : Construct) (header : Header)
    (after now last : RunState) (value : Carried)
    → HasEntered hosts p input construct header after progress → FunctionsAreSilent p.functions → KeepsTheRules p construct
    → IsLeftThere after now → BlocksComeTo (entry_there p input construct header after) (Ok value) now.cells
    → IsSettled p construct now last value
    → GoesOn hosts p input last (past_construct hosts (entry_there p input construct header after) progress)

-- where one of them trapped, the run has reached its end
abbrev pub ConstructsEndRuns : Type 0
ConstructsEndRuns =
    (hosts : Hosts) (p : Program) (input : List ℕ) (progress : Progress) (construct : Construct) (header : Header)
    (after : RunState) (trap : Trap) (memory : List ℤ)
    → HasEntered hosts p input construct header after progress → FunctionsAreSilent p.functions → KeepsTheRules p construct
    → BlocksComeTo (entry_there p input construct header after) (Err trap) memory
    → HasCome hosts p input (Stopped trap after.output) (past_construct hosts (entry_there p input construct header after) progress)

-- traces of the constructs that a run has passed by its end are the traces of the whole run
abbrev pub PassedHaveTheTraces : Type 0
PassedHaveTheTraces =
    (hosts : Hosts) (p : Program) (input : List ℕ) (progress : Progress) (traces : List Trace)
    → IsWhole hosts p input progress → OneByOne IsItsTrace progress.passed traces
    → AreTraces hosts p input (constructs_in p.main) (reals p input) [] traces

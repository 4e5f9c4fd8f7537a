-- What a speculative run means for the statement of `main` that its construct is.
use Rattle.std.specs.Prelude.{◌≡◌, ℕ, true, List, Some, Result, Ok}
use Rattle.spf_ast.specs.declared.outcome.Trap.{Trap}
use Rattle.spf_ast.specs.Carried.{Carried}
use Rattle.spf_ast.specs.Event.{after}
use Rattle.spf_ast.specs.Interaction.{State, Value}
use Rattle.spf_ast.specs.Syntax.{Statement}
use Rattle.spf_ast.specs.Meaning.{Environment, statement_means}
use Rattle.spf_ast.specs.Plain.{plain_memory}
use Rattle.spf_ast.specs.Program.{environment_of}
use Rattle.spf_ast.specs.Construct.{construct_of, carried_of, Moment, moment_after, plainly, header_means, RealValues, blocks_from}
use Rattle.spf_ast.specs.Silence.{FunctionsAreSilent}
use Rattle.spf_ast.specs.Lawful.{Names, Scope, IsLawfulStatement}
use Rattle.spf_ast_laws.specs.Agreement.{LookAlike}
use Rattle.spf_ast_laws.specs.Keeping.{IsSelfContained, AreDeclared}
use Rattle.spf_ast_laws.specs.Chained.{is_trap, IsSettledAs}
use Rattle.spf_speculation_entry.specs.Entry.{Entry, IsEntry}
use Rattle.spf_speculation.specs.Steps.{Step, events_of}
use Rattle.spf_speculation.specs.Runs.{IsSpeculativeRun}

-- what the program's forms are performed in
abbrev pub environment_at : Entry → Environment
environment_at e = environment_of e.program e.input

-- The plain run of `main` reached the construct of this statement at this moment; its header was done then, and left
-- this state, which looks like that of the entry.
pub record IsReached (e : Entry) (scope : Scope) (line : ℕ) (s : Statement) (m : Moment) (left entry : State) : Type 0 where
  pub names : Names
  pub is : construct_of line s ≡ Some e.construct
  pub lawful : IsLawfulStatement names true scope s
  pub declared : AreDeclared scope
  pub alone : IsSelfContained scope.visible e.construct
  pub silent : FunctionsAreSilent e.program.functions
  pub header : plainly (header_means (environment_at e) e.construct) m ≡ Value e.header left
  pub alike : LookAlike scope.visible left entry
  pub slots : entry.slots ≡ e.slots
  pub memory : plain_memory (header_means (environment_at e) e.construct m.state) m.memory ≡ e.memory

-- the real rows of the construct in the plain run
abbrev pub reals_at : Entry → Moment → State → RealValues
reals_at e m left =
    blocks_from (environment_at e) e.construct 0 e.header.blocks e.header.low e.header.start (moment_after (header_means (environment_at e) e.construct) m left)

-- the statement, run plainly, puts this result into its carried slots or ends with this trap; the memory after it is
-- the one that the steps leave, where no block traps; and its real rows are these
pub record IsTheStatement (e : Entry) (scope : Scope) (line : ℕ) (s : Statement) (m : Moment) (left entry : State)
    (steps : List Step) (values : List Carried) (result : Result Carried Trap) : Type 0 where
  pub settled : IsSettledAs scope.visible entry (carried_of e.construct) result (plainly (statement_means (environment_at e) line s) m)
  pub memory : (value : Carried) → result ≡ Ok value
      → after (events_of steps) e.memory ≡ plain_memory (statement_means (environment_at e) line s m.state) m.memory
  pub reals : values ≡ (reals_at e m left).values
  pub trapped : is_trap result ≡ (reals_at e m left).trapped

-- every speculative run means its statement
abbrev pub SpeculativeRunsMeanTheirStatement : Type 0
SpeculativeRunsMeanTheirStatement =
    (e : Entry) (guess : ℕ → Carried) (steps : List Step) (values : List Carried) (result : Result Carried Trap)
    (scope : Scope) (line : ℕ) (s : Statement) (m : Moment) (left entry : State)
    → IsEntry e → IsReached e scope line s m left entry → IsSpeculativeRun e guess steps values result
    → IsTheStatement e scope line s m left entry steps values result

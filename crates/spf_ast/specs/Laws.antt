-- Laws about the definitions.
use Rattle.std.specs.Prelude.{◌≡◌, ◌<◌, ◌^◌, ℕ, List, [], length, None, ℤ}
use Rattle.spf_ast.specs.declared.syntax.Part.{Part}
use Rattle.spf_ast.specs.Event.{Event}
use Rattle.spf_ast.specs.Interaction.{Interaction, State, Ending, Ended, perform, no_cell}
use Rattle.spf_ast.specs.Carried.{Carried}
use Rattle.spf_ast.specs.Construct.{Construct, constructs_in, part_means, header_means}
use Rattle.spf_ast.specs.Lawful.{IsLawful}
use Rattle.spf_ast.specs.Silence.{FunctionsAreSilent, PartIsSilent, LeavesOutput}
use Rattle.spf_ast.specs.BlockRun.{Setup, part_asks, IsBlockRun, guess_asks}
use Rattle.spf_ast.specs.Syntax.{Expression, Condition, Block, Function, Program}
use Rattle.spf_ast.specs.Meaning.{Extent, Environment, environment_before, expression_means, condition_means, block_means}
use Rattle.spf_ast.specs.Plain.{plain_events, plain_answer, IsPlainRun, unshared_answer}

-- a tree has exactly one plain run on a memory: its plain events, with its plain answer
pub record HasOnePlainRun {A : Type 0} (tree : Interaction A) (memory : List ℤ) : Type 0 where
  pub is : IsPlainRun tree memory (plain_events tree memory) (plain_answer tree memory)
  pub only : (events : List Event) (answer : A) → IsPlainRun tree memory events answer
      → (events ≡ plain_events tree memory) × (answer ≡ plain_answer tree memory)

-- each expression, in each environment, on each line, from each state and on each memory
abbrev pub ExpressionsHaveOnePlainRun : Type 0
ExpressionsHaveOnePlainRun =
    (g : Environment) (line : ℕ) (e : Expression) (state : State) (memory : List ℤ) → HasOnePlainRun (expression_means g line e state) memory

-- each condition
abbrev pub ConditionsHaveOnePlainRun : Type 0
ConditionsHaveOnePlainRun =
    (g : Environment) (line : ℕ) (c : Condition) (state : State) (memory : List ℤ) → HasOnePlainRun (condition_means g line c state) memory

-- each block, so each statement and each whole `main`
abbrev pub BlocksHaveOnePlainRun : Type 0
BlocksHaveOnePlainRun =
    (g : Environment) (block : Block) (state : State) (memory : List ℤ) → HasOnePlainRun (block_means g block state) memory

-- a part has exactly one block run from a setup, on a memory
pub record HasOneBlockRun (p : Program) (construct : Construct) (part : Part) (s : Setup) (memory : List ℤ) : Type 0 where
  pub is : IsBlockRun p construct part s memory (plain_events (part_asks p construct part s) memory) (plain_answer (part_asks p construct part s) memory)
  pub only : (events : List Event) (answer : Ending Carried) → IsBlockRun p construct part s memory events answer
      → (events ≡ plain_events (part_asks p construct part s) memory) × (answer ≡ plain_answer (part_asks p construct part s) memory)

-- each part, from each setup and on each memory
abbrev pub PartsHaveOneBlockRun : Type 0
PartsHaveOneBlockRun = (p : Program) (construct : Construct) (part : Part) (s : Setup) (memory : List ℤ) → HasOneBlockRun p construct part s memory

-- a tree has exactly one answer with no shared cell and no stop, whatever list of events leads to it, and some list does
pub record HasOneUnsharedAnswer {A : Type 0} (tree : Interaction A) (memory : List ℤ) : Type 0 where
  pub events : List Event
  pub ends : perform no_cell memory None tree events ≡ Ended (unshared_answer tree memory) []
  pub only : (other : List Event) (answer : A) → perform no_cell memory None tree other ≡ Ended answer [] → answer ≡ unshared_answer tree memory

-- the guess of each part of a row, for each block number
abbrev pub GuessesHaveOneAnswer : Type 0
GuessesHaveOneAnswer = (p : Program) (construct : Construct) (index : ℕ) (input : List ℕ) (slots : List ℤ) (number : ℤ) (memory : List ℤ)
    → HasOneUnsharedAnswer (guess_asks p construct index input slots number) memory

-- ---- lawful programs

-- no function of a lawful program holds an `emit`
abbrev pub LawfulFunctionsAreSilent : Type 0
LawfulFunctionsAreSilent = (p : Program) → IsLawful p → FunctionsAreSilent p.functions

-- a lawful program has so few top constructs that 32 bits hold their numbers
abbrev pub LawfulProgramsHaveFewConstructs : Type 0
LawfulProgramsHaveFewConstructs = (p : Program) → IsLawful p → length (constructs_in p.main) < 2 ^ 32

-- ---- forms that hold no `emit`

-- where no function holds an `emit`, each part that holds none leaves the output alone
abbrev pub SilentPartsLeaveTheOutput : Type 0
SilentPartsLeaveTheOutput =
    (input : List ℕ) (extents : List Extent) (functions : List Function) (index : ℕ) → FunctionsAreSilent functions
    → (construct : Construct) (part : Part) → PartIsSilent construct part → (number : ℤ) (carried : Carried)
    → LeavesOutput (part_means (environment_before input extents functions index) construct part number carried)

-- and so does each header
abbrev pub HeadersLeaveTheOutput : Type 0
HeadersLeaveTheOutput =
    (input : List ℕ) (extents : List Extent) (functions : List Function) (index : ℕ) → FunctionsAreSilent functions
    → (construct : Construct) → LeavesOutput (header_means (environment_before input extents functions index) construct)

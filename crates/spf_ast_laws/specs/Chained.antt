-- A construct is its blocks: what it means is what its block runs come to, one after another.
use Rattle.std.specs.Prelude.{◌≡◌, ℕ, zero, suc, Bool, true, false, List, [], ◌∷◌, ◌++◌, Some, Result, Ok, Err, ℤ, pos, ◌+ℤ◌}
use Rattle.spf_ast.specs.declared.outcome.Trap.{Trap}
use Rattle.spf_ast.specs.Carried.{Carried, with_carried}
use Rattle.spf_ast.specs.Interaction.{Interaction, State, Flow, Onward, Ending, Value, Trapped}
use Rattle.spf_ast.specs.Syntax.{Statement, Function}
use Rattle.spf_ast.specs.Meaning.{Environment, Extent, environment_before, statement_means}
use Rattle.spf_ast.specs.Plain.{plain_answer, plain_memory}
use Rattle.spf_ast.specs.Construct.{Construct, construct_of, part_of, part_means, carried_of, Moment, moment_after, plainly, Header, header_means, RealValues, blocks_from}
use Rattle.spf_ast.specs.Silence.{FunctionsAreSilent}
use Rattle.spf_ast.specs.Lawful.{Names, Scope, IsLawfulStatement}
use Rattle.spf_ast_laws.specs.Agreement.{LookAlike}
use Rattle.spf_ast_laws.specs.Keeping.{IsSelfContained, AreDeclared}

-- what block runs came to: the value at which each began, the value after the last one or the trap that ended it, and the memory after them
pub record Chained : Type 0 where
  pub values : List Carried
  pub result : Result Carried Trap
  pub memory : List ℤ

-- a block that began at this value, and the blocks after it where it gave one
abbrev pub chained_on : Carried → Ending Carried → List ℤ → (Carried → Chained) → Chained
chained_on value (Value next state) after others =
    record { values = value ∷ (others next).values; result = (others next).result; memory = (others next).memory }
chained_on value (Trapped trap output) after others = record { values = value ∷ []; result = Err trap; memory = after }

-- what a block run of a construct asks that was entered with these slots, by the block's index, its number and its carried row
abbrev pub block_asks : Environment → Construct → List ℤ → ℕ → ℤ → Carried → Interaction (Ending Carried)
block_asks g construct slots n b v = part_means g construct (part_of construct n) b v (record { slots = slots; output = [] })

-- A count of block runs of a construct from an index on, with block number b, at value v and on memory m. All of them
-- start from the slots of the construct's entry; each begins with the value that the one before it gave, on the memory
-- that it left.
abbrev pub chained : Environment → Construct → List ℤ → ℕ → ℕ → ℤ → Carried → List ℤ → Chained
chained g construct slots n zero b v m = record { values = []; result = Ok v; memory = m }
chained g construct slots n (suc count) b v m =
    chained_on v (plain_answer (block_asks g construct slots n b v) m) (plain_memory (block_asks g construct slots n b v) m)
    (λ next. chained g construct slots (suc n) count (b +ℤ pos 1) next (plain_memory (block_asks g construct slots n b v) m))

-- whether a result is a trap
abbrev pub is_trap : Result Carried Trap → Bool
is_trap (Ok value) = false
is_trap (Err trap) = true

-- a construct ends as its blocks did: its carried slots have their row, and the other visible slots are those of the entry; or it ends with their trap
abbrev pub IsSettledAs : List ℕ → State → List ℕ → Result Carried Trap → Ending Flow → Type 0
IsSettledAs visible entry carried (Ok value) (Value Onward after) =
    LookAlike (carried ++ visible) after (record entry { slots = with_carried carried value entry.slots })
IsSettledAs visible entry carried (Err trap) (Trapped other output) = (other ≡ trap) × (output ≡ entry.output)
IsSettledAs visible entry carried _ _ = ⊥

-- the blocks of a construct whose header is done, run one after another from this entry on the memory that the header left
abbrev pub chained_from : Environment → Construct → Moment → Header → State → Chained
chained_from g construct m header entry =
    chained g construct entry.slots 0 header.blocks header.low header.start (plain_memory (header_means g construct m.state) m.memory)

-- the rows at which the blocks of its plain run begin
abbrev pub real_rows : Environment → Construct → Moment → Header → State → RealValues
real_rows g construct m header after =
    blocks_from g construct 0 header.blocks header.low header.start (moment_after (header_means g construct) m after)

-- the plain meaning of a construct, and its real rows, are what its blocks come to when they are run from this entry
pub record IsItsBlocks (g : Environment) (visible : List ℕ) (line : ℕ) (s : Statement) (construct : Construct)
    (m : Moment) (header : Header) (after entry : State) : Type 0 where
  pub settled : IsSettledAs visible entry (carried_of construct) (chained_from g construct m header entry).result (plainly (statement_means g line s) m)
  pub memory : plain_memory (statement_means g line s m.state) m.memory ≡ (chained_from g construct m header entry).memory
  pub values : (real_rows g construct m header after).values ≡ (chained_from g construct m header entry).values
  pub trapped : (real_rows g construct m header after).trapped ≡ is_trap (chained_from g construct m header entry).result

-- Each lawful construct of `main` whose blocks can be run on their own: where its header is done, its blocks may be
-- run from any slots that agree with those at the entry on the visible ones.
abbrev pub ConstructsAreTheirBlocks : Type 0
ConstructsAreTheirBlocks =
    (names : Names) (scope : Scope) (line : ℕ) (s : Statement) (construct : Construct)
    → construct_of line s ≡ Some construct → IsLawfulStatement names true scope s → AreDeclared scope → IsSelfContained scope.visible construct
    → (input : List ℕ) (extents : List Extent) (functions : List Function) → FunctionsAreSilent functions → (index : ℕ)
    → (m : Moment) (header : Header) (after entry : State)
    → plainly (header_means (environment_before input extents functions index) construct) m ≡ Value header after
    → LookAlike scope.visible after entry
    → IsItsBlocks (environment_before input extents functions index) scope.visible line s construct m header after entry

-- a construct whose header traps ends with that trap
abbrev pub HeadersTrap : Type 0
HeadersTrap =
    (g : Environment) (line : ℕ) (s : Statement) (construct : Construct) → construct_of line s ≡ Some construct
    → (m : Moment) (trap : Trap) (output : List ℕ) → plainly (header_means g construct) m ≡ Trapped trap output
    → (plainly (statement_means g line s) m ≡ Trapped trap output)
    × (plain_memory (statement_means g line s m.state) m.memory ≡ plain_memory (header_means g construct m.state) m.memory)

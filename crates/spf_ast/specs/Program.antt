-- The plain meaning of a whole program, in which predictors don't occur, and of single parts of it.
use Rattle.std.specs.Prelude.{ℕ, ◌+◌, ◌==◌, if◌then◌else◌, List, [], ◌∷◌, length, replicate, ℤ, pos, negsuc, ◌+ℤ◌, ◌*ℤ◌}
use Rattle.spf_ast.specs.declared.outcome.Trap.{Trap}
use Rattle.spf_ast.specs.declared.outcome.Outcome as code
use Rattle.spf_ast.specs.declared.outcome.Outcome.TheVariants as ended
use Rattle.spf_ast.specs.Interaction.{Interaction, State, Ending, Value, Trapped}
use Rattle.spf_ast.specs.Syntax.{Array, Program}
use Rattle.spf_ast.specs.Meaning.{Extent, Environment, environment_before, main_means}
use Rattle.spf_ast.specs.Plain.{plain_answer, plain_memory}

-- ---- arrays

-- a size, which is 0 where the number is below 0
abbrev pub size_or_none : ℤ → ℕ
size_or_none (pos n) = n
size_or_none (negsuc n) = 0

-- the number of an array's elements for an input of this length
abbrev pub size_of : ℕ → Array → ℕ
size_of len a = size_or_none (a.factor *ℤ pos len +ℤ a.offset)

-- the extents of arrays whose cells follow each other from this cell on
abbrev pub extents_from : ℕ → ℕ → List Array → List Extent
extents_from len base [] = []
extents_from len base (a ∷ rest) = (base, size_of len a) ∷ extents_from len (base + size_of len a) rest

-- the extents of all arrays
abbrev pub extents_of : Program → ℕ → List Extent
extents_of p len = extents_from len 0 p.arrays

-- the sum of the sizes of arrays
abbrev pub sizes : ℕ → List Array → ℕ
sizes len [] = 0
sizes len (a ∷ rest) = size_of len a + sizes len rest

-- the number of cells of all arrays
abbrev pub cell_count_of : Program → ℕ → ℕ
cell_count_of p len = sizes len p.arrays

-- how many cells a run may have in a version of the language
abbrev pub max_cells_in : ℕ → ℕ
max_cells_in version = if version == 2 then 16777216 else 4194304

-- no version allows more cells
abbrev pub most_cells : ℕ
most_cells = 16777216

-- how many cells a run of a program may have
abbrev pub max_cells : Program → ℕ
max_cells p = max_cells_in p.version

-- ---- runs of `main`

-- what `main` is performed in: all functions may be called
abbrev pub environment_of : Program → List ℕ → Environment
environment_of p input = environment_before input (extents_of p (length input)) p.functions (length p.functions)

-- the state in which `main` starts: all slots 0, and no output
abbrev pub start_of : Program → State
start_of p = record { slots = replicate (length p.slots) (pos 0); output = [] }

-- the memory in which `main` starts: all cells 0
abbrev pub zeros_of : Program → ℕ → List ℤ
zeros_of p len = replicate (cell_count_of p len) (pos 0)

-- what `main` asks
abbrev pub main_asks : Program → List ℕ → Interaction (Ending (Unit {0}))
main_asks p input = main_means (environment_of p input) p.main (start_of p)

-- how a whole program ends: with the cells of all arrays and the output, or with a trap and the output before it
pub data Outcome : Type 0 where
  Done : List ℤ → List ℕ → Outcome
  Stopped : Trap → List ℕ → Outcome

-- the outcome of an ending with this memory
abbrev pub outcome_from : Ending (Unit {0}) → List ℤ → Outcome
outcome_from (Value a state) memory = Done memory state.output
outcome_from (Trapped trap output) memory = Stopped trap output

-- the outcome of a program on an input
abbrev pub outcome : Program → List ℕ → Outcome
outcome p input =
    outcome_from (plain_answer (main_asks p input) (zeros_of p (length input))) (plain_memory (main_asks p input) (zeros_of p (length input)))

-- what contracts see of the code's outcomes
abbrev pub seen_outcome : code.Outcome → Outcome
seen_outcome (ended.Done cells output) = Done cells.items output.items
seen_outcome (ended.Trapped trap output) = Stopped trap output.items

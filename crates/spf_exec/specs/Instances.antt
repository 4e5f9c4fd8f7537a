-- What clauses say of an instance: its environment, its slots, and the code and the meaning of what it runs.
use Rattle.std.specs.Prelude.{◌≡◌, ℕ, ◌+◌, ◌-◌, ◌≤◌, List, length, take, drop, Option, Some, Result, ℤ}
use Rattle.spf_ast.specs.declared.construct.TopConstruct.{TopConstruct}
use Rattle.spf_ast.specs.declared.outcome.Trap.{Trap}
use Rattle.spf_ast.specs.declared.syntax.Fold as code_fold
use Rattle.spf_ast.specs.declared.syntax.Fold.{out-Fold}
use Rattle.spf_ast.specs.declared.syntax.Pair as code_pair
use Rattle.spf_ast.specs.declared.syntax.Pair.{out-Pair}
use Rattle.spf_ast.specs.declared.syntax.Part.{Part}
use Rattle.spf_ast.specs.declared.syntax.Program as code_program
use Rattle.spf_ast.specs.declared.syntax.Stmt.{Stmt}
use Rattle.spf_ast.specs.BlockRun.{block_setup, part_asks, predicts}
use Rattle.spf_ast.specs.Carried.{Carried}
use Rattle.spf_ast.specs.Construct.{Construct, Header, fold, pair, constructs_in, header_means, part_means}
use Rattle.spf_ast.specs.ConstructView.{construct as seen_construct}
use Rattle.spf_ast.specs.Event.{Event}
use Rattle.spf_ast.specs.Interaction.{Interaction, State, Flow, Ending, Meaning}
use Rattle.spf_ast.specs.Meaning.{Environment, main_means, reads}
use Rattle.spf_ast.specs.Pieces.{rest_from, from_construct, construct_first}
use Rattle.spf_ast.specs.Plain.{plain_memory}
use Rattle.spf_ast.specs.Program.{environment_of, cell_count_of, max_cells}
use Rattle.spf_ast.specs.Slots.{LeavesOtherSlots}
use Rattle.spf_ast.specs.Syntax.{Statement, Block, end, Expression, Arguments, Predictor}
use Rattle.spf_ast.specs.View.{block as seen_block, program as seen_program, fold_head, pair_head}
use Rattle.spf_code.specs.declared.program.ConstructCode.{ConstructCode}
use Rattle.spf_code.specs.declared.program.RowCode.{RowCode}
use Rattle.spf_code.specs.declared.program.ValueCode.{ValueCode}
use Rattle.spf_code.specs.declared.node.Node.{Node}
use Rattle.spf_code.specs.NodeView.{code as seen_code}
use Rattle.spf_code_lowering.specs.Lowering.{IsRowCode, IsExpressionCode, IsGuessCode, AreGuessCodes, IsFoldCode, IsPairCode, IsConstructCode}
use Rattle.spf_code_registers.specs.Registers.{rooms, statement_needs}
use Rattle.spf_exec_instance.specs.Frame.{main_slots}
use Rattle.spf_exec_instance.specs.Instance.{InstanceValue, program_of}
use Rattle.spf_exec_memory.specs.declared.memory.Halt.{Halt}
use Rattle.spf_exec_memory.specs.declared.plain.Plain.{Plain}
use Rattle.spf_exec_memory.specs.Performs.{Performs, state}
use Rattle.spf_exec_memory.specs.PlainMemory.{IsPlainOutcome}
use Rattle.spf_exec.specs.declared.block_run.BlockRun as code_block
use Rattle.spf_exec.specs.declared.pieces.Header as code_header
use Rattle.spf_exec.specs.declared.pieces.Pause.{Pause}
use Rattle.spf_exec.specs.declared.tables.Arity.{Arity}
use Rattle.spf_exec.specs.Pieces.{RunState, run_state, Advanced, IsCutShort, HeaderDone, IsHeaderAnswer, header_result}
use Rattle.spf_exec.specs.Sources.{callees_of, construct_needs, RunsAs, GivesAs, reads_row, wholly}
use Rattle.spf_exec.specs.Tables.{IsAnswer, arguments_at}

-- ---- programs and instances

-- how many cells a program has on an input
abbrev pub cells_for : code_program.Program → List ℕ → ℕ
cells_for program input = cell_count_of (seen_program program) (length input)

-- how many cells a run of a program may have
abbrev pub cell_limit : code_program.Program → ℕ
cell_limit program = max_cells (seen_program program)

-- what forms of an instance's `main` mean something in
abbrev pub environment_in : InstanceValue → Environment
environment_in i = environment_of (program_of i) i.input

-- how many slots `main` has
abbrev pub slot_count : InstanceValue → ℕ
slot_count i = length (program_of i).slots

-- how many registers a call of each function needs
abbrev pub rooms_in : InstanceValue → ℕ → ℕ
rooms_in i = rooms (program_of i)

-- the state that registers show, with this output
abbrev pub shown : InstanceValue → List ℤ → List ℕ → State
shown i registers output = state (main_slots (program_of i) registers) output

-- the statements of `main` from one index up to another one
abbrev pub statements_between : InstanceValue → ℕ → ℕ → Block
statements_between i from to = seen_block (take (to - from) (drop from i.source.main.items))

-- before this statement of `main` stand so many top constructs
abbrev pub HasPassed : InstanceValue → ℕ → ℕ → Type 0
HasPassed i place passed =
    passed + length (constructs_in (rest_from place (program_of i).main)) ≡ length (constructs_in (program_of i).main)

-- ---- constructs

-- a fold on this line as a construct
abbrev pub fold_at : ℕ → code_fold.Fold → Construct
fold_at line f = fold line (fold_head f) (seen_block (out-Fold f).body.items)

-- a pair on this line as a construct
abbrev pub pair_at : ℕ → code_pair.Pair → Construct
pair_at line f = pair line (pair_head f) (seen_block (out-Pair f).producer.items) (seen_block (out-Pair f).consumer.items)

-- a fold as the construct of a block
abbrev pub fold_of : code_block.BlockRun → code_fold.Fold → Construct
fold_of b f = fold_at b.construct.line f

-- a pair as the construct of a block
abbrev pub pair_of : code_block.BlockRun → code_pair.Pair → Construct
pair_of b f = pair_at b.construct.line f

-- the statements from the first top construct on
abbrev pub from_first : List Stmt → Block
from_first statements = from_construct (seen_block statements)

-- this construct is the first of the statements
abbrev pub StandsFirst : Block → TopConstruct → Type 0
StandsFirst statements c = construct_first statements ≡ Some (seen_construct c)

-- ---- code and registers

-- how many registers a statement of `main` needs
abbrev pub statement_room : InstanceValue → Statement → ℕ
statement_room i statement = slot_count i + statement_needs (rooms_in i) statement

-- how many registers a part of a construct needs
abbrev pub construct_room : InstanceValue → Construct → ℕ
construct_room i construct = slot_count i + construct_needs (rooms_in i) construct

-- the code gives the words of a row
abbrev pub RowCodeIn : InstanceValue → ℕ → Arguments → RowCode → Type 0
RowCodeIn i line words k = IsRowCode (callees_of (program_of i)) (rooms_in i) (slot_count i) end line words k

-- the code gives the value of an expression
abbrev pub ExpressionCodeIn : InstanceValue → ℕ → Expression → ValueCode → Type 0
ExpressionCodeIn i line value k = IsExpressionCode (callees_of (program_of i)) (rooms_in i) (slot_count i) line value k

-- the code gives the guess of a predictor
abbrev pub GuessCodeIn : InstanceValue → ℕ → Predictor → ValueCode → Type 0
GuessCodeIn i line predict k = IsGuessCode (callees_of (program_of i)) (rooms_in i) (slot_count i) line predict k

-- each code gives the guess of its predictor
abbrev pub GuessCodesIn : InstanceValue → ℕ → List Predictor → List ValueCode → Type 0
GuessCodesIn i line predict ks = AreGuessCodes (callees_of (program_of i)) (rooms_in i) (slot_count i) line predict ks

-- the code is that of a construct's parts
abbrev pub ConstructCodeIn : InstanceValue → Construct → ConstructCode → Type 0
ConstructCodeIn i construct k = IsConstructCode (callees_of (program_of i)) (rooms_in i) (slot_count i) construct k

-- the code is that of a fold's parts
abbrev pub FoldCodeIn : InstanceValue → ℕ → code_fold.Fold → ConstructCode → Type 0
FoldCodeIn i line f k =
    IsFoldCode (callees_of (program_of i)) (rooms_in i) (slot_count i) line (fold_head f) (seen_block (out-Fold f).body.items) k

-- the code is that of a pair's parts
abbrev pub PairCodeIn : InstanceValue → ℕ → code_pair.Pair → ConstructCode → Type 0
PairCodeIn i line f k =
    IsPairCode (callees_of (program_of i)) (rooms_in i) (slot_count i) line (pair_head f)
    (seen_block (out-Pair f).producer.items) (seen_block (out-Pair f).consumer.items) k

-- each slot of `main` that a part neither declares nor assigns has the same word in both lists of registers
abbrev pub KeepsOtherSlots : InstanceValue → Construct → Part → List ℤ → List ℤ → Type 0
KeepsOtherSlots i construct part before after =
    LeavesOtherSlots construct part (main_slots (program_of i) before) (main_slots (program_of i) after)

-- ---- performances over any memory

-- a form of `main` was performed: what the registers show, and the memory's output, are the states before and after it
abbrev pub PerformsIn : {M A : Type 0} → InstanceValue → (List Event → M → M → Type 0) → (M → Option ℕ) → Type 0 → (M → List ℕ)
    → (Environment → Meaning A) → List ℤ → List ℤ → M → M → Result A Halt → Type 0
PerformsIn i leads stop may_lack output form registers after from to result =
    Performs leads stop may_lack (form (environment_in i) (shown i registers (output from))) from to result (shown i after (output to))

-- whatever form the code does, with at most these registers, was performed as a whole
abbrev pub RunPerforms : {M : Type 0} → InstanceValue → (List Event → M → M → Type 0) → (M → Option ℕ) → Type 0 → (M → List ℕ)
    → List Node → List ℤ → List ℤ → M → M → Result (Unit {0}) Halt → Type 0
RunPerforms i leads stop may_lack output nodes registers after from to result =
    (room : ℕ) (form : Meaning Flow) → RunsAs (program_of i) i.input room (seen_code nodes) form → room ≤ length registers
    → PerformsIn i leads stop may_lack output (λ g. wholly form) registers after from to result

-- whatever form the code gives the value of, with at most these registers, was performed
abbrev pub ValuePerforms : {M : Type 0} → InstanceValue → (List Event → M → M → Type 0) → (M → Option ℕ) → Type 0 → (M → List ℕ)
    → ValueCode → List ℤ → List ℤ → M → M → Result ℤ Halt → Type 0
ValuePerforms i leads stop may_lack output k registers after from to result =
    (room : ℕ) (form : Meaning ℤ) → GivesAs (program_of i) i.input room (seen_code k.nodes.items) (reads k.register) form
    → room ≤ length registers → PerformsIn i leads stop may_lack output (λ g. form) registers after from to result

-- whatever form the code gives the row of, with at most these registers, was performed
abbrev pub RowPerforms : {M : Type 0} → InstanceValue → (List Event → M → M → Type 0) → (M → Option ℕ) → Type 0 → (M → List ℕ)
    → RowCode → List ℤ → List ℤ → M → M → Result Carried Halt → Type 0
RowPerforms i leads stop may_lack output k registers after from to result =
    (room : ℕ) (form : Meaning Carried) → GivesAs (program_of i) i.input room (seen_code k.nodes.items) (reads_row k.register k.width) form
    → room ≤ length registers → PerformsIn i leads stop may_lack output (λ g. form) registers after from to result

-- ---- blocks and guesses

-- what the part of a block means
abbrev pub block_part : code_block.BlockRun → Environment → Meaning Carried
block_part b g = part_means g (seen_construct b.construct) b.part b.number b.value

-- what the part of a block means, of this fold
abbrev pub fold_part : code_block.BlockRun → code_fold.Fold → Environment → Meaning Carried
fold_part b f g = part_means g (fold_of b f) b.part b.number b.value

-- what the part of a block means, of this pair and with this block number
abbrev pub pair_part : code_block.BlockRun → code_pair.Pair → ℤ → Environment → Meaning Carried
pair_part b f number g = part_means g (pair_of b f) b.part number b.value

-- what a block asks of the memory when it is run on these registers, with an empty output
abbrev pub block_asks : InstanceValue → code_block.BlockRun → List ℤ → Interaction (Ending Carried)
block_asks i b registers =
    part_asks (program_of i) (seen_construct b.construct) b.part (block_setup i.input (main_slots (program_of i) registers) b.number b.value)

-- the guess of one part of a construct's row, on these registers and cells
abbrev pub guess_in : InstanceValue → Construct → List ℤ → List ℤ → ℤ → ℕ → Result ℤ Trap
guess_in i construct registers cells number part =
    predicts (program_of i) i.input construct (main_slots (program_of i) registers) cells number part

-- the word is a function's answer for the arguments of an index
abbrev pub AnswerIn : InstanceValue → ℕ → Arity → ℕ → ℤ → Type 0
AnswerIn i f arity index word = IsAnswer (program_of i) i.input f (arguments_at arity index) word

-- ---- plain runs

-- statements of `main` were run from one index up to another one, on a memory of its own
abbrev pub RunsBetween : InstanceValue → ℕ → ℕ → List ℤ → List ℤ → Plain → Plain → Result (Unit {0}) Halt → Type 0
RunsBetween i from to registers after before later result =
    IsPlainOutcome result (main_means (environment_in i) (statements_between i from to) (shown i registers before.output.items))
    before.cells.items later.cells.items (shown i after later.output.items)

-- a run that stood here advanced to this place, and paused so
abbrev pub AdvancedTo : InstanceValue → RunState → List ℤ → Plain → ℕ × Pause → Type 0
AdvancedTo i before frame memory r = Advanced (program_of i) i.input before (run_state frame memory r.0 before.passed) r.1

-- a run that stood here lacked memory before it advanced to a construct
abbrev pub LeftShort : InstanceValue → RunState → List ℤ → Plain → Type 0
LeftShort i before frame memory = IsCutShort (program_of i) i.input before (run_state frame memory before.place before.passed)

-- what the header of a fold asks of the memory
abbrev pub header_asks : InstanceValue → ℕ → code_fold.Fold → List ℤ → Plain → Interaction (Ending Header)
header_asks i line f registers memory = header_means (environment_in i) (fold_at line f) (shown i registers memory.output.items)

-- the cells after the header of a fold
abbrev pub header_cells : InstanceValue → ℕ → code_fold.Fold → List ℤ → Plain → List ℤ
header_cells i line f registers memory = plain_memory (header_asks i line f registers memory) memory.cells.items

-- the header of a fold ended so on a memory of its own, and the slots and the output are as before
abbrev pub HeaderEnds : InstanceValue → ℕ → code_fold.Fold → List ℤ → Plain → Plain → Result code_header.Header Halt → Type 0
HeaderEnds i line f registers before later result =
    IsPlainOutcome (header_result result) (header_asks i line f registers before) before.cells.items later.cells.items
    (shown i registers before.output.items)

-- the header of a fold gives this answer, and the slots and the output are as before
abbrev pub HeaderAnswers : InstanceValue → ℕ → code_fold.Fold → List ℤ → Plain → Result code_header.Header Trap → Type 0
HeaderAnswers i line f registers before result =
    IsHeaderAnswer (header_asks i line f registers before) before.cells.items (shown i registers before.output.items) result

-- wherever a run stands with this frame and memory, the header of a construct was performed there
abbrev pub HeaderDoneAnywhere : InstanceValue → Construct → List ℤ → Plain → List ℤ → Plain → Result code_header.Header Trap → Type 0
HeaderDoneAnywhere i construct frame memory after later result =
    (place passed : ℕ) → HeaderDone (program_of i) i.input construct (run_state frame memory place passed) (run_state after later place passed) result

-- Top constructs: runs of single blocks, and the real values with which the blocks of a plain run begin.
use Rattle.std.specs.Prelude.{ℕ, zero, suc, Bool, true, false, if◌then◌else◌, nat_lt, List, [], ◌∷◌, length, Option, Some, None, ℤ, pos, ◌+ℤ◌, slice_get}
use Rattle.std.specs.Int.{int_gap}
use Rattle.spf_ast.specs.declared.outcome.TrapKind.TheVariants as trap
use Rattle.spf_ast.specs.declared.syntax.Part.{Part}
use Rattle.spf_ast.specs.declared.syntax.Part.TheVariants.{Body, Producer, Consumer, Predictor}
use Rattle.spf_ast.specs.Carried.{Carried, no_row}
use Rattle.spf_ast.specs.Interaction.{Flow, State, Ending, Value, Trapped, Meaning, ◌>>=◌, ◌>>◌}
use Rattle.spf_ast.specs.Syntax.{Program, Statement, Fold, Pair, Block, end, on_line, FoldHead, PairHead, By, Host}
use Rattle.spf_ast.specs.Syntax as syntax
use Rattle.spf_ast.specs.Meaning.{Environment, expression_means, arguments_mean, statement_means, block_means, sets, sets_row, gives, traps, max_blocks}
use Rattle.spf_ast.specs.Plain.{plain_answer, plain_memory}
use Rattle.spf_ast.specs.Program.{environment_of, start_of, zeros_of}

-- a construct with its line: a fold with its body, or a pair with its producer and its consumer
pub data Construct : Type 0 where
  fold : ℕ → FoldHead → Block → Construct
  pair : ℕ → PairHead → Block → Block → Construct

-- the construct that a statement on this line is, where it is one
abbrev pub construct_of : ℕ → Statement → Option Construct
construct_of line (Fold head body) = Some (fold line head body)
construct_of line (Pair head producer consumer) = Some (pair line head producer consumer)
construct_of line _ = None

-- whether a statement is a construct
abbrev pub is_construct : Statement → Bool
is_construct (Fold head body) = true
is_construct (Pair head producer consumer) = true
is_construct _ = false

-- the top constructs of a program: those that are direct statements of `main`, in the order of the text
abbrev pub constructs_in : Block → List Construct
constructs_in end = []
constructs_in (on_line line (Fold head body) rest) = fold line head body ∷ constructs_in rest
constructs_in (on_line line (Pair head producer consumer) rest) = pair line head producer consumer ∷ constructs_in rest
constructs_in (on_line line _ rest) = constructs_in rest

-- the slots of a construct's carried row
abbrev pub carried_of : Construct → List ℕ
carried_of (fold line head body) = head.carried
carried_of (pair line head producer consumer) = head.carried

-- the width of a construct: how many words its rows have
abbrev pub width_of : Construct → ℕ
width_of construct = length (carried_of construct)

-- how the parts of a construct's row are guessed
abbrev pub predictors_of : Construct → List syntax.Predictor
predictors_of (fold line head body) = head.predict
predictors_of (pair line head producer consumer) = head.predict

-- ---- parts

-- the statements of a part; a predictor has none
abbrev pub statements_of : Construct → Part → Block
statements_of (fold line head body) Body = body
statements_of (pair line head producer consumer) Producer = producer
statements_of (pair line head producer consumer) Consumer = consumer
statements_of _ _ = end

-- a predictor's guess of one part of a row; one that is supplied gives none here
abbrev pub guess_means : Environment → ℕ → syntax.Predictor → Meaning ℤ
guess_means g line (By guess) = expression_means g line guess
guess_means g line (Host number) = gives (pos 0)

-- the guesses of a row's parts, in order
abbrev pub guesses_mean : Environment → ℕ → List syntax.Predictor → Meaning Carried
guesses_mean g line [] = gives []
guesses_mean g line (first ∷ rest) = do
  word ← guess_means g line first
  words ← guesses_mean g line rest
  gives (word ∷ words)

-- One performance of a part, given the block number and the carried row: a body gives its next row, a producer what
-- it gives, a consumer its carried row, and a predictor its guesses. A part that the construct doesn't have gives
-- zeros.
abbrev pub part_means : Environment → Construct → Part → ℤ → Carried → Meaning Carried
part_means g (fold line head body) Body number carried = do
  sets head.block number
  sets_row head.carried carried
  block_means g body
  arguments_mean g head.next_line head.next
part_means g (fold line head body) Predictor number carried = do
  sets head.block number
  guesses_mean g line head.predict
part_means g (pair line head producer consumer) Producer number carried = do
  block_means g producer
  arguments_mean g head.give_line head.give
part_means g (pair line head producer consumer) Consumer number carried = do
  sets_row head.carried carried
  block_means g consumer
  gives carried
part_means g (pair line head producer consumer) Predictor number carried = guesses_mean g line head.predict
part_means g construct _ number carried = gives (no_row (width_of construct))

-- the guess of one part of a row alone, given the block number; of a part that isn't there, none
abbrev pub guess_at : Environment → ℕ → Option syntax.Predictor → Meaning ℤ
guess_at g line None = gives (pos 0)
guess_at g line (Some predictor) = guess_means g line predictor

abbrev pub guess_part_means : Environment → Construct → ℕ → ℤ → Meaning ℤ
guess_part_means g (fold line head body) index number = do
  sets head.block number
  guess_at g line (slice_get head.predict index)
guess_part_means g (pair line head producer consumer) index number = guess_at g line (slice_get head.predict index)

-- ---- real values

-- a moment of a plain run: the state and the memory
pub record Moment : Type 0 where
  pub state : State
  pub memory : List ℤ

-- how a form ends that is run plainly from a moment on
abbrev pub plainly : {A : Type 0} → Meaning A → Moment → Ending A
plainly form m = plain_answer (form m.state) m.memory

-- the moment after it, in this state
abbrev pub moment_after : {A : Type 0} → Meaning A → Moment → State → Moment
moment_after form m state = record { state = state; memory = plain_memory (form m.state) m.memory }

-- a header that is done: the first block number, the number of blocks, and the row at which block 0 begins
pub record Header : Type 0 where
  pub low : ℤ
  pub blocks : ℕ
  pub start : Carried

-- the header of a fold with this start and range, where it doesn't have too many blocks
abbrev pub fold_header : ℕ → Carried → ℤ → ℤ → Meaning Header
fold_header line start low high =
    if nat_lt max_blocks (int_gap low high) then traps trap.Blocks line
    else gives (record { low = low; blocks = int_gap low high; start = start })

-- the header of a construct; that of a pair has two blocks, its producer and its consumer
abbrev pub header_means : Environment → Construct → Meaning Header
header_means g (fold line head body) = do
  start ← arguments_mean g line head.start
  low ← expression_means g line head.low
  high ← expression_means g line head.high
  fold_header line start low high
header_means g (pair line head producer consumer) =
    gives (record { low = pos 0; blocks = 2; start = no_row (length head.carried) })

-- the part that a block runs, by its index
abbrev pub part_of : Construct → ℕ → Part
part_of (fold line head body) n = Body
part_of (pair line head producer consumer) zero = Producer
part_of (pair line head producer consumer) (suc n) = Consumer

-- the real values at which performed blocks begin, and whether the last of them trapped
pub record RealValues : Type 0 where
  pub values : List Carried
  pub trapped : Bool

-- a block that began at this value, and the blocks after it where it gave one
abbrev pub begun_at : Carried → Ending Carried → (Carried → State → RealValues) → RealValues
begun_at value (Value next state) others = record { values = value ∷ (others next state).values; trapped = (others next state).trapped }
begun_at value (Trapped trap output) others = record { values = value ∷ []; trapped = true }

-- a count of blocks from an index on, with block number b and at value v
abbrev pub blocks_from : Environment → Construct → ℕ → ℕ → ℤ → Carried → Moment → RealValues
blocks_from g construct index zero b v m = record { values = []; trapped = false }
blocks_from g construct index (suc count) b v m =
    begun_at v (plainly (part_means g construct (part_of construct index) b v) m) (λ next state.
    blocks_from g construct (suc index) count (b +ℤ pos 1) next (moment_after (part_means g construct (part_of construct index) b v) m state))

-- a top construct that a run reached, with its header done: the slots and the memory at its entry, the header, and its performed blocks
pub record Reached : Type 0 where
  pub slots : List ℤ
  pub memory : List ℤ
  pub header : Header
  pub reals : RealValues

-- the construct at this moment, where its header is done
abbrev pub reached : Environment → Construct → Ending Header → Moment → List Reached → List Reached
reached g construct (Trapped trap output) m later = later
reached g construct (Value header state) m later =
    let entry = moment_after (header_means g construct) m state in
    record {
      slots = state.slots;
      memory = entry.memory;
      header = header;
      reals = blocks_from g construct 0 header.blocks header.low header.start entry;
    }
    ∷ later

-- a statement that is a construct is reached; any other isn't
abbrev pub reached_here : Environment → Option Construct → Moment → List Reached → List Reached
reached_here g None m later = later
reached_here g (Some construct) m later = reached g construct (plainly (header_means g construct) m) m later

-- goes on where a statement didn't trap
abbrev pub unless_trapped : Ending Flow → (State → List Reached) → List Reached
unless_trapped (Value flow state) later = later state
unless_trapped (Trapped trap output) later = []

-- the top constructs that a run reaches from this moment on
abbrev pub reached_from : Environment → Block → Moment → List Reached
reached_from g end m = []
reached_from g (on_line line first rest) m =
    reached_here g (construct_of line first) m
    (unless_trapped (plainly (statement_means g line first) m) (λ state.
    reached_from g rest (moment_after (statement_means g line first) m state)))

-- the top constructs that the run of a program on an input reaches, in order, with their real values
abbrev pub reals : Program → List ℕ → List Reached
reals p input =
    reached_from (environment_of p input) p.main (record { state = start_of p; memory = zeros_of p (length input) })

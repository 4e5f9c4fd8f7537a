-- What every form of the language means: what it asks of the memory, and how it ends.
use Rattle.std.specs.Prelude.{
  ℕ,
  zero,
  suc,
  ◌+◌,
  ◌-◌,
  Bool,
  true,
  false,
  not,
  if◌then◌else◌,
  ◌==◌,
  ◌&&◌,
  nat_le,
  nat_lt,
  List,
  [],
  ◌∷◌,
  ◌++◌,
  length,
  replicate,
  Option,
  Some,
  None,
  Result,
  Ok,
  Err,
  ℤ,
  pos,
  negsuc,
  ◌+ℤ◌,
  int_lt,
  int_le,
  slice_index,
  slice_index_or,
  slice_set,
  slice_get,
}
use Rattle.std.specs.Ordering.{int_eq}
use Rattle.std.specs.Int.{int_gap}
use Rattle.spf_ast.specs.declared.outcome.TrapKind.{TrapKind}
use Rattle.spf_ast.specs.declared.outcome.TrapKind.TheVariants as trap
use Rattle.spf_ast.specs.declared.syntax.Test.{Test}
use Rattle.spf_ast.specs.declared.syntax.Test.TheVariants.{Eq, Ne, Lt, Le, Gt, Ge}
use Rattle.spf_ast.specs.Word.{binary_words, sub_words}
use Rattle.spf_ast.specs.Interaction.{Answer, AskLoad, AskStore, AskTurn, bind, Flow, Onward, Broken, Ending, Value, Trapped, Meaning, ◌>>=◌, ◌>>◌, ◌>->◌, unless_ended}
use Rattle.spf_ast.specs.Carried.{Carried, with_carried}
use Rattle.spf_ast.specs.Syntax.{Expression, Number, Local, Len, Input, Load, Call, Neg, Binary, Arguments, no_more, argument}
use Rattle.spf_ast.specs.Syntax.{Condition, Compare, Both, Either, Not, FoldHead}
use Rattle.spf_ast.specs.Syntax.{Statement, Let, Assign, Store, Fill, Emit, Fail, If, For, While, Do, Fold, Pair, Break, Block, end, on_line, Function}

-- ---- the primitives of forms

-- gives this value at once
abbrev pub gives : {A : Type 0} → A → Meaning A
gives a s = Answer (Value a s)

-- does nothing
abbrev pub done : Meaning Flow
done = gives Onward

-- traps at this line
abbrev pub traps : {A : Type 0} → TrapKind → ℕ → Meaning A
traps why at_line s = Answer (Trapped (record { kind = why; line = at_line }) s.output)

-- gives the value, or traps at this line
abbrev pub checked : {A : Type 0} → ℕ → Result A TrapKind → Meaning A
checked line (Ok value) = gives value
checked line (Err why) = traps why line

-- gives the word in a slot
abbrev pub reads : ℕ → Meaning ℤ
reads slot s = Answer (Value (slice_index_or s.slots slot (pos 0)) s)

-- puts a word into a slot
abbrev pub sets : ℕ → ℤ → Meaning Flow
sets slot word s = Answer (Value Onward (record s { slots = slice_set s.slots slot word }))

-- puts the parts of a row into slots
abbrev pub sets_row : List ℕ → Carried → Meaning Flow
sets_row slots row s = Answer (Value Onward (record s { slots = with_carried slots row s.slots }))

-- makes one turn
abbrev pub turns : Meaning (Unit {0})
turns s = AskTurn (Answer (Value tt s))

-- gives the word of a cell
abbrev pub loads : ℕ → Meaning ℤ
loads cell s = AskLoad cell (λ word. Answer (Value word s))

-- stores a word into a cell
abbrev pub stores : ℕ → ℤ → Meaning Flow
stores cell word s = AskStore cell word (Answer (Value Onward s))

-- stores a word into this many cells, in ascending order from the first one
abbrev pub stores_each : ℕ → ℕ → ℤ → Meaning Flow
stores_each first zero word = done
stores_each first (suc count) word = stores first word >> stores_each (suc first) count word

-- how many bytes an output may have
abbrev pub max_output : ℕ
max_output = 67108864

-- adds a byte to the output, where the number is one and the output has room for it
abbrev pub emits : ℕ → ℤ → Meaning Flow
emits line (pos n) s =
    if nat_lt n 256 && nat_lt (length s.output) max_output then Answer (Value Onward (record s { output = s.output ++ n ∷ [] }))
    else traps trap.Emit line s
emits line (negsuc n) s = traps trap.Emit line s

-- the first cell of an array and its number of elements
abbrev pub Extent : Type 0
Extent = ℕ × ℕ

-- the extent of an array; of one that isn't there, none
abbrev pub extent_in : List Extent → ℕ → Extent
extent_in extents array = slice_index_or extents array (0, 0)

-- the cell of an element, where the array has it
abbrev pub cell_of : Extent → ℤ → Result ℕ TrapKind
cell_of extent (pos i) = if nat_lt i extent.1 then Ok (extent.0 + i) else Err trap.Index
cell_of extent (negsuc i) = Err trap.Index

-- a byte of the input, where there is one
abbrev pub byte_of : List ℕ → ℤ → Result ℤ TrapKind
byte_of input (pos i) = if nat_lt i (length input) then Ok (pos (slice_index input i)) else Err trap.Index
byte_of input (negsuc i) = Err trap.Index

-- the first cell and the number of cells of the elements from i up to but excluding j, where they lie in the array
abbrev pub cells_of : Extent → ℤ → ℤ → Result (ℕ × ℕ) TrapKind
cells_of extent (pos i) (pos j) = if nat_le i j && nat_le j extent.1 then Ok (extent.0 + i, j - i) else Err trap.Range
cells_of extent (pos i) (negsuc j) = Err trap.Range
cells_of extent (negsuc i) high = Err trap.Range

-- whether a comparison holds
abbrev pub compares : Test → ℤ → ℤ → Bool
compares Eq a b = int_eq a b
compares Ne a b = not (int_eq a b)
compares Lt a b = int_lt a b
compares Le a b = int_le a b
compares Gt a b = int_lt b a
compares Ge a b = int_le b a

-- a count of turns of a `for` from i upward: each is a turn, sets the slot and performs the body; there are no more
-- where that breaks off
abbrev pub for_turns : ℕ → ℤ → ℕ → Meaning Flow → Meaning Flow
for_turns zero i slot body = done
for_turns (suc count) i slot body = do
  turns
  sets slot i
  body >>= unless_ended (for_turns count (i +ℤ pos 1) slot body)

-- at most this many turns of a `while`; it traps where its condition holds once more, and there are no more where the
-- body breaks off
abbrev pub while_turns : ℕ → ℕ → Meaning Bool → Meaning Flow → Meaning Flow
while_turns line zero test body = test >>= λ holds. if holds then traps trap.Turns line else done
while_turns line (suc most) test body = test >>= λ holds. if holds then (turns >> (body >>= unless_ended (while_turns line most test body))) else done

-- how many blocks a fold may have
abbrev pub max_blocks : ℕ
max_blocks = 4096

-- a count of blocks of a fold from block number b upward: each is a turn, sets its number and the carried row, and
-- gives the next one
abbrev pub fold_blocks : ℕ → ℤ → ℕ → List ℕ → Carried → Meaning Carried → Meaning Carried
fold_blocks zero b block carried value body = gives value
fold_blocks (suc count) b block carried value body = do
  turns
  sets block b
  sets_row carried value
  next ← body
  fold_blocks count (b +ℤ pos 1) block carried next body

-- ---- forms

-- what a form is performed in: the input, the extents of the arrays, which functions may be called with how many arguments, and what a call means
pub record Environment : Type 0 where
  pub input : List ℕ
  pub extents : List Extent
  pub callable : ℕ → ℕ → Bool
  pub call : ℕ → List ℤ → Meaning ℤ

-- how many arguments there are
abbrev pub count_of : Arguments → ℕ
count_of no_more = 0
count_of (argument first rest) = suc (count_of rest)

-- An expression on this line. Operands and arguments are performed from left to right. A call that can't be made, which no lawful program has, gives 0.
abbrev mutual
  pub expression_means : Environment → ℕ → Expression → Meaning ℤ
  expression_means g line (Number n) = gives n
  expression_means g line (Local slot) = reads slot
  expression_means g line Len = gives (pos (length g.input))
  expression_means g line (Input index) = do
    i ← expression_means g line index
    checked line (byte_of g.input i)
  expression_means g line (Load array index) = do
    i ← expression_means g line index
    cell ← checked line (cell_of (extent_in g.extents array) i)
    loads cell
  expression_means g line (Call f given) =
      if g.callable f (count_of given) then arguments_mean g line given >>= g.call f else gives (pos 0)
  expression_means g line (Neg inner) = do
    x ← expression_means g line inner
    checked line (sub_words (pos 0) x)
  expression_means g line (Binary op left right) = do
    x ← expression_means g line left
    y ← expression_means g line right
    checked line (binary_words op x y)

  pub arguments_mean : Environment → ℕ → Arguments → Meaning (List ℤ)
  arguments_mean g line no_more = gives []
  arguments_mean g line (argument first rest) = do
    value ← expression_means g line first
    others ← arguments_mean g line rest
    gives (value ∷ others)

-- a condition on this line; its second part is performed only where the first doesn't decide
abbrev pub condition_means : Environment → ℕ → Condition → Meaning Bool
condition_means g line (Compare test a b) = do
  x ← expression_means g line a
  y ← expression_means g line b
  gives (compares test x y)
condition_means g line (Both c d) = condition_means g line c >>= λ holds. if holds then condition_means g line d else gives false
condition_means g line (Either c d) = condition_means g line c >>= λ holds. if holds then gives true else condition_means g line d
condition_means g line (Not c) = condition_means g line c >>= λ holds. gives (not holds)

-- the blocks of a fold, from its start and over its range of block numbers; none where there are too many
abbrev pub fold_range : ℕ → FoldHead → Carried → ℤ → ℤ → Meaning Carried → Meaning Carried
fold_range line head start low high body =
    if nat_lt max_blocks (int_gap low high) then traps trap.Blocks line
    else fold_blocks (int_gap low high) low head.block head.carried start body

-- a statement on this line, and statements in order
abbrev mutual
  pub statement_means : Environment → ℕ → Statement → Meaning Flow
  statement_means g line (Let slot value) = expression_means g line value >>= sets slot
  statement_means g line (Assign slot value) = expression_means g line value >>= sets slot
  statement_means g line (Store array index value) = do
    i ← expression_means g line index
    word ← expression_means g line value
    cell ← checked line (cell_of (extent_in g.extents array) i)
    stores cell word
  statement_means g line (Fill array low high value) = do
    i ← expression_means g line low
    j ← expression_means g line high
    word ← expression_means g line value
    cells ← checked line (cells_of (extent_in g.extents array) i j)
    stores_each cells.0 cells.1 word
  statement_means g line (Emit value) = expression_means g line value >>= emits line
  statement_means g line (Fail number) = traps (trap.Fail number) line
  statement_means g line (If test first second) =
      condition_means g line test >>= λ holds. if holds then block_means g first else block_means g second
  statement_means g line (For slot low high body) = do
    i ← expression_means g line low
    j ← expression_means g line high
    for_turns (int_gap i j) i slot (block_means g body)
  statement_means g line (While test most body) = while_turns line most (condition_means g line test) (block_means g body)
  statement_means g line (Do f given) = expression_means g line (Call f given) >> done
  statement_means g line (Fold head body) = do
    start ← arguments_mean g line head.start
    low ← expression_means g line head.low
    high ← expression_means g line head.high
    last ← fold_range line head start low high (block_means g body >> arguments_mean g head.next_line head.next)
    sets_row head.carried last
  statement_means g line (Pair head producer consumer) = do
    block_means g producer
    given ← arguments_mean g head.give_line head.give
    sets_row head.carried given
    block_means g consumer
    done
  statement_means g line Break = gives Broken

  pub block_means : Environment → Block → Meaning Flow
  block_means g end = done
  block_means g (on_line line first rest) = statement_means g line first >-> block_means g rest

-- the statements of `main`, one after another; a `break` outside of a loop, which no lawful program has, does nothing there
abbrev pub main_means : Environment → Block → Meaning (Unit {0})
main_means g end = gives tt
main_means g (on_line line first rest) = statement_means g line first >> main_means g rest

-- ---- functions

-- the same ending, with these slots
abbrev pub with_slots : {A : Type 0} → List ℤ → Ending A → Ending A
with_slots slots (Value a s) = Value a (record s { slots = slots })
with_slots slots (Trapped t output) = Trapped t output

-- a form over slots of its own, after which the slots are as they were before
abbrev pub in_own_slots : {A : Type 0} → List ℤ → Meaning A → Meaning A
in_own_slots own inner s =
    bind (inner (record { slots = own; output = s.output })) (λ e. Answer (with_slots s.slots e))

-- the slots of a call: the arguments, and then zeros
abbrev pub own_slots : ℕ → List ℤ → List ℤ
own_slots count given = given ++ replicate (count - length given) (pos 0)

-- a function: its body over slots of its own, and then its answer
abbrev pub function_means : Environment → Option Function → List ℤ → Meaning ℤ
function_means g None given = gives (pos 0)
function_means g (Some f) given =
    in_own_slots (own_slots (length f.slots) given) (block_means g f.body >> expression_means g f.answer_line f.answer)

-- the function has slots for `count` arguments
abbrev pub holds_arguments : Option Function → ℕ → Bool
holds_arguments None count = false
holds_arguments (Some f) count = nat_le count (length f.slots)

-- only functions that stand before this index may be called
abbrev pub callable_before : List Function → ℕ → ℕ → ℕ → Bool
callable_before functions index f count = nat_lt f index && holds_arguments (slice_get functions f) count

-- what calls of the functions before an index mean; each of them calls only functions before its own index
abbrev pub call_before : List ℕ → List Extent → List Function → ℕ → ℕ → List ℤ → Meaning ℤ
call_before input extents functions zero f given = gives (pos 0)
call_before input extents functions (suc index) f given =
    if f == index then
    function_means
    (record { input = input; extents = extents; callable = callable_before functions index; call = call_before input extents functions index })
    (slice_get functions index)
    given
    else call_before input extents functions index f given

-- the environment in which the functions before an index may be called
abbrev pub environment_before : List ℕ → List Extent → List Function → ℕ → Environment
environment_before input extents functions index =
    record { input = input; extents = extents; callable = callable_before functions index; call = call_before input extents functions index }

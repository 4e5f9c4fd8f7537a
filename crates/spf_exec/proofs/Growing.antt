-- Forms of the language only add to the output.
use Rattle.std.proofs.Common.{ℕ, zero, suc, true, false, List, [], ◌∷◌, length, Option, ℤ, pos, ◌+ℤ◌}
use Rattle.std.specs.Prelude.{◌==◌, nat_lt, not, if◌then◌else◌, Some, None, slice_get}
use Rattle.std.specs.Int.{int_gap}
use Rattle.spf_ast.specs.declared.outcome.TrapKind.TheVariants as trap
use Rattle.spf_ast.specs.Carried.{Carried}
use Rattle.spf_ast.specs.Word.{binary_words, sub_words}
use Rattle.spf_ast.specs.Interaction.{Onward, Broken, Meaning}
use Rattle.spf_ast.specs.Syntax.{Expression, Number, Local, Len, Input, Load, Call, Neg, Binary, Arguments, no_more, argument, Program}
use Rattle.spf_ast.specs.Syntax.{Condition, Compare, Both, Either, Not, FoldHead}
use Rattle.spf_ast.specs.Syntax.{Statement, Let, Assign, Store, Fill, Emit, Fail, If, For, While, Do, Fold, Pair, Break, Block, end, on_line, Function}
use Rattle.spf_ast.specs.Meaning.{Extent, gives, traps, extent_in, cell_of, byte_of, cells_of, compares, fold_blocks, fold_range, max_blocks, Environment, count_of, expression_means, arguments_mean, condition_means, statement_means, block_means, main_means, function_means, own_slots, call_before, environment_before}
use Rattle.spf_ast.specs.Construct.{Header}
use Rattle.spf_ast.specs.Program.{environment_of, extents_of}
use Rattle.spf_exec_memory.specs.Growing.{OnlyAdds}
use Rattle.spf_exec_memory.proofs.Growing.{prefix-all, adds-then, adds-on, adds-if, own-adds, gives-adds, traps-add, checked-adds, reads-add, sets-add, sets_row-adds, turns-add, loads-add, stores-add, stores_each-adds, emits-add, for-adds, while-adds}
use Rattle.spf_exec.specs.Sources.{reads_row}

-- a call of a function only adds to the output
record CallsAdd (g : Environment) : Type 0 where
  pub call : (f : ℕ) (given : List ℤ) → OnlyAdds (g.call f given)

mutual
  expression-adds : (g : Environment) → CallsAdd g → (line : ℕ) (e : Expression) → OnlyAdds (expression_means g line e)
  expression-adds g calls line (Number n) = gives-adds n
  expression-adds g calls line (Local slot) = reads-add slot
  expression-adds g calls line Len = gives-adds (pos (length g.input))
  expression-adds g calls line (Input index) = adds-then (expression-adds g calls line index) (λ i. checked-adds line (byte_of g.input i))
  expression-adds g calls line (Load array index) =
      adds-then (expression-adds g calls line index)
      (λ i. adds-then (checked-adds line (cell_of (extent_in g.extents array) i)) (λ cell. loads-add cell))
  expression-adds g calls line (Call f given) =
      adds-if (g.callable f (count_of given)) (adds-then (arguments-add g calls line given) (calls.call f)) (gives-adds (pos 0))
  expression-adds g calls line (Neg inner) = adds-then (expression-adds g calls line inner) (λ x. checked-adds line (sub_words (pos 0) x))
  expression-adds g calls line (Binary op left right) =
      adds-then (expression-adds g calls line left)
      (λ x. adds-then (expression-adds g calls line right) (λ y. checked-adds line (binary_words op x y)))

  arguments-add : (g : Environment) → CallsAdd g → (line : ℕ) (a : Arguments) → OnlyAdds (arguments_mean g line a)
  arguments-add g calls line no_more = gives-adds []
  arguments-add g calls line (argument first rest) =
      adds-then (expression-adds g calls line first) (λ value. adds-then (arguments-add g calls line rest) (λ others. gives-adds (value ∷ others)))

condition-adds : (g : Environment) → CallsAdd g → (line : ℕ) (c : Condition) → OnlyAdds (condition_means g line c)
condition-adds g calls line (Compare test a b) =
    adds-then (expression-adds g calls line a) (λ x. adds-then (expression-adds g calls line b) (λ y. gives-adds (compares test x y)))
condition-adds g calls line (Both c d) =
    adds-then (condition-adds g calls line c) (λ holds. adds-if holds (condition-adds g calls line d) (gives-adds false))
condition-adds g calls line (Either c d) =
    adds-then (condition-adds g calls line c) (λ holds. adds-if holds (gives-adds true) (condition-adds g calls line d))
condition-adds g calls line (Not c) = adds-then (condition-adds g calls line c) (λ holds. gives-adds (not holds))

blocks-add : (count : ℕ) (b : ℤ) (block : ℕ) (carried : List ℕ) (value : Carried) {body : Meaning Carried} → OnlyAdds body → OnlyAdds (fold_blocks count b block carried value body)
blocks-add zero b block carried value n = gives-adds value
blocks-add (suc count) b block carried value n =
    adds-then turns-add
    (λ u. adds-then (sets-add block b)
    (λ v. adds-then (sets_row-adds carried value) (λ w. adds-then n (λ next. blocks-add count (b +ℤ pos 1) block carried next n))))

range-adds : (line : ℕ) (head : FoldHead) (start : Carried) (low high : ℤ) {body : Meaning Carried} → OnlyAdds body → OnlyAdds (fold_range line head start low high body)
range-adds line head start low high n =
    adds-if (nat_lt max_blocks (int_gap low high)) (traps-add trap.Blocks line) (blocks-add (int_gap low high) low head.block head.carried start n)

mutual
  statement-adds : (g : Environment) → CallsAdd g → (line : ℕ) (x : Statement) → OnlyAdds (statement_means g line x)
  statement-adds g calls line (Let slot value) = adds-then (expression-adds g calls line value) (λ w. sets-add slot w)
  statement-adds g calls line (Assign slot value) = adds-then (expression-adds g calls line value) (λ w. sets-add slot w)
  statement-adds g calls line (Store array index value) =
      adds-then (expression-adds g calls line index)
      (λ i. adds-then (expression-adds g calls line value)
      (λ word. adds-then (checked-adds line (cell_of (extent_in g.extents array) i)) (λ cell. stores-add cell word)))
  statement-adds g calls line (Fill array low high value) =
      adds-then (expression-adds g calls line low)
      (λ i. adds-then (expression-adds g calls line high)
      (λ j. adds-then (expression-adds g calls line value)
      (λ word. adds-then (checked-adds line (cells_of (extent_in g.extents array) i j)) (λ cells. stores_each-adds cells.0 cells.1 word))))
  statement-adds g calls line (Emit value) = adds-then (expression-adds g calls line value) (λ w. emits-add line w)
  statement-adds g calls line (Fail number) = traps-add (trap.Fail number) line
  statement-adds g calls line (If test first second) =
      adds-then (condition-adds g calls line test) (λ holds. adds-if holds (block-adds g calls first) (block-adds g calls second))
  statement-adds g calls line (For slot low high body) =
      adds-then (expression-adds g calls line low)
      (λ i. adds-then (expression-adds g calls line high) (λ j. for-adds (int_gap i j) i slot (block-adds g calls body)))
  statement-adds g calls line (While test most body) = while-adds line most (condition-adds g calls line test) (block-adds g calls body)
  statement-adds g calls line (Do f given) = adds-then (expression-adds g calls line (Call f given)) (λ w. gives-adds Onward)
  statement-adds g calls line (Fold head body) =
      adds-then (arguments-add g calls line head.start)
      (λ start. adds-then (expression-adds g calls line head.low)
      (λ low. adds-then (expression-adds g calls line head.high)
      (λ high. adds-then
      (range-adds line head start low high (adds-then (block-adds g calls body) (λ u. arguments-add g calls head.next_line head.next)))
      (λ last. sets_row-adds head.carried last))))
  statement-adds g calls line (Pair head producer consumer) =
      adds-then (block-adds g calls producer)
      (λ u. adds-then (arguments-add g calls head.give_line head.give)
      (λ given. adds-then (sets_row-adds head.carried given)
      (λ v. adds-then (block-adds g calls consumer) (λ w. gives-adds Onward))))
  statement-adds g calls line Break = gives-adds Broken

  block-adds : (g : Environment) → CallsAdd g → (b : Block) → OnlyAdds (block_means g b)
  block-adds g calls end = gives-adds Onward
  block-adds g calls (on_line line first rest) = adds-on (statement-adds g calls line first) (block-adds g calls rest)

-- ---- functions

function-adds : (g : Environment) → CallsAdd g → (f : Option Function) (given : List ℤ) → OnlyAdds (function_means g f given)
function-adds g calls None given = gives-adds (pos 0)
function-adds g calls (Some f) given =
    own-adds (own_slots (length f.slots) given) (adds-then (block-adds g calls f.body) (λ u. expression-adds g calls f.answer_line f.answer))

call-adds : (input : List ℕ) (extents : List Extent) (functions : List Function) (index f : ℕ) (given : List ℤ) → OnlyAdds (call_before input extents functions index f given)
call-adds input extents functions zero f given = gives-adds (pos 0)
call-adds input extents functions (suc index) f given =
    adds-if (f == index)
    (function-adds (environment_before input extents functions index) (record { call = call-adds input extents functions index }) (slice_get functions index) given)
    (call-adds input extents functions index f given)

calls-add : (p : Program) (input : List ℕ) → CallsAdd (environment_of p input)
calls-add p input = record { call = call-adds input (extents_of p (length input)) p.functions (length p.functions) }

-- ---- forms of `main`

statements-add : (g : Environment) → CallsAdd g → (b : Block) → OnlyAdds (main_means g b)
statements-add g calls end = gives-adds tt
statements-add g calls (on_line line first rest) = adds-then (statement-adds g calls line first) (λ u. statements-add g calls rest)

pub main-adds : (p : Program) (input : List ℕ) (b : Block) → OnlyAdds (main_means (environment_of p input) b)
main-adds p input b = statements-add (environment_of p input) (calls-add p input) b

pub value-adds : (p : Program) (input : List ℕ) (line : ℕ) (e : Expression) → OnlyAdds (expression_means (environment_of p input) line e)
value-adds p input line e = expression-adds (environment_of p input) (calls-add p input) line e

pub row-adds : (from width : ℕ) → OnlyAdds (reads_row from width)
row-adds from width = record { adds = λ s. prefix-all s.output }

-- the range of a fold, as its header gives it
pub range_of-adds : (line : ℕ) (low high : ℤ) (start : Carried) → OnlyAdds {A = Header} (if nat_lt max_blocks (int_gap low high) then traps trap.Blocks line else gives (record { low = low; blocks = int_gap low high; start = start }))
range_of-adds line low high start =
    adds-if (nat_lt max_blocks (int_gap low high)) (traps-add trap.Blocks line) (gives-adds (record { low = low; blocks = int_gap low high; start = start }))

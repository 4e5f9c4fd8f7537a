-- A form that holds no `emit` leaves the output alone.
use Rattle.std.proofs.Common.{◌≡◌, ℕ, zero, suc, Bool, true, false, List, [], ◌∷◌, length, ℤ, pos, ◌+ℤ◌, refl, sym, ap, ◌∙◌}
use Rattle.std.specs.Prelude.{Result, Ok, Err, Option, Some, None, ◌==◌, not, nat_lt, if◌then◌else◌, slice_get}
use Rattle.std.specs.Int.{int_gap}
use Rattle.spf_ast.specs.declared.outcome.TrapKind.{TrapKind}
use Rattle.spf_ast.specs.declared.outcome.TrapKind.TheVariants as trap
use Rattle.spf_ast.specs.declared.syntax.Part.{Part}
use Rattle.spf_ast.specs.declared.syntax.Part.TheVariants.{Body, Producer, Consumer, Predictor}
use Rattle.spf_ast.specs.Carried.{Carried, no_row}
use Rattle.spf_ast.specs.Word.{binary_words, sub_words}
use Rattle.spf_ast.specs.Interaction.{Interaction, Answer, AskLoad, AskStore, AskTurn, bind, Flow, Onward, Broken, Ending, Value, Trapped, Meaning, after_ending, ◌>>=◌, ◌>>◌, ◌>->◌, unless_broken, unless_ended}
use Rattle.spf_ast.specs.Syntax.{Expression, Number, Local, Len, Input, Load, Call, Neg, Binary, Arguments, no_more, argument}
use Rattle.spf_ast.specs.Syntax.{Condition, Compare, Both, Either, Not, FoldHead, By, Host}
use Rattle.spf_ast.specs.Syntax as syntax
use Rattle.spf_ast.specs.Syntax.{Statement, Let, Assign, Store, Fill, Emit, Fail, If, For, While, Do, Fold, Pair, Break, Block, end, on_line, Function}
use Rattle.spf_ast.specs.Meaning.{Extent, gives, traps, checked, reads, sets, sets_row, turns, loads, stores, stores_each, extent_in, cell_of, byte_of, cells_of, compares, for_turns, while_turns, fold_blocks, fold_range, max_blocks, Environment, count_of, with_slots, in_own_slots}
use Rattle.spf_ast.specs.Meaning.{expression_means, arguments_mean, condition_means, statement_means, block_means, function_means, own_slots, callable_before, call_before, environment_before}
use Rattle.spf_ast.specs.Construct.{Construct, fold, pair, part_means, guess_means, guesses_mean, header_means}
use Rattle.spf_ast.specs.Silence.{BlockIsSilent, FunctionIsSilent, FunctionsAreSilent, PartIsSilent, with_output, LeavesOutput}
use Rattle.spf_ast.specs.Slots.{statement_emits, emits}
use Rattle.spf_ast_lemmas.proofs.Bools.{neither}

-- ---- trees, one after another

bind-assoc : {A B C : Type 0} (t : Interaction A) (f : A → Interaction B) (h : B → Interaction C) → bind (bind t f) h ≡ bind t (λ a. bind (f a) h)
bind-assoc (Answer a) f h = refl
bind-assoc (AskLoad c k) f h = λ i. AskLoad c (λ w. bind-assoc (k w) f h i)
bind-assoc (AskStore c v t) f h = ap (AskStore c v) (bind-assoc t f h)
bind-assoc (AskTurn t) f h = ap AskTurn (bind-assoc t f h)

bind-same : {A B : Type 0} (t : Interaction A) (f h : A → Interaction B) → ((a : A) → f a ≡ h a) → bind t f ≡ bind t h
bind-same t f h e = λ i. bind t (λ a. e a i)

-- the output, put into each ending
abbrev put : {A : Type 0} → List ℕ → Ending A → Interaction (Ending A)
put output e = Answer (with_output output e)

-- the last output that is put in stands
put-put : {A : Type 0} (one other : List ℕ) (e : Ending A) → bind (put one e) (put other) ≡ put other e
put-put one other (Value a s) = refl
put-put one other (Trapped t o) = refl

-- from any state, a form that leaves the output alone
from-any : {A : Type 0} {form : Meaning A} → LeavesOutput form → (slots : List ℤ) (one other : List ℕ) → form (record { slots = slots; output = other }) ≡ bind (form (record { slots = slots; output = one })) (put other)
from-any {form = form} l slots one other =
    l.same slots other
    ∙ sym (ap (λ t. bind t (put other)) (l.same slots one) ∙ bind-assoc (form (record { slots = slots; output = [] })) (put one) (put other)
    ∙ bind-same (form (record { slots = slots; output = [] })) _ _ (put-put one other))

-- ---- what forms are made of

-- one form after another
pub leaves-then : {A B : Type 0} {first : Meaning A} {next : A → Meaning B} → LeavesOutput first → ((a : A) → LeavesOutput (next a)) → LeavesOutput (first >>= next)
leaves-then {A} {B} {first} {next} f n = record {
  same = λ slots output.
      ap (λ t. bind t (after_ending next)) (f.same slots output)
      ∙ bind-assoc (first (record { slots = slots; output = [] })) (put output) (after_ending next)
      ∙ bind-same (first (record { slots = slots; output = [] })) _ _ (step output)
      ∙ sym (bind-assoc (first (record { slots = slots; output = [] })) (after_ending next) (put output));
}
  where
    step : (output : List ℕ) (e : Ending A) → bind (put output e) (after_ending next) ≡ bind (after_ending next e) (put output)
    step output (Value a s) = from-any (n a) s.slots s.output output
    step output (Trapped t o) = refl

-- either of two forms
pub leaves-if : {A : Type 0} (b : Bool) {first second : Meaning A} → LeavesOutput first → LeavesOutput second → LeavesOutput (if b then first else second)
leaves-if true f g = f
leaves-if false f g = g

gives-leaves : {A : Type 0} (a : A) → LeavesOutput (gives a)
gives-leaves a = record { same = λ slots output. refl }

-- a statement, and then others
leaves-on : {first next : Meaning Flow} → LeavesOutput first → LeavesOutput next → LeavesOutput (first >-> next)
leaves-on {first} {next} f n = leaves-then f go
  where
    go : (flow : Flow) → LeavesOutput (unless_broken next flow)
    go Onward = n
    go Broken = gives-leaves Broken

-- the body of a loop, and then its other turns
leaves-turn : {body others : Meaning Flow} → LeavesOutput body → LeavesOutput others → LeavesOutput (body >>= unless_ended others)
leaves-turn {body} {others} b n = leaves-then b go
  where
    go : (flow : Flow) → LeavesOutput (unless_ended others flow)
    go Onward = n
    go Broken = gives-leaves Onward

traps-leaves : {A : Type 0} (why : TrapKind) (line : ℕ) → LeavesOutput {A = A} (traps why line)
traps-leaves why line = record { same = λ slots output. refl }

checked-leaves : {A : Type 0} (line : ℕ) (r : Result A TrapKind) → LeavesOutput (checked line r)
checked-leaves line (Ok a) = gives-leaves a
checked-leaves line (Err why) = traps-leaves why line

reads-leaves : (slot : ℕ) → LeavesOutput (reads slot)
reads-leaves slot = record { same = λ slots output. refl }

sets-leaves : (slot : ℕ) (word : ℤ) → LeavesOutput (sets slot word)
sets-leaves slot word = record { same = λ slots output. refl }

sets_row-leaves : (slots : List ℕ) (row : Carried) → LeavesOutput (sets_row slots row)
sets_row-leaves slots row = record { same = λ s output. refl }

turns-leaves : LeavesOutput turns
turns-leaves = record { same = λ slots output. refl }

loads-leaves : (cell : ℕ) → LeavesOutput (loads cell)
loads-leaves cell = record { same = λ slots output. refl }

stores-leaves : (cell : ℕ) (word : ℤ) → LeavesOutput (stores cell word)
stores-leaves cell word = record { same = λ slots output. refl }

stores_each-leaves : (first count : ℕ) (word : ℤ) → LeavesOutput (stores_each first count word)
stores_each-leaves first zero word = gives-leaves Onward
stores_each-leaves first (suc count) word = leaves-then (stores-leaves first word) (λ u. stores_each-leaves (suc first) count word)

-- a form over slots of its own
pub own-leaves : {A : Type 0} (own : List ℤ) (form : Meaning A) → LeavesOutput form → LeavesOutput (in_own_slots own form)
own-leaves {A} own form f = record {
  same = λ slots output.
      ap (λ t. bind t (λ e. Answer (with_slots slots e))) (f.same own output)
      ∙ bind-assoc (form (record { slots = own; output = [] })) (put output) (λ e. Answer (with_slots slots e))
      ∙ bind-same (form (record { slots = own; output = [] })) _ _ (step slots output)
      ∙ sym (bind-assoc (form (record { slots = own; output = [] })) (λ e. Answer (with_slots slots e)) (put output));
}
  where
    step : (slots : List ℤ) (output : List ℕ) (e : Ending A) → bind (put output e) (λ d. Answer (with_slots slots d)) ≡ bind (Answer (with_slots slots e)) (put output)
    step slots output (Value a s) = refl
    step slots output (Trapped t o) = refl

-- ---- calls

-- calls leave the output alone
pub record CallsLeave (g : Environment) : Type 0 where
  pub call : (f : ℕ) (given : List ℤ) → LeavesOutput (g.call f given)

-- ---- expressions and conditions

mutual
  pub expression-leaves : (g : Environment) → CallsLeave g → (line : ℕ) (e : Expression) → LeavesOutput (expression_means g line e)
  expression-leaves g calls line (Number n) = gives-leaves n
  expression-leaves g calls line (Local slot) = reads-leaves slot
  expression-leaves g calls line Len = gives-leaves (pos (length g.input))
  expression-leaves g calls line (Input index) = leaves-then (expression-leaves g calls line index) (λ i. checked-leaves line (byte_of g.input i))
  expression-leaves g calls line (Load array index) =
      leaves-then (expression-leaves g calls line index)
      (λ i. leaves-then (checked-leaves line (cell_of (extent_in g.extents array) i)) (λ cell. loads-leaves cell))
  expression-leaves g calls line (Call f given) =
      leaves-if (g.callable f (count_of given))
      (leaves-then (arguments-leave g calls line given) (λ words. calls.call f words))
      (gives-leaves (pos 0))
  expression-leaves g calls line (Neg inner) = leaves-then (expression-leaves g calls line inner) (λ x. checked-leaves line (sub_words (pos 0) x))
  expression-leaves g calls line (Binary op left right) =
      leaves-then (expression-leaves g calls line left)
      (λ x. leaves-then (expression-leaves g calls line right) (λ y. checked-leaves line (binary_words op x y)))

  pub arguments-leave : (g : Environment) → CallsLeave g → (line : ℕ) (given : Arguments) → LeavesOutput (arguments_mean g line given)
  arguments-leave g calls line no_more = gives-leaves []
  arguments-leave g calls line (argument first rest) =
      leaves-then (expression-leaves g calls line first)
      (λ value. leaves-then (arguments-leave g calls line rest) (λ others. gives-leaves (value ∷ others)))

pub condition-leaves : (g : Environment) → CallsLeave g → (line : ℕ) (c : Condition) → LeavesOutput (condition_means g line c)
condition-leaves g calls line (Compare test a b) =
    leaves-then (expression-leaves g calls line a) (λ x. leaves-then (expression-leaves g calls line b) (λ y. gives-leaves (compares test x y)))
condition-leaves g calls line (Both c d) =
    leaves-then (condition-leaves g calls line c) (λ holds. leaves-if holds (condition-leaves g calls line d) (gives-leaves false))
condition-leaves g calls line (Either c d) =
    leaves-then (condition-leaves g calls line c) (λ holds. leaves-if holds (gives-leaves true) (condition-leaves g calls line d))
condition-leaves g calls line (Not c) = leaves-then (condition-leaves g calls line c) (λ holds. gives-leaves (not holds))

-- ---- loops

for-leaves : (count : ℕ) (i : ℤ) (slot : ℕ) (body : Meaning Flow) → LeavesOutput body → LeavesOutput (for_turns count i slot body)
for-leaves zero i slot body b = gives-leaves Onward
for-leaves (suc count) i slot body b =
    leaves-then turns-leaves (λ u. leaves-then (sets-leaves slot i) (λ v. leaves-turn b (for-leaves count (i +ℤ pos 1) slot body b)))

while-leaves : (line most : ℕ) (test : Meaning Bool) (body : Meaning Flow) → LeavesOutput test → LeavesOutput body → LeavesOutput (while_turns line most test body)
while-leaves line zero test body t b = leaves-then t (λ holds. leaves-if holds (traps-leaves trap.Turns line) (gives-leaves Onward))
while-leaves line (suc most) test body t b =
    leaves-then t (λ holds. leaves-if holds (leaves-then turns-leaves (λ u. leaves-turn b (while-leaves line most test body t b))) (gives-leaves Onward))

blocks-leave : (count : ℕ) (b : ℤ) (block : ℕ) (carried : List ℕ) (value : Carried) (body : Meaning Carried) → LeavesOutput body → LeavesOutput (fold_blocks count b block carried value body)
blocks-leave zero b block carried value body s = gives-leaves value
blocks-leave (suc count) b block carried value body s =
    leaves-then turns-leaves
    (λ u. leaves-then (sets-leaves block b)
    (λ v. leaves-then (sets_row-leaves carried value)
    (λ w. leaves-then s
    (λ next. blocks-leave count (b +ℤ pos 1) block carried next body s))))

range-leaves : (line : ℕ) (head : FoldHead) (start : Carried) (low high : ℤ) (body : Meaning Carried) → LeavesOutput body → LeavesOutput (fold_range line head start low high body)
range-leaves line head start low high body s =
    leaves-if (nat_lt max_blocks (int_gap low high)) (traps-leaves trap.Blocks line)
    (blocks-leave (int_gap low high) low head.block head.carried start body s)

-- ---- statements and blocks

mutual
  pub statement-leaves : (g : Environment) → CallsLeave g → (line : ℕ) (s : Statement) → statement_emits s ≡ false → LeavesOutput (statement_means g line s)
  statement-leaves g calls line (Let slot value) l = leaves-then (expression-leaves g calls line value) (λ word. sets-leaves slot word)
  statement-leaves g calls line (Assign slot value) l = leaves-then (expression-leaves g calls line value) (λ word. sets-leaves slot word)
  statement-leaves g calls line (Store array index value) l =
      leaves-then (expression-leaves g calls line index)
      (λ i. leaves-then (expression-leaves g calls line value)
      (λ word. leaves-then (checked-leaves line (cell_of (extent_in g.extents array) i))
      (λ cell. stores-leaves cell word)))
  statement-leaves g calls line (Fill array low high value) l =
      leaves-then (expression-leaves g calls line low)
      (λ i. leaves-then (expression-leaves g calls line high)
      (λ j. leaves-then (expression-leaves g calls line value)
      (λ word. leaves-then (checked-leaves line (cells_of (extent_in g.extents array) i j))
      (λ cells. stores_each-leaves cells.0 cells.1 word))))
  statement-leaves g calls line (Emit value) l = absurd (cc)
  statement-leaves g calls line (Fail number) l = traps-leaves (trap.Fail number) line
  statement-leaves g calls line (If test a b) l =
      leaves-then (condition-leaves g calls line test)
      (λ holds. leaves-if holds (block-leaves g calls a (neither (emits a) (emits b) l).0) (block-leaves g calls b (neither (emits a) (emits b) l).1))
  statement-leaves g calls line (For slot low high body) l =
      leaves-then (expression-leaves g calls line low)
      (λ i. leaves-then (expression-leaves g calls line high)
      (λ j. for-leaves (int_gap i j) i slot (block_means g body) (block-leaves g calls body l)))
  statement-leaves g calls line (While test most body) l =
      while-leaves line most (condition_means g line test) (block_means g body) (condition-leaves g calls line test) (block-leaves g calls body l)
  statement-leaves g calls line (Do f given) l = leaves-then (expression-leaves g calls line (Call f given)) (λ word. gives-leaves Onward)
  statement-leaves g calls line (Fold head body) l =
      leaves-then (arguments-leave g calls line head.start)
      (λ start. leaves-then (expression-leaves g calls line head.low)
      (λ low. leaves-then (expression-leaves g calls line head.high)
      (λ high. leaves-then
      (range-leaves line head start low high (block_means g body >> arguments_mean g head.next_line head.next)
      (leaves-then (block-leaves g calls body l) (λ u. arguments-leave g calls head.next_line head.next)))
      (λ last. sets_row-leaves head.carried last))))
  statement-leaves g calls line (Pair head producer consumer) l =
      leaves-then (block-leaves g calls producer (neither (emits producer) (emits consumer) l).0)
      (λ u. leaves-then (arguments-leave g calls head.give_line head.give)
      (λ given. leaves-then (sets_row-leaves head.carried given)
      (λ v. leaves-then (block-leaves g calls consumer (neither (emits producer) (emits consumer) l).1) (λ w. gives-leaves Onward))))
  statement-leaves g calls line Break l = gives-leaves Broken

  pub block-leaves : (g : Environment) → CallsLeave g → (block : Block) → BlockIsSilent block → LeavesOutput (block_means g block)
  block-leaves g calls end l = gives-leaves Onward
  block-leaves g calls (on_line line first rest) l =
      leaves-on (statement-leaves g calls line first (neither (statement_emits first) (emits rest) l).0)
      (block-leaves g calls rest (neither (statement_emits first) (emits rest) l).1)

-- ---- functions

function-leaves : (g : Environment) → CallsLeave g → (f : Option Function) → FunctionIsSilent f → (given : List ℤ) → LeavesOutput (function_means g f given)
function-leaves g calls None l given = gives-leaves (pos 0)
function-leaves g calls (Some f) l given =
    own-leaves (own_slots (length f.slots) given) (block_means g f.body >> expression_means g f.answer_line f.answer)
    (leaves-then (block-leaves g calls f.body l) (λ u. expression-leaves g calls f.answer_line f.answer))

call-leaves : (input : List ℕ) (extents : List Extent) (functions : List Function) → FunctionsAreSilent functions → (index f : ℕ) (given : List ℤ) → LeavesOutput (call_before input extents functions index f given)
call-leaves input extents functions l zero f given = gives-leaves (pos 0)
call-leaves input extents functions l (suc index) f given =
    leaves-if (f == index)
    (function-leaves
    (record { input = input; extents = extents; callable = callable_before functions index; call = call_before input extents functions index })
    (record { call = call-leaves input extents functions l index })
    (slice_get functions index) (l index) given)
    (call-leaves input extents functions l index f given)

-- calls leave the output alone where no function holds an `emit`
pub calls-leave : (input : List ℕ) (extents : List Extent) (functions : List Function) → FunctionsAreSilent functions → (index : ℕ) → CallsLeave (environment_before input extents functions index)
calls-leave input extents functions l index = record { call = call-leaves input extents functions l index }

-- ---- parts of constructs

guess-leaves : (g : Environment) → CallsLeave g → (line : ℕ) (p : syntax.Predictor) → LeavesOutput (guess_means g line p)
guess-leaves g calls line (By guess) = expression-leaves g calls line guess
guess-leaves g calls line (Host number) = gives-leaves (pos 0)

guesses-leave : (g : Environment) → CallsLeave g → (line : ℕ) (ps : List syntax.Predictor) → LeavesOutput (guesses_mean g line ps)
guesses-leave g calls line [] = gives-leaves []
guesses-leave g calls line (first ∷ rest) =
    leaves-then (guess-leaves g calls line first)
    (λ word. leaves-then (guesses-leave g calls line rest) (λ words. gives-leaves (word ∷ words)))

pub part-leaves : (g : Environment) → CallsLeave g → (c : Construct) (part : Part) → PartIsSilent c part → (number : ℤ) (carried : Carried) → LeavesOutput (part_means g c part number carried)
part-leaves g calls (fold line head body) Body l number carried =
    leaves-then (sets-leaves head.block number)
    (λ u. leaves-then (sets_row-leaves head.carried carried)
    (λ v. leaves-then (block-leaves g calls body l)
    (λ w. arguments-leave g calls head.next_line head.next)))
part-leaves g calls (fold line head body) Predictor l number carried =
    leaves-then (sets-leaves head.block number) (λ u. guesses-leave g calls line head.predict)
part-leaves g calls (fold line head body) Producer l number carried = gives-leaves (no_row (length head.carried))
part-leaves g calls (fold line head body) Consumer l number carried = gives-leaves (no_row (length head.carried))
part-leaves g calls (pair line head producer consumer) Producer l number carried =
    leaves-then (block-leaves g calls producer l) (λ u. arguments-leave g calls head.give_line head.give)
part-leaves g calls (pair line head producer consumer) Consumer l number carried =
    leaves-then (sets_row-leaves head.carried carried)
    (λ u. leaves-then (block-leaves g calls consumer l) (λ v. gives-leaves carried))
part-leaves g calls (pair line head producer consumer) Predictor l number carried = guesses-leave g calls line head.predict
part-leaves g calls (pair line head producer consumer) Body l number carried = gives-leaves (no_row (length head.carried))

-- a header
pub header-leaves : (g : Environment) → CallsLeave g → (c : Construct) → LeavesOutput (header_means g c)
header-leaves g calls (fold line head body) =
    leaves-then (arguments-leave g calls line head.start)
    (λ start. leaves-then (expression-leaves g calls line head.low)
    (λ low. leaves-then (expression-leaves g calls line head.high)
    (λ high. leaves-if (nat_lt max_blocks (int_gap low high)) (traps-leaves trap.Blocks line) (gives-leaves (record { low = low; blocks = int_gap low high; start = start })))))
header-leaves g calls (pair line head producer consumer) = gives-leaves (record { low = pos 0; blocks = 2; start = no_row (length head.carried) })

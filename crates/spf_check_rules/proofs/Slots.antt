-- A slot that a form neither assigns nor declares is as before on every way along the form.
use Rattle.std.proofs.Common.{◌≡◌, ◌≢◌, inl, ℕ, zero, suc, Bool, true, false, List, [], ◌∷◌, ◌++◌, drop, length, ℤ, pos, negsuc, ◌+ℤ◌, refl, ap, ◌∙◌, subst, arith}
use Rattle.std.specs.Prelude.{Result, Ok, Err, Option, Some, None, ◌==◌, ◌&&◌, not, nat_lt, if◌then◌else◌, slice_get, slice_set, slice_index_or}
use Rattle.std.specs.Int.{int_gap}
use Rattle.std.proofs.lemmas.List.{get_or-set_other}
use Rattle.spf_ast.specs.declared.outcome.TrapKind.{TrapKind}
use Rattle.spf_ast.specs.declared.outcome.TrapKind.TheVariants as trap
use Rattle.spf_ast.specs.declared.syntax.Part.{Part}
use Rattle.spf_ast.specs.declared.syntax.Part.TheVariants.{Body, Producer, Consumer, Predictor}
use Rattle.spf_ast.specs.Word.{binary_words, sub_words}
use Rattle.spf_ast.specs.Interaction.{Interaction, Answer, AskLoad, AskStore, AskTurn, bind, State, Flow, Onward, Broken, Ending, Value, Trapped, Meaning, after_ending, ◌>>=◌, ◌>>◌, unless_broken, unless_ended}
use Rattle.spf_ast.specs.Syntax.{Expression, Number, Local, Len, Input, Load, Call, Neg, Binary, Arguments, no_more, argument}
use Rattle.spf_ast.specs.Syntax.{Condition, Compare, Both, Either, Not, FoldHead, By, Host}
use Rattle.spf_ast.specs.Syntax as syntax
use Rattle.spf_ast.specs.Carried.{Carried, no_row, with_carried}
use Rattle.spf_ast.specs.Syntax.{Statement, Let, Assign, Store, Fill, Emit, Fail, If, For, While, Do, Fold, Pair, Break, Block, end, on_line, Function}
use Rattle.spf_ast.specs.Meaning.{Extent, gives, traps, checked, reads, sets, sets_row, turns, loads, stores, stores_each, emits, max_output, extent_in, cell_of, byte_of, cells_of, compares, for_turns, while_turns, fold_blocks, fold_range, max_blocks, Environment, count_of, with_slots, in_own_slots}
use Rattle.spf_ast.specs.Meaning.{expression_means, arguments_mean, condition_means, statement_means, block_means, function_means, own_slots, callable_before, call_before, environment_before}
use Rattle.spf_ast.specs.Construct.{Construct, fold, pair, part_means, guess_means, guesses_mean}
use Rattle.spf_ast.specs.Slots.{assigns, statement_assigns, is_among, declares, statement_declares, assigns_outer, part_declares}
use Rattle.spf_ast.specs.Construct.{statements_of}
use Rattle.spf_effects_laws.specs.Ways.{Keeps}
use Rattle.spf_ast_lemmas.proofs.Bools.{neither}

-- ---- trees

abbrev pub Anything : ℕ → Type 0
Anything cell = Unit {0}

abbrev pub Ends : {A : Type 0} → A → List ℕ → Type 0
Ends a d = Unit {0}

-- every tree does something
pub any-ways : {A : Type 0} (t : Interaction A) (d : List ℕ) → Keeps Anything Anything Ends d t
any-ways (Answer a) d = tt
any-ways (AskLoad c k) d = (inl tt, λ w. any-ways (k w) d)
any-ways (AskStore c v t) d = (tt, any-ways t (c ∷ d))
any-ways (AskTurn t) d = any-ways t d

pub ways-bind : {A B : Type 0} (mid : A → List ℕ → Type 0) (ends : B → List ℕ → Type 0) (t : Interaction A) (next : A → Interaction B) (d : List ℕ) → Keeps Anything Anything mid d t → ((a : A) (e : List ℕ) → mid a e → Keeps Anything Anything ends e (next a)) → Keeps Anything Anything ends d (bind t next)
ways-bind mid ends (Answer a) next d h f = f a d h
ways-bind mid ends (AskLoad c k) next d h f = (h.0, λ w. ways-bind mid ends (k w) next d (h.1 w) f)
ways-bind mid ends (AskStore c v t) next d h f = (tt, ways-bind mid ends t next (c ∷ d) h.1 f)
ways-bind mid ends (AskTurn t) next d h f = ways-bind mid ends t next d h f

-- at an end with a value the slot has this word
abbrev pub HasWord : {A : Type 0} → ℕ → ℤ → Ending A → List ℕ → Type 0
HasWord kept word (Value a s) d = slice_index_or s.slots kept (pos 0) ≡ word
HasWord kept word (Trapped t output) d = Unit {0}

-- the form leaves the slot as it was
pub record KeepsSlot {A : Type 0} (kept : ℕ) (form : Meaning A) : Type 0 where
  pub ways : (s : State) (d : List ℕ) → Keeps Anything Anything (HasWord kept (slice_index_or s.slots kept (pos 0))) d (form s)

-- ---- what forms are made of

keeps-then : {kept : ℕ} {A B : Type 0} {first : Meaning A} {next : A → Meaning B} → KeepsSlot kept first → ((a : A) → KeepsSlot kept (next a)) → KeepsSlot kept (first >>= next)
keeps-then {kept} {A} {B} {first} {next} f n = record {
  ways = λ s d. ways-bind (HasWord kept (slice_index_or s.slots kept (pos 0))) (HasWord kept (slice_index_or s.slots kept (pos 0))) (first s) (after_ending next) d (f.ways s d) (step (slice_index_or s.slots kept (pos 0)));
}
  where
    step : (word : ℤ) (e : Ending A) (d : List ℕ) → HasWord kept word e d → Keeps Anything Anything (HasWord kept word) d (after_ending next e)
    step word (Value a s) d h = subst (λ w. Keeps Anything Anything (HasWord kept w) d (next a s)) h ((n a).ways s d)
    step word (Trapped t o) d h = tt

keeps-if : {kept : ℕ} {A : Type 0} (b : Bool) {first second : Meaning A} → KeepsSlot kept first → KeepsSlot kept second → KeepsSlot kept (if b then first else second)
keeps-if true f g = f
keeps-if false f g = g

-- a form over slots of its own
own-keeps : {kept : ℕ} {A : Type 0} (own : List ℤ) (form : Meaning A) → KeepsSlot kept (in_own_slots own form)
own-keeps {kept} own form = record {
  ways = λ s d. ways-bind Ends (HasWord kept (slice_index_or s.slots kept (pos 0))) (form (record { slots = own; output = s.output })) (λ e. Answer (with_slots s.slots e)) d (any-ways (form (record { slots = own; output = s.output })) d) (λ e d' h. put s.slots e d');
}
  where
    put : {A : Type 0} (slots : List ℤ) (e : Ending A) (d : List ℕ) → HasWord kept (slice_index_or slots kept (pos 0)) (with_slots slots e) d
    put slots (Value a s) d = refl
    put slots (Trapped t o) d = tt

gives-keeps : {kept : ℕ} {A : Type 0} (a : A) → KeepsSlot kept (gives a)
gives-keeps a = record { ways = λ s d. refl }

traps-keeps : {kept : ℕ} {A : Type 0} (why : TrapKind) (line : ℕ) → KeepsSlot {A = A} kept (traps why line)
traps-keeps why line = record { ways = λ s d. tt }

checked-keeps : {kept : ℕ} {A : Type 0} (line : ℕ) (r : Result A TrapKind) → KeepsSlot kept (checked line r)
checked-keeps line (Ok a) = gives-keeps a
checked-keeps line (Err why) = traps-keeps why line

reads-keeps : {kept : ℕ} (slot : ℕ) → KeepsSlot kept (reads slot)
reads-keeps slot = record { ways = λ s d. refl }

sets-keeps : {kept : ℕ} (slot : ℕ) (word : ℤ) → kept ≢ slot → KeepsSlot kept (sets slot word)
sets-keeps {kept} slot word other = record { ways = λ s d. get_or-set_other s.slots slot kept word (pos 0) other }

other-slot : (kept slot : ℕ) → (kept == slot) ≡ false → kept ≢ slot
other-slot kept slot e = grind (arith, e)

row-other : (kept : ℕ) (carried : List ℕ) (row : Carried) (slots : List ℤ) → is_among kept carried ≡ false → slice_index_or (with_carried carried row slots) kept (pos 0) ≡ slice_index_or slots kept (pos 0)
row-other kept [] row slots e = refl
row-other kept (slot ∷ others) row slots e =
    let word = slice_index_or row 0 (pos 0) in
    let p = neither (kept == slot) (is_among kept others) e in
    row-other kept others (drop 1 row) (slice_set slots slot word) p.1 ∙ get_or-set_other slots slot kept word (pos 0) (other-slot kept slot p.0)

sets_row-keeps : {kept : ℕ} (carried : List ℕ) (row : Carried) → is_among kept carried ≡ false → KeepsSlot kept (sets_row carried row)
sets_row-keeps {kept} carried row other = record { ways = λ s d. row-other kept carried row s.slots other }

turns-keeps : {kept : ℕ} → KeepsSlot kept turns
turns-keeps = record { ways = λ s d. refl }

loads-keeps : {kept : ℕ} (cell : ℕ) → KeepsSlot kept (loads cell)
loads-keeps cell = record { ways = λ s d. (inl tt, λ word. refl) }

stores-keeps : {kept : ℕ} (cell : ℕ) (word : ℤ) → KeepsSlot kept (stores cell word)
stores-keeps cell word = record { ways = λ s d. (tt, refl) }

stores_each-keeps : {kept : ℕ} (first count : ℕ) (word : ℤ) → KeepsSlot kept (stores_each first count word)
stores_each-keeps first zero word = gives-keeps Onward
stores_each-keeps first (suc count) word = keeps-then (stores-keeps first word) (λ u. stores_each-keeps (suc first) count word)

emits-keeps : {kept : ℕ} (line : ℕ) (word : ℤ) → KeepsSlot kept (emits line word)
emits-keeps {kept} line (pos n) = record { ways = λ s d. go s d (nat_lt n 256 && nat_lt (length s.output) max_output) }
  where
    go : (s : State) (d : List ℕ) (b : Bool) → Keeps Anything Anything (HasWord kept (slice_index_or s.slots kept (pos 0))) d (if b then Answer (Value Onward (record s { output = s.output ++ n ∷ [] })) else traps trap.Emit line s)
    go s d true = refl
    go s d false = tt
emits-keeps line (negsuc n) = record { ways = λ s d. tt }

-- ---- calls

-- calls keep the slot
pub record CallsKeep (kept : ℕ) (g : Environment) : Type 0 where
  pub call : (f : ℕ) (given : List ℤ) → KeepsSlot kept (g.call f given)

-- ---- expressions and conditions

mutual
  pub expression-keeps : {kept : ℕ} (g : Environment) → CallsKeep kept g → (line : ℕ) (e : Expression) → KeepsSlot kept (expression_means g line e)
  expression-keeps g calls line (Number n) = gives-keeps n
  expression-keeps g calls line (Local slot) = reads-keeps slot
  expression-keeps g calls line Len = gives-keeps (pos (length g.input))
  expression-keeps g calls line (Input index) = keeps-then (expression-keeps g calls line index) (λ i. checked-keeps line (byte_of g.input i))
  expression-keeps g calls line (Load array index) =
      keeps-then (expression-keeps g calls line index)
      (λ i. keeps-then (checked-keeps line (cell_of (extent_in g.extents array) i)) (λ cell. loads-keeps cell))
  expression-keeps g calls line (Call f given) =
      keeps-if (g.callable f (count_of given))
      (keeps-then (arguments-keep g calls line given) (λ words. calls.call f words))
      (gives-keeps (pos 0))
  expression-keeps g calls line (Neg inner) = keeps-then (expression-keeps g calls line inner) (λ x. checked-keeps line (sub_words (pos 0) x))
  expression-keeps g calls line (Binary op left right) =
      keeps-then (expression-keeps g calls line left)
      (λ x. keeps-then (expression-keeps g calls line right) (λ y. checked-keeps line (binary_words op x y)))

  pub arguments-keep : {kept : ℕ} (g : Environment) → CallsKeep kept g → (line : ℕ) (given : Arguments) → KeepsSlot kept (arguments_mean g line given)
  arguments-keep g calls line no_more = gives-keeps []
  arguments-keep g calls line (argument first rest) =
      keeps-then (expression-keeps g calls line first)
      (λ value. keeps-then (arguments-keep g calls line rest) (λ others. gives-keeps (value ∷ others)))

pub condition-keeps : {kept : ℕ} (g : Environment) → CallsKeep kept g → (line : ℕ) (c : Condition) → KeepsSlot kept (condition_means g line c)
condition-keeps g calls line (Compare test a b) =
    keeps-then (expression-keeps g calls line a) (λ x. keeps-then (expression-keeps g calls line b) (λ y. gives-keeps (compares test x y)))
condition-keeps g calls line (Both c d) =
    keeps-then (condition-keeps g calls line c) (λ holds. keeps-if holds (condition-keeps g calls line d) (gives-keeps false))
condition-keeps g calls line (Either c d) =
    keeps-then (condition-keeps g calls line c) (λ holds. keeps-if holds (gives-keeps true) (condition-keeps g calls line d))
condition-keeps g calls line (Not c) = keeps-then (condition-keeps g calls line c) (λ holds. gives-keeps (not holds))

-- ---- loops

-- the next statements, unless one broke off
broken-keeps : {kept : ℕ} (next : Meaning Flow) → KeepsSlot kept next → (flow : Flow) → KeepsSlot kept (unless_broken next flow)
broken-keeps next n Onward = n
broken-keeps next n Broken = gives-keeps Broken

-- the other turns of a loop, unless one broke off
ended-keeps : {kept : ℕ} (others : Meaning Flow) → KeepsSlot kept others → (flow : Flow) → KeepsSlot kept (unless_ended others flow)
ended-keeps others n Onward = n
ended-keeps others n Broken = gives-keeps Onward

for-keeps : {kept : ℕ} (count : ℕ) (i : ℤ) (slot : ℕ) (body : Meaning Flow) → kept ≢ slot → KeepsSlot kept body → KeepsSlot kept (for_turns count i slot body)
for-keeps zero i slot body ne b = gives-keeps Onward
for-keeps (suc count) i slot body ne b =
    keeps-then turns-keeps (λ u. keeps-then (sets-keeps slot i ne) (λ v. keeps-then b (ended-keeps (for_turns count (i +ℤ pos 1) slot body) (for-keeps count (i +ℤ pos 1) slot body ne b))))

while-keeps : {kept : ℕ} (line most : ℕ) (test : Meaning Bool) (body : Meaning Flow) → KeepsSlot kept test → KeepsSlot kept body → KeepsSlot kept (while_turns line most test body)
while-keeps line zero test body t b = keeps-then t (λ holds. keeps-if holds (traps-keeps trap.Turns line) (gives-keeps Onward))
while-keeps line (suc most) test body t b =
    keeps-then t (λ holds. keeps-if holds (keeps-then turns-keeps (λ u. keeps-then b (ended-keeps (while_turns line most test body) (while-keeps line most test body t b)))) (gives-keeps Onward))

blocks-keep : {kept : ℕ} (count : ℕ) (b : ℤ) (block : ℕ) (carried : List ℕ) (value : Carried) (body : Meaning Carried) → kept ≢ block → is_among kept carried ≡ false → KeepsSlot kept body → KeepsSlot kept (fold_blocks count b block carried value body)
blocks-keep zero b block carried value body ne nf s = gives-keeps value
blocks-keep (suc count) b block carried value body ne nf s =
    keeps-then turns-keeps
    (λ u. keeps-then (sets-keeps block b ne)
    (λ v. keeps-then (sets_row-keeps carried value nf)
    (λ w. keeps-then s
    (λ next. blocks-keep count (b +ℤ pos 1) block carried next body ne nf s))))

range-keeps : {kept : ℕ} (line : ℕ) (head : FoldHead) (start : Carried) (low high : ℤ) (body : Meaning Carried) → kept ≢ head.block → is_among kept head.carried ≡ false → KeepsSlot kept body → KeepsSlot kept (fold_range line head start low high body)
range-keeps line head start low high body ne nf s =
    keeps-if (nat_lt max_blocks (int_gap low high)) (traps-keeps trap.Blocks line)
    (blocks-keep (int_gap low high) low head.block head.carried start body ne nf s)

-- ---- statements and blocks

-- a slot that passes the test isn't one that doesn't
not-assigned : (test : ℕ → Bool) (kept slot : ℕ) → test kept ≡ true → test slot ≡ false → kept ≢ slot
not-assigned test kept slot yes' no' same = let e = ap test same in cc

-- where no slot that passes the test is assigned
mutual
  pub statement-keeps : {kept : ℕ} (g : Environment) → CallsKeep kept g → (test : ℕ → Bool) → test kept ≡ true → (line : ℕ) (s : Statement) → statement_assigns test s ≡ false → statement_declares kept s ≡ false → KeepsSlot kept (statement_means g line s)
  statement-keeps {kept} g calls test t line (Let slot value) a d = keeps-then (expression-keeps g calls line value) (λ word. sets-keeps slot word (other-slot kept slot d))
  statement-keeps {kept} g calls test t line (Assign slot value) a d = keeps-then (expression-keeps g calls line value) (λ word. sets-keeps slot word (not-assigned test kept slot t a))
  statement-keeps g calls test t line (Store array index value) a d =
      keeps-then (expression-keeps g calls line index)
      (λ i. keeps-then (expression-keeps g calls line value)
      (λ word. keeps-then (checked-keeps line (cell_of (extent_in g.extents array) i))
      (λ cell. stores-keeps cell word)))
  statement-keeps g calls test t line (Fill array low high value) a d =
      keeps-then (expression-keeps g calls line low)
      (λ i. keeps-then (expression-keeps g calls line high)
      (λ j. keeps-then (expression-keeps g calls line value)
      (λ word. keeps-then (checked-keeps line (cells_of (extent_in g.extents array) i j))
      (λ cells. stores_each-keeps cells.0 cells.1 word))))
  statement-keeps g calls test t line (Emit value) a d = keeps-then (expression-keeps g calls line value) (λ word. emits-keeps line word)
  statement-keeps g calls test t line (Fail number) a d = traps-keeps (trap.Fail number) line
  statement-keeps {kept} g calls test t line (If c first second) a d =
      let p = neither (assigns test first) _ a in
      let q = neither (declares kept first) _ d in
      keeps-then (condition-keeps g calls line c)
      (λ holds. keeps-if holds (block-keeps g calls test t first p.0 q.0) (block-keeps g calls test t second p.1 q.1))
  statement-keeps {kept} g calls test t line (For slot low high body) a d =
      let q = neither (kept == slot) _ d in
      keeps-then (expression-keeps g calls line low)
      (λ i. keeps-then (expression-keeps g calls line high)
      (λ j. for-keeps (int_gap i j) i slot (block_means g body) (other-slot kept slot q.0) (block-keeps g calls test t body a q.1)))
  statement-keeps g calls test t line (While c most body) a d =
      while-keeps line most (condition_means g line c) (block_means g body) (condition-keeps g calls line c) (block-keeps g calls test t body a d)
  statement-keeps g calls test t line (Do f given) a d = keeps-then (expression-keeps g calls line (Call f given)) (λ word. gives-keeps Onward)
  statement-keeps {kept} g calls test t line (Fold head body) a d =
      let q = neither (is_among kept head.carried) _ d in
      let r = neither (kept == head.block) _ q.1 in
      keeps-then (arguments-keep g calls line head.start)
      (λ start. keeps-then (expression-keeps g calls line head.low)
      (λ low. keeps-then (expression-keeps g calls line head.high)
      (λ high. keeps-then
      (range-keeps line head start low high (block_means g body >> arguments_mean g head.next_line head.next)
      (other-slot kept head.block r.0) q.0
      (keeps-then (block-keeps g calls test t body a r.1) (λ u. arguments-keep g calls head.next_line head.next)))
      (λ last. sets_row-keeps head.carried last q.0))))
  statement-keeps {kept} g calls test t line (Pair head producer consumer) a d =
      let p = neither (assigns test producer) _ a in
      let q = neither (is_among kept head.carried) _ d in
      let r = neither (declares kept producer) _ q.1 in
      keeps-then (block-keeps g calls test t producer p.0 r.0)
      (λ u. keeps-then (arguments-keep g calls head.give_line head.give)
      (λ given. keeps-then (sets_row-keeps head.carried given q.0)
      (λ v. keeps-then (block-keeps g calls test t consumer p.1 r.1) (λ w. gives-keeps Onward))))
  statement-keeps g calls test t line Break a d = gives-keeps Broken

  pub block-keeps : {kept : ℕ} (g : Environment) → CallsKeep kept g → (test : ℕ → Bool) → test kept ≡ true → (b : Block) → assigns test b ≡ false → declares kept b ≡ false → KeepsSlot kept (block_means g b)
  block-keeps g calls test t end a d = gives-keeps Onward
  block-keeps {kept} g calls test t (on_line line first rest) a d =
      let p = neither (statement_assigns test first) _ a in
      let q = neither (statement_declares kept first) _ d in
      keeps-then (statement-keeps g calls test t line first p.0 q.0) (broken-keeps (block_means g rest) (block-keeps g calls test t rest p.1 q.1))

-- ---- functions

function-keeps : {kept : ℕ} (g : Environment) (f : Option Function) (given : List ℤ) → KeepsSlot kept (function_means g f given)
function-keeps g None given = gives-keeps (pos 0)
function-keeps g (Some f) given =
    own-keeps (own_slots (length f.slots) given) (block_means g f.body >> expression_means g f.answer_line f.answer)

call-keeps : {kept : ℕ} (input : List ℕ) (extents : List Extent) (functions : List Function) (index f : ℕ) (given : List ℤ) → KeepsSlot kept (call_before input extents functions index f given)
call-keeps input extents functions zero f given = gives-keeps (pos 0)
call-keeps input extents functions (suc index) f given =
    keeps-if (f == index)
    (function-keeps
    (record { input = input; extents = extents; callable = callable_before functions index; call = call_before input extents functions index })
    (slice_get functions index) given)
    (call-keeps input extents functions index f given)

-- calls keep the slots of their caller
pub calls-keep : {kept : ℕ} (input : List ℕ) (extents : List Extent) (functions : List Function) (index : ℕ) → CallsKeep kept (environment_before input extents functions index)
calls-keep input extents functions index = record { call = call-keeps input extents functions index }

-- ---- parts of constructs

guess-keeps : {kept : ℕ} (g : Environment) → CallsKeep kept g → (line : ℕ) (p : syntax.Predictor) → KeepsSlot kept (guess_means g line p)
guess-keeps g calls line (By guess) = expression-keeps g calls line guess
guess-keeps g calls line (Host number) = gives-keeps (pos 0)

guesses-keep : {kept : ℕ} (g : Environment) → CallsKeep kept g → (line : ℕ) (all : List syntax.Predictor) → KeepsSlot kept (guesses_mean g line all)
guesses-keep g calls line [] = gives-keeps []
guesses-keep g calls line (first ∷ rest) =
    keeps-then (guess-keeps g calls line first) (λ word. keeps-then (guesses-keep g calls line rest) (λ words. gives-keeps (word ∷ words)))

-- a block that assigns nothing that is declared outside of it
outer-keeps : {kept : ℕ} (g : Environment) → CallsKeep kept g → (b : Block) → assigns_outer b ≡ false → declares kept b ≡ false → KeepsSlot kept (block_means g b)
outer-keeps {kept} g calls b a d = block-keeps g calls (λ slot. not (declares slot b)) (ap not d) b a d

-- a part keeps the slots that are declared outside of it
pub part-keeps : {kept : ℕ} (g : Environment) → CallsKeep kept g → (c : Construct) (part : Part) → assigns_outer (statements_of c part) ≡ false → part_declares c part kept ≡ false → (number : ℤ) (carried : Carried) → KeepsSlot kept (part_means g c part number carried)
part-keeps {kept} g calls (fold line head body) Body a d number carried =
    let q = neither (is_among kept head.carried) _ d in
    let r = neither (kept == head.block) _ q.1 in
    keeps-then (sets-keeps head.block number (other-slot kept head.block r.0))
    (λ u. keeps-then (sets_row-keeps head.carried carried q.0)
    (λ v. keeps-then (outer-keeps g calls body a r.1)
    (λ w. arguments-keep g calls head.next_line head.next)))
part-keeps {kept} g calls (fold line head body) Predictor a d number carried =
    keeps-then (sets-keeps head.block number (other-slot kept head.block d)) (λ u. guesses-keep g calls line head.predict)
part-keeps g calls (fold line head body) Producer a d number carried = gives-keeps (no_row (length head.carried))
part-keeps g calls (fold line head body) Consumer a d number carried = gives-keeps (no_row (length head.carried))
part-keeps g calls (pair line head producer consumer) Producer a d number carried =
    keeps-then (outer-keeps g calls producer a d) (λ u. arguments-keep g calls head.give_line head.give)
part-keeps {kept} g calls (pair line head producer consumer) Consumer a d number carried =
    let q = neither (is_among kept head.carried) _ d in
    keeps-then (sets_row-keeps head.carried carried q.0)
    (λ u. keeps-then (outer-keeps g calls consumer a q.1) (λ v. gives-keeps carried))
part-keeps g calls (pair line head producer consumer) Predictor a d number carried = guesses-keep g calls line head.predict
part-keeps g calls (pair line head producer consumer) Body a d number carried = gives-keeps (no_row (length head.carried))

-- Forms that assign none of some slots leave them as they were.
use Rattle.std.proofs.Common.{◌≡◌, ℕ, zero, suc, ◌⊎◌, inl, inr, Bool, true, false, List, [], ◌∷◌, ◌++◌, drop, length, ℤ, pos, negsuc, ◌+◌, ◌<◌, ◌+ℤ◌, refl, ap, ◌∙◌, arith, eq-eqb}
use Rattle.std.specs.Prelude.{Result, Ok, Err, Option, Some, None, ◌==◌, if◌then◌else◌, not, nat_lt, slice_get, slice_index_or, slice_set}
use Rattle.std.specs.List.{Contains}
use Rattle.std.proofs.lemmas.List.Elements.{Contains-append_right}
use Rattle.spf_ast.specs.Carried.{Carried, with_carried}
use Rattle.std.specs.Int.{int_gap}
use Rattle.std.proofs.lemmas.List.{length-set}
use Rattle.spf_ast.specs.declared.outcome.TrapKind.{TrapKind}
use Rattle.spf_ast.specs.declared.outcome.TrapKind.TheVariants as trap
use Rattle.spf_ast.specs.Word.{binary_words, sub_words}
use Rattle.spf_ast.specs.Interaction.{Interaction, Answer, AskLoad, AskStore, AskTurn, bind, State, Flow, Onward, Broken, Ending, Value, Trapped, Meaning, after_ending, ◌>>=◌, ◌>>◌, ◌>->◌, unless_broken, unless_ended}
use Rattle.spf_ast.specs.Syntax.{Expression, Number, Local, Len, Input, Load, Call, Neg, Binary, Arguments, no_more, argument}
use Rattle.spf_ast.specs.Syntax.{Condition, Compare, Both, Either, Not}
use Rattle.spf_ast.specs.Syntax.{Statement, Let, Assign, Store, Fill, Emit, Fail, If, For, While, Do, Fold, Pair, Break, Block, end, on_line, Function}
use Rattle.spf_ast.specs.Meaning.{Extent, gives, traps, checked, reads, sets, sets_row, turns, loads, stores, stores_each, emits, with_slots, in_own_slots, extent_in, cell_of, byte_of, cells_of, compares, for_turns, while_turns, fold_blocks, max_blocks, Environment, count_of}
use Rattle.spf_ast.specs.Meaning.{expression_means, arguments_mean, condition_means, statement_means, block_means, function_means, own_slots, callable_before, call_before, environment_before}
use Rattle.spf_ast.specs.Plain.{plain_answer}
use Rattle.spf_ast.specs.Event.{word_at}
use Rattle.spf_ast.specs.Lawful.{Names, Scope, behind, showing_fixed, showing_all_fixed, showing, showing_each, in_turn, in_part, in_body, in_producer, in_consumer, Declares, DeclaresEach, IsLawfulStatement, IsLawfulBlock, declared_in, scope_after}
use Rattle.spf_ast.specs.Slots.{assigns, statement_assigns}
use Rattle.spf_ast_laws.specs.Keeping.{StatementSpares, BlockSpares}
use Rattle.spf_ast_lemmas.proofs.Bools.{neither}
use Rattle.spf_ast_laws.proofs.Slots.{cons_cases, cons_first, cons_rest}

-- ---- states

-- these slots have the same words, and there are equally many slots
pub record AreKept (kept : List ℕ) (before after : List ℤ) : Type 0 where
  pub words : (slot : ℕ) → Contains kept slot → slice_get after slot ≡ slice_get before slot
  pub slot_count : length after ≡ length before

kept-same : (kept : List ℕ) (slots : List ℤ) → AreKept kept slots slots
kept-same kept slots = record { words = λ slot c. refl; slot_count = refl }

pub kept-on : {kept : List ℕ} {one other last : List ℤ} → AreKept kept one other → AreKept kept other last → AreKept kept one last
kept-on p q = record { words = λ slot c. q.words slot c ∙ p.words slot c; slot_count = q.slot_count ∙ p.slot_count }

-- another slot that is set
set_other : (xs : List ℤ) (slot k : ℕ) (v : ℤ) → (slot ≡ k → ⊥) → slice_get (slice_set xs slot v) k ≡ slice_get xs k
set_other [] slot k v n = refl
set_other (x ∷ xs) zero zero v n = absurd (n refl)
set_other (x ∷ xs) zero (suc k) v n = refl
set_other (x ∷ xs) (suc slot) zero v n = refl
set_other (x ∷ xs) (suc slot) (suc k) v n = set_other xs slot k v (λ e. n (ap suc e))

kept-set : (kept : List ℕ) (slots : List ℤ) (slot : ℕ) (v : ℤ) → (Contains kept slot → ⊥) → AreKept kept slots (slice_set slots slot v)
kept-set kept slots slot v n = record {
  words = λ k c. set_other slots slot k v (λ e. n (rw e c));
  slot_count = length-set slots slot v;
}

-- other slots that are set
kept-row : (kept slots : List ℕ) (row : Carried) (words : List ℤ) → ((slot : ℕ) → Contains slots slot → Contains kept slot → ⊥) → AreKept kept words (with_carried slots row words)
kept-row kept [] row words n = kept-same kept words
kept-row kept (slot ∷ slots) row words n =
    kept-on (kept-set kept words slot (slice_index_or row 0 (pos 0)) (n slot (cons_first slot slots)))
    (kept-row kept slots (drop 1 row) (slice_set words slot (slice_index_or row 0 (pos 0))) (λ k c. n k (cons_rest slot slots k c)))

-- ---- trees

-- whatever words the memory gives, each value that a tree ends with leaves these slots so
abbrev pub Leaves : {A : Type 0} → (List ℤ → Type 0) → Interaction (Ending A) → Type 0
Leaves P (Answer (Value a s)) = P s.slots
Leaves P (Answer (Trapped trap output)) = Unit {0}
Leaves P (AskLoad cell given) = (word : ℤ) → Leaves P (given word)
Leaves P (AskStore cell word next) = Leaves P next
Leaves P (AskTurn next) = Leaves P next

-- an ending does
abbrev pub EndLeaves : {A : Type 0} → (List ℤ → Type 0) → Ending A → Type 0
EndLeaves P (Value a s) = P s.slots
EndLeaves P (Trapped trap output) = Unit {0}

-- so does the answer on a memory
pub answer-leaves : {A : Type 0} (P : List ℤ → Type 0) (t : Interaction (Ending A)) (m : List ℤ) → Leaves P t → EndLeaves P (plain_answer t m)
answer-leaves P (Answer (Value a s)) m h = h
answer-leaves P (Answer (Trapped trap output)) m h = tt
answer-leaves P (AskLoad c k) m h = answer-leaves P (k (word_at m c)) m (h (word_at m c))
answer-leaves P (AskStore c v t) m h = answer-leaves P t (slice_set m c v) h
answer-leaves P (AskTurn t) m h = answer-leaves P t m h

leaves-weaker : {A : Type 0} (P Q : List ℤ → Type 0) → ((slots : List ℤ) → P slots → Q slots) → (t : Interaction (Ending A)) → Leaves P t → Leaves Q t
leaves-weaker P Q w (Answer (Value a s)) h = w s.slots h
leaves-weaker P Q w (Answer (Trapped trap output)) h = tt
leaves-weaker P Q w (AskLoad c k) h = λ word. leaves-weaker P Q w (k word) (h word)
leaves-weaker P Q w (AskStore c v t) h = leaves-weaker P Q w t h
leaves-weaker P Q w (AskTurn t) h = leaves-weaker P Q w t h

leaves-bind : {A B : Type 0} (P Q : List ℤ → Type 0) (next : A → Meaning B) → ((a : A) (s : State) → P s.slots → Leaves Q (next a s)) → (t : Interaction (Ending A)) → Leaves P t → Leaves Q (bind t (after_ending next))
leaves-bind P Q next step (Answer (Value a s)) h = step a s h
leaves-bind P Q next step (Answer (Trapped trap output)) h = tt
leaves-bind P Q next step (AskLoad c k) h = λ word. leaves-bind P Q next step (k word) (h word)
leaves-bind P Q next step (AskStore c v t) h = leaves-bind P Q next step t h
leaves-bind P Q next step (AskTurn t) h = leaves-bind P Q next step t h

-- ---- forms

-- from each state a form leaves these slots as they were
pub record Keeps {A : Type 0} (kept : List ℕ) (form : Meaning A) : Type 0 where
  pub leaves : (s : State) → Leaves (AreKept kept s.slots) (form s)

-- one form after another
pub keeps-then : {A B : Type 0} {kept : List ℕ} {first : Meaning A} {next : A → Meaning B} → Keeps kept first → ((a : A) → Keeps kept (next a)) → Keeps kept (first >>= next)
keeps-then {A} {B} {kept} {first} {next} f n = record {
  leaves = λ s. leaves-bind (AreKept kept s.slots) (AreKept kept s.slots) next
      (λ a between h. leaves-weaker (AreKept kept between.slots) (AreKept kept s.slots) (λ slots k. kept-on h k) (next a between) ((n a).leaves between))
      (first s) (f.leaves s);
}

-- one statement, and then others
pub keeps-on : {kept : List ℕ} {first next : Meaning Flow} → Keeps kept first → Keeps kept next → Keeps kept (first >-> next)
keeps-on {kept} {first} {next} f n = keeps-then f go
  where
    go : (flow : Flow) → Keeps kept (unless_broken next flow)
    go Onward = n
    go Broken = record { leaves = λ s. kept-same kept s.slots }

-- the body of a loop, and then its other turns
pub keeps-turn : {kept : List ℕ} {body others : Meaning Flow} → Keeps kept body → Keeps kept others → Keeps kept (body >>= unless_ended others)
keeps-turn {kept} {body} {others} b n = keeps-then b go
  where
    go : (flow : Flow) → Keeps kept (unless_ended others flow)
    go Onward = n
    go Broken = record { leaves = λ s. kept-same kept s.slots }

-- either of two forms
pub keeps-if : {A : Type 0} {kept : List ℕ} (b : Bool) {first second : Meaning A} → Keeps kept first → Keeps kept second → Keeps kept (if b then first else second)
keeps-if true f g = f
keeps-if false f g = g

pub gives-keeps : {A : Type 0} {kept : List ℕ} (a : A) → Keeps kept (gives a)
gives-keeps {kept = kept} a = record { leaves = λ s. kept-same kept s.slots }

traps-keeps : {A : Type 0} {kept : List ℕ} (why : TrapKind) (line : ℕ) → Keeps {A = A} kept (traps why line)
traps-keeps why line = record { leaves = λ s. tt }

checked-keeps : {A : Type 0} {kept : List ℕ} (line : ℕ) (r : Result A TrapKind) → Keeps kept (checked line r)
checked-keeps line (Ok value) = gives-keeps value
checked-keeps line (Err why) = traps-keeps why line

reads-keeps : {kept : List ℕ} (slot : ℕ) → Keeps kept (reads slot)
reads-keeps {kept = kept} slot = record { leaves = λ s. kept-same kept s.slots }

-- a slot that isn't among them
pub sets-keeps : {kept : List ℕ} (slot : ℕ) (word : ℤ) → (Contains kept slot → ⊥) → Keeps kept (sets slot word)
sets-keeps {kept = kept} slot word n = record { leaves = λ s. kept-set kept s.slots slot word n }

pub sets_row-keeps : {kept : List ℕ} (slots : List ℕ) (row : Carried) → ((slot : ℕ) → Contains slots slot → Contains kept slot → ⊥) → Keeps kept (sets_row slots row)
sets_row-keeps {kept = kept} slots row n = record { leaves = λ s. kept-row kept slots row s.slots n }

turns-keeps : {kept : List ℕ} → Keeps kept turns
turns-keeps {kept = kept} = record { leaves = λ s. kept-same kept s.slots }

loads-keeps : {kept : List ℕ} (cell : ℕ) → Keeps kept (loads cell)
loads-keeps {kept = kept} cell = record { leaves = λ s word. kept-same kept s.slots }

stores-keeps : {kept : List ℕ} (cell : ℕ) (word : ℤ) → Keeps kept (stores cell word)
stores-keeps {kept = kept} cell word = record { leaves = λ s. kept-same kept s.slots }

stores_each-keeps : {kept : List ℕ} (first count : ℕ) (word : ℤ) → Keeps kept (stores_each first count word)
stores_each-keeps first zero word = gives-keeps Onward
stores_each-keeps first (suc count) word = keeps-then (stores-keeps first word) (λ u. stores_each-keeps (suc first) count word)

byte-keeps : (kept : List ℕ) (b : Bool) (line n : ℕ) (s : State) (output : List ℕ) → Leaves (AreKept kept s.slots) (if b then Answer (Value Onward (record s { output = output })) else traps trap.Emit line s)
byte-keeps kept true line n s output = kept-same kept s.slots
byte-keeps kept false line n s output = tt

emits-keeps : {kept : List ℕ} (line : ℕ) (word : ℤ) → Keeps kept (emits line word)
emits-keeps {kept = kept} line (pos n) = record { leaves = λ s. byte-keeps kept _ line n s _ }
emits-keeps line (negsuc n) = record { leaves = λ s. tt }

own-leaves : {A : Type 0} (kept : List ℕ) (slots : List ℤ) (t : Interaction (Ending A)) → Leaves (AreKept kept slots) (bind t (λ e. Answer (with_slots slots e)))
own-leaves kept slots (Answer (Value a s)) = kept-same kept slots
own-leaves kept slots (Answer (Trapped trap output)) = tt
own-leaves kept slots (AskLoad c k) = λ word. own-leaves kept slots (k word)
own-leaves kept slots (AskStore c v t) = own-leaves kept slots t
own-leaves kept slots (AskTurn t) = own-leaves kept slots t

-- a form over slots of its own
own-keeps : {A : Type 0} {kept : List ℕ} (own : List ℤ) (inner : Meaning A) → Keeps kept (in_own_slots own inner)
own-keeps {kept = kept} own inner = record { leaves = λ s. own-leaves kept s.slots (inner (record { slots = own; output = s.output })) }

-- ---- calls

-- calls leave all slots as they were
pub record CallsKeep (g : Environment) : Type 0 where
  pub call : (kept : List ℕ) (f : ℕ) (given : List ℤ) → Keeps kept (g.call f given)

function-keeps : {kept : List ℕ} (g : Environment) (f : Option Function) (given : List ℤ) → Keeps kept (function_means g f given)
function-keeps g None given = gives-keeps (pos 0)
function-keeps g (Some f) given = own-keeps (own_slots (length f.slots) given) (block_means g f.body >> expression_means g f.answer_line f.answer)

call-keeps : {kept : List ℕ} (input : List ℕ) (extents : List Extent) (functions : List Function) (index f : ℕ) (given : List ℤ) → Keeps kept (call_before input extents functions index f given)
call-keeps input extents functions zero f given = gives-keeps (pos 0)
call-keeps input extents functions (suc index) f given =
    keeps-if (f == index)
    (function-keeps
    (record { input = input; extents = extents; callable = callable_before functions index; call = call_before input extents functions index })
    (slice_get functions index) given)
    (call-keeps input extents functions index f given)

pub calls-keep : (input : List ℕ) (extents : List Extent) (functions : List Function) (index : ℕ) → CallsKeep (environment_before input extents functions index)
calls-keep input extents functions index = record { call = λ kept f given. call-keeps input extents functions index f given }

-- ---- expressions and conditions

mutual
  pub expression-keeps : {kept : List ℕ} (g : Environment) → CallsKeep g → (line : ℕ) (e : Expression) → Keeps kept (expression_means g line e)
  expression-keeps g calls line (Number n) = gives-keeps n
  expression-keeps g calls line (Local slot) = reads-keeps slot
  expression-keeps g calls line Len = gives-keeps (pos (length g.input))
  expression-keeps g calls line (Input index) = keeps-then (expression-keeps g calls line index) (λ i. checked-keeps line (byte_of g.input i))
  expression-keeps g calls line (Load array index) =
      keeps-then (expression-keeps g calls line index)
      (λ i. keeps-then (checked-keeps line (cell_of (extent_in g.extents array) i)) (λ cell. loads-keeps cell))
  expression-keeps {kept} g calls line (Call f given) =
      keeps-if (g.callable f (count_of given))
      (keeps-then (arguments-keep g calls line given) (λ words. calls.call kept f words))
      (gives-keeps (pos 0))
  expression-keeps g calls line (Neg inner) = keeps-then (expression-keeps g calls line inner) (λ x. checked-keeps line (sub_words (pos 0) x))
  expression-keeps g calls line (Binary op left right) =
      keeps-then (expression-keeps g calls line left)
      (λ x. keeps-then (expression-keeps g calls line right) (λ y. checked-keeps line (binary_words op x y)))

  pub arguments-keep : {kept : List ℕ} (g : Environment) → CallsKeep g → (line : ℕ) (given : Arguments) → Keeps kept (arguments_mean g line given)
  arguments-keep g calls line no_more = gives-keeps []
  arguments-keep g calls line (argument first rest) =
      keeps-then (expression-keeps g calls line first)
      (λ value. keeps-then (arguments-keep g calls line rest) (λ others. gives-keeps (value ∷ others)))

condition-keeps : {kept : List ℕ} (g : Environment) → CallsKeep g → (line : ℕ) (c : Condition) → Keeps kept (condition_means g line c)
condition-keeps g calls line (Compare test a b) =
    keeps-then (expression-keeps g calls line a) (λ x. keeps-then (expression-keeps g calls line b) (λ y. gives-keeps (compares test x y)))
condition-keeps g calls line (Both c d) = keeps-then (condition-keeps g calls line c) (λ holds. keeps-if holds (condition-keeps g calls line d) (gives-keeps false))
condition-keeps g calls line (Either c d) = keeps-then (condition-keeps g calls line c) (λ holds. keeps-if holds (gives-keeps true) (condition-keeps g calls line d))
condition-keeps g calls line (Not c) = keeps-then (condition-keeps g calls line c) (λ holds. gives-keeps (not holds))

-- ---- loops

for-keeps : {kept : List ℕ} (count : ℕ) (i : ℤ) (slot : ℕ) (body : Meaning Flow) → (Contains kept slot → ⊥) → Keeps kept body → Keeps kept (for_turns count i slot body)
for-keeps zero i slot body n b = gives-keeps Onward
for-keeps (suc count) i slot body n b =
    keeps-then turns-keeps (λ u. keeps-then (sets-keeps slot i n) (λ v. keeps-turn b (for-keeps count (i +ℤ pos 1) slot body n b)))

while-keeps : {kept : List ℕ} (line most : ℕ) (test : Meaning Bool) (body : Meaning Flow) → Keeps kept test → Keeps kept body → Keeps kept (while_turns line most test body)
while-keeps line zero test body t b = keeps-then t (λ holds. keeps-if holds (traps-keeps trap.Turns line) (gives-keeps Onward))
while-keeps line (suc most) test body t b =
    keeps-then t (λ holds. keeps-if holds (keeps-then turns-keeps (λ u. keeps-turn b (while-keeps line most test body t b))) (gives-keeps Onward))

blocks-keep : {kept : List ℕ} (count : ℕ) (b : ℤ) (block : ℕ) (carried : List ℕ) (value : Carried) (body : Meaning Carried) → (Contains kept block → ⊥) → ((slot : ℕ) → Contains carried slot → Contains kept slot → ⊥) → Keeps kept body → Keeps kept (fold_blocks count b block carried value body)
blocks-keep zero b block carried value body n o k = gives-keeps value
blocks-keep (suc count) b block carried value body n o k =
    keeps-then turns-keeps
    (λ u. keeps-then (sets-keeps block b n)
    (λ v. keeps-then (sets_row-keeps carried value o)
    (λ w. keeps-then k
    (λ next. blocks-keep count (b +ℤ pos 1) block carried next body n o k))))

-- the next declarations have the next slots
pub each-next : (names : Names) (scope : Scope) (slots : List ℕ) → DeclaresEach names scope slots → (k : ℕ) → Contains slots k → k < scope.next + length slots
each-next names scope [] d k c = let inside = c.1 in omega (arith, inside)
each-next names scope (slot ∷ slots) d k c = go (cons_cases slot slots k c) (λ i. each-next names (behind 1 (showing slot scope)) slots d.1 k i)
  where
    go : (slot ≡ k) ⊎ Contains slots k → (Contains slots k → k < scope.next + 1 + length slots) → k < scope.next + length (slot ∷ slots)
    go (inl e) later = let next = d.0.0 in omega (arith, e, next)
    go (inr i) later = let below = later i in omega (arith, below)

-- ---- statements and blocks

-- these slots were declared before, and each of them is fixed or is one that isn't assigned
pub record AreSpared (outer kept : List ℕ) (scope : Scope) : Type 0 where
  pub declared : (slot : ℕ) → Contains kept slot → slot < scope.next
  pub fixed : (slot : ℕ) → Contains kept slot → Contains scope.fixed slot ⊎ Contains outer slot

-- the slot of the next declaration isn't among them
pub unseen : {outer kept : List ℕ} (names : Names) (scope : Scope) (slot : ℕ) → AreSpared outer kept scope → Declares names scope slot → Contains kept slot → ⊥
unseen names scope slot a d c = let below = a.declared slot c in let next = d.0 in omega (arith, below, next)

-- more slots may have been declared
pub spared-behind : {outer kept : List ℕ} (count : ℕ) (scope : Scope) → AreSpared outer kept scope → AreSpared outer kept (behind count scope)
spared-behind count scope a = record { declared = λ slot c. let below = a.declared slot c in omega (arith, below); fixed = a.fixed }

spared-after : {outer kept : List ℕ} (scope : Scope) (s : Statement) → AreSpared outer kept scope → AreSpared outer kept (scope_after scope s)
spared-after scope s a = record { declared = λ slot c. let below = a.declared slot c in omega (arith, below); fixed = a.fixed }

pub spared-showing : {outer kept : List ℕ} (slot : ℕ) (scope : Scope) → AreSpared outer kept scope → AreSpared outer kept (showing slot scope)
spared-showing slot scope a = record { declared = a.declared; fixed = a.fixed }

-- more slots may be fixed
fixed-more : (outer : List ℕ) (slot k : ℕ) (fixed : List ℕ) → Contains fixed k ⊎ Contains outer k → Contains (slot ∷ fixed) k ⊎ Contains outer k
fixed-more outer slot k fixed (inl c) = inl (cons_rest slot fixed k c)
fixed-more outer slot k fixed (inr c) = inr c

pub spared-fixed : {outer kept : List ℕ} (slot : ℕ) (scope : Scope) → AreSpared outer kept scope → AreSpared outer kept (showing_fixed slot scope)
spared-fixed {outer} slot scope a = record { declared = a.declared; fixed = λ k c. fixed-more outer slot k scope.fixed (a.fixed k c) }

all-more : (outer slots : List ℕ) (k : ℕ) (fixed : List ℕ) → Contains fixed k ⊎ Contains outer k → Contains (slots ++ fixed) k ⊎ Contains outer k
all-more outer slots k fixed (inl c) = inl (Contains-append_right slots fixed k c)
all-more outer slots k fixed (inr c) = inr c

pub spared-all : {outer kept : List ℕ} (slots : List ℕ) (scope : Scope) → AreSpared outer kept scope → AreSpared outer kept (showing_all_fixed slots scope)
spared-all {outer} slots scope a = record { declared = a.declared; fixed = λ k c. all-more outer slots k scope.fixed (a.fixed k c) }

-- in a part of a construct, or in a loop
pub spared-part : {outer kept : List ℕ} (scope : Scope) → AreSpared outer kept scope → AreSpared outer kept (in_part scope)
spared-part scope a = record { declared = a.declared; fixed = a.fixed }

pub spared-turn : {outer kept : List ℕ} (scope : Scope) → AreSpared outer kept scope → AreSpared outer kept (in_turn scope)
spared-turn scope a = record { declared = a.declared; fixed = a.fixed }

pub spared-body : {outer kept : List ℕ} (scope : Scope) (carried : List ℕ) (block : ℕ) → AreSpared outer kept scope → AreSpared outer kept (in_body scope carried block)
spared-body scope carried block a =
    spared-part (behind (length carried + 1) (showing_fixed block (showing_all_fixed carried scope)))
    (spared-behind (length carried + 1) (showing_fixed block (showing_all_fixed carried scope)) (spared-fixed block (showing_all_fixed carried scope) (spared-all carried scope a)))

pub spared-producer : {outer kept : List ℕ} (scope : Scope) (carried : List ℕ) → AreSpared outer kept scope → AreSpared outer kept (in_producer scope carried)
spared-producer scope carried a = spared-part (behind (length carried) scope) (spared-behind (length carried) scope a)

pub spared-consumer : {outer kept : List ℕ} (scope : Scope) (carried : List ℕ) (producer : Block) → AreSpared outer kept scope → AreSpared outer kept (in_consumer scope carried producer)
spared-consumer scope carried producer a =
    spared-part (behind (length carried + declared_in producer) (showing_all_fixed carried scope))
    (spared-behind (length carried + declared_in producer) (showing_all_fixed carried scope) (spared-all carried scope a))

-- the slots of the next declarations aren't among them
pub unseen-each : {outer kept : List ℕ} (names : Names) (scope : Scope) (slots : List ℕ) → AreSpared outer kept scope → DeclaresEach names scope slots → (slot : ℕ) → Contains slots slot → Contains kept slot → ⊥
unseen-each names scope [] a d slot c k = let inside = c.1 in omega (arith, inside)
unseen-each {outer} {kept} names scope (first ∷ slots) a d slot c k = go (cons_cases first slots slot c) (unseen names scope first a d.0)
    (λ i. unseen-each names (behind 1 (showing first scope)) slots (spared-behind 1 (showing first scope) (spared-showing first scope a)) d.1 slot i k)
  where
    go : (first ≡ slot) ⊎ Contains slots slot → (Contains kept first → ⊥) → (Contains slots slot → ⊥) → ⊥
    go (inl e) n m = n (rw e k)
    go (inr i) n m = m i

-- after them too
pub spared-each : {outer kept : List ℕ} (slots : List ℕ) (scope : Scope) → AreSpared outer kept scope → AreSpared outer kept (showing_each slots scope)
spared-each [] scope a = a
spared-each (slot ∷ slots) scope a = spared-each slots (behind 1 (showing slot scope)) (spared-behind 1 (showing slot scope) (spared-showing slot scope a))

-- a slot that is assigned isn't among them
unassigned : {outer kept : List ℕ} (scope : Scope) (slot : ℕ) → AreSpared outer kept scope → (Contains scope.fixed slot → ⊥) → (Contains outer slot → ⊥) → Contains kept slot → ⊥
unassigned scope slot a f o c = elim (a.fixed slot c) [ inl x ↦ f x | inr y ↦ o y ]

-- a slot that is assigned isn't one of those that are spared
spared-slot : (outer : List ℕ) (slot : ℕ) → ((k : ℕ) → Contains outer k → (slot == k) ≡ false) → Contains outer slot → ⊥
spared-slot outer slot o c = let e = o slot c in let same = eq-eqb slot slot refl in cc

-- a statement, and statements in order
mutual
  pub statement-keeps : {outer kept : List ℕ} (g : Environment) → CallsKeep g → (names : Names) (in_main : Bool) (scope : Scope) (line : ℕ) (s : Statement) → IsLawfulStatement names in_main scope s → AreSpared outer kept scope → StatementSpares outer s → Keeps kept (statement_means g line s)
  statement-keeps g calls names in_main scope line (Let slot value) l a o =
      keeps-then (expression-keeps g calls line value) (λ word. sets-keeps slot word (unseen names scope slot a l.1))
  statement-keeps {outer} g calls names in_main scope line (Assign slot value) l a o =
      keeps-then (expression-keeps g calls line value) (λ word. sets-keeps slot word (unassigned scope slot a l.1 (spared-slot outer slot o)))
  statement-keeps g calls names in_main scope line (Store array index value) l a o =
      keeps-then (expression-keeps g calls line index)
      (λ i. keeps-then (expression-keeps g calls line value)
      (λ word. keeps-then (checked-keeps line (cell_of (extent_in g.extents array) i)) (λ cell. stores-keeps cell word)))
  statement-keeps g calls names in_main scope line (Fill array low high value) l a o =
      keeps-then (expression-keeps g calls line low)
      (λ i. keeps-then (expression-keeps g calls line high)
      (λ j. keeps-then (expression-keeps g calls line value)
      (λ word. keeps-then (checked-keeps line (cells_of (extent_in g.extents array) i j)) (λ cells. stores_each-keeps cells.0 cells.1 word))))
  statement-keeps g calls names in_main scope line (Emit value) l a o = keeps-then (expression-keeps g calls line value) (λ word. emits-keeps line word)
  statement-keeps g calls names in_main scope line (Fail number) l a o = traps-keeps (trap.Fail number) line
  statement-keeps g calls names in_main scope line (If test x y) l a o =
      keeps-then (condition-keeps g calls line test)
      (λ holds. keeps-if holds
      (block-keeps g calls names in_main scope x l.1 a (λ k i. (neither (assigns (λ other. other == k) x) _ (o k i)).0))
      (block-keeps g calls names in_main (behind (declared_in x) scope) y l.2 (spared-behind (declared_in x) scope a) (λ k i. (neither (assigns (λ other. other == k) x) _ (o k i)).1)))
  statement-keeps g calls names in_main scope line (For slot low high body) l a o =
      keeps-then (expression-keeps g calls line low)
      (λ i. keeps-then (expression-keeps g calls line high)
      (λ j. for-keeps (int_gap i j) i slot (block_means g body) (unseen names scope slot a l.2)
      (block-keeps g calls names in_main (in_turn (behind 1 (showing_fixed slot scope))) body l.3 (spared-turn (behind 1 (showing_fixed slot scope)) (spared-behind 1 (showing_fixed slot scope) (spared-fixed slot scope a))) o)))
  statement-keeps g calls names in_main scope line (While test most body) l a o =
      while-keeps line most (condition_means g line test) (block_means g body) (condition-keeps g calls line test) (block-keeps g calls names in_main (in_turn scope) body l.2 (spared-turn scope a) o)
  statement-keeps g calls names in_main scope line (Do f given) l a o = keeps-then (expression-keeps g calls line (Call f given)) (λ word. gives-keeps Onward)
  statement-keeps g calls names in_main scope line (Fold head body) l a o =
      keeps-then (arguments-keep g calls line head.start)
      (λ start. keeps-then (expression-keeps g calls line head.low)
      (λ low. keeps-then (expression-keeps g calls line head.high)
      (λ high. keeps-then
      (keeps-if (nat_lt max_blocks (int_gap low high)) (traps-keeps trap.Blocks line)
      (blocks-keep (int_gap low high) low head.block head.carried start (block_means g body >> arguments_mean g head.next_line head.next)
      (unseen names (showing_each head.carried scope) head.block (spared-each head.carried scope a) l.4)
      (unseen-each names scope head.carried a l.3)
      (keeps-then (block-keeps g calls names in_main (in_body scope head.carried head.block) body l.6 (spared-body scope head.carried head.block a) o)
      (λ u. arguments-keep g calls head.next_line head.next))))
      (λ last. sets_row-keeps head.carried last (unseen-each names scope head.carried a l.3)))))
  statement-keeps g calls names in_main scope line (Pair head producer consumer) l a o =
      keeps-then (block-keeps g calls names in_main (in_producer scope head.carried) producer l.1 (spared-producer scope head.carried a) (λ k i. (neither (assigns (λ other. other == k) producer) _ (o k i)).0))
      (λ u. keeps-then (arguments-keep g calls head.give_line head.give)
      (λ given. keeps-then (sets_row-keeps head.carried given (unseen-each names scope head.carried a l.0))
      (λ v. keeps-then (block-keeps g calls names in_main (in_consumer scope head.carried producer) consumer l.4
      (spared-consumer scope head.carried producer a) (λ k i. (neither (assigns (λ other. other == k) producer) _ (o k i)).1))
      (λ w. gives-keeps Onward))))
  statement-keeps g calls names in_main scope line Break l a o = gives-keeps Broken

  pub block-keeps : {outer kept : List ℕ} (g : Environment) → CallsKeep g → (names : Names) (in_main : Bool) (scope : Scope) (block : Block) → IsLawfulBlock names in_main scope block → AreSpared outer kept scope → BlockSpares outer block → Keeps kept (block_means g block)
  block-keeps g calls names in_main scope end l a o = gives-keeps Onward
  block-keeps g calls names in_main scope (on_line line first rest) l a o =
      keeps-on (statement-keeps g calls names in_main scope line first l.0 a (λ k i. (neither (statement_assigns (λ other. other == k) first) _ (o k i)).0))
      (block-keeps g calls names in_main (scope_after scope first) rest l.1 (spared-after scope first a) (λ k i. (neither (statement_assigns (λ other. other == k) first) _ (o k i)).1))

-- What a form asks of a memory, as an interaction tree, and what it means to perform a list of events along it.
use Rattle.std.specs.Prelude.{◌≡◌, ℕ, Bool, true, false, if◌then◌else◌, ◌==◌, nat_le, ◌&&◌, List, [], ◌∷◌, Option, Some, None, Result, Ok, Err, ℤ}
use Rattle.std.specs.Ordering.{int_eq}
use Rattle.spf_ast.specs.declared.outcome.Trap.{Trap}
use Rattle.spf_ast.specs.Event.{Event, Load, Store, Turn, word_at}

-- An interaction tree: an answer, or what is asked of the memory next, with what follows. After a load that is a tree for each word that the memory may give.
pub data Interaction (A : Type 0) : Type 0 where
  Answer : A → Interaction A
  AskLoad : ℕ → (ℤ → Interaction A) → Interaction A
  AskStore : ℕ → ℤ → Interaction A → Interaction A
  AskTurn : Interaction A → Interaction A

-- goes on from the answer
abbrev pub bind : {A B : Type 0} → Interaction A → (A → Interaction B) → Interaction B
bind (Answer a) next = next a
bind (AskLoad cell given) next = AskLoad cell (λ word. bind (given word) next)
bind (AskStore cell word then_) next = AskStore cell word (bind then_ next)
bind (AskTurn then_) next = AskTurn (bind then_ next)

-- ---- performing events

-- what a performance came to: its answer or the number of the turn at which it was stopped, with the rest of the list; or the list didn't fit
pub data Performed (A : Type 0) : Type 0 where
  Ended : A → List Event → Performed A
  Stopped : ℕ → List Event → Performed A
  Misfit : Performed A

-- the list was read to its end
abbrev pub HasReadAll : {A : Type 0} → Performed A → Type 0
HasReadAll (Ended answer rest) = rest ≡ []
HasReadAll (Stopped number rest) = rest ≡ []
HasReadAll Misfit = ⊥

-- the next event is a Load of this cell
abbrev pub take_load : {A : Type 0} → ℕ → (ℤ → List Event → Performed A) → List Event → Performed A
take_load cell go_on [] = Misfit
take_load cell go_on (Load at word ∷ rest) = if cell == at then go_on word rest else Misfit
take_load cell go_on (Store at word ∷ rest) = Misfit
take_load cell go_on (Turn number ∷ rest) = Misfit

-- the next event is a Store of this word to this cell
abbrev pub take_store : {A : Type 0} → ℕ → ℤ → (List Event → Performed A) → List Event → Performed A
take_store cell stored go_on [] = Misfit
take_store cell stored go_on (Load at word ∷ rest) = Misfit
take_store cell stored go_on (Store at word ∷ rest) = if (cell == at) && int_eq stored word then go_on rest else Misfit
take_store cell stored go_on (Turn number ∷ rest) = Misfit

-- a turn's number stops a performance where it is at least `stop`; where `stop` is absent none does
abbrev pub reaches : Option ℕ → ℕ → Bool
reaches None number = false
reaches (Some stop) number = nat_le stop number

-- the next event is a Turn, which may stop the performance
abbrev pub take_turn : {A : Type 0} → Option ℕ → (List Event → Performed A) → List Event → Performed A
take_turn stop go_on [] = Misfit
take_turn stop go_on (Load at word ∷ rest) = Misfit
take_turn stop go_on (Store at word ∷ rest) = Misfit
take_turn stop go_on (Turn number ∷ rest) = if reaches stop number then Stopped number rest else go_on rest

-- Performs a tree: reads the events from the front as they are asked for. A load of a cell that isn't shared reads no event and takes the word of the memory.
abbrev pub perform : {A : Type 0} → (ℕ → Bool) → List ℤ → Option ℕ → Interaction A → List Event → Performed A
perform shared memory stop (Answer a) events = Ended a events
perform shared memory stop (AskLoad cell given) events =
    if shared cell then take_load cell (λ word rest. perform shared memory stop (given word) rest) events
    else perform shared memory stop (given (word_at memory cell)) events
perform shared memory stop (AskStore cell word then_) events =
    take_store cell word (λ rest. perform shared memory stop then_ rest) events
perform shared memory stop (AskTurn then_) events =
    take_turn stop (λ rest. perform shared memory stop then_ rest) events

-- all cells are shared
abbrev pub every_cell : ℕ → Bool
every_cell cell = true

-- no cell is shared
abbrev pub no_cell : ℕ → Bool
no_cell cell = false

-- ---- forms with a state

-- the words in the slots, and the bytes of the output so far
pub record State : Type 0 where
  pub slots : List ℤ
  pub output : List ℕ

-- how a statement that doesn't trap is left: the next one follows, or a `break` ends the innermost loop
pub data Flow : Type 0 where
  Onward : Flow
  Broken : Flow

-- how a form ends: with a value and the state after it, or with a trap and the output so far
pub data Ending (A : Type 0) : Type 0 where
  Value : A → State → Ending A
  Trapped : Trap → List ℕ → Ending A

-- what an ending comes to, without its state: the value, or the trap
abbrev pub result_of : {A : Type 0} → Ending A → Result A Trap
result_of (Value a state) = Ok a
result_of (Trapped trap output) = Err trap

-- the meaning of a form that gives a value: what it asks, and how it ends, from each state
abbrev pub Meaning : Type 0 → Type 0
Meaning A = State → Interaction (Ending A)

-- after a value the next form goes on; a trap ends both
abbrev pub after_ending : {A B : Type 0} → (A → Meaning B) → Ending A → Interaction (Ending B)
after_ending next (Value a state) = next a state
after_ending next (Trapped trap output) = Answer (Trapped trap output)

-- one form, and then another that is given the first one's value
infixl 10 ◌>>=◌
abbrev pub ◌>>=◌ : {A B : Type 0} → Meaning A → (A → Meaning B) → Meaning B
◌>>=◌ first next state = bind (first state) (after_ending next)

-- one form, and then another
infixl 10 ◌>>◌
abbrev pub ◌>>◌ : {A B : Type 0} → Meaning A → Meaning B → Meaning B
first >> next = first >>= λ _. next

-- what follows a statement: the next ones, unless it broke off
abbrev pub unless_broken : Meaning Flow → Flow → Meaning Flow
unless_broken next Onward = next
unless_broken next Broken = λ state. Answer (Value Broken state)

-- one statement, and then the next ones, unless it broke off
infixr 10 ◌>->◌
abbrev pub ◌>->◌ : Meaning Flow → Meaning Flow → Meaning Flow
first >-> next = first >>= unless_broken next

-- what follows the body of a loop: its other turns, unless it broke off; the loop is done then
abbrev pub unless_ended : Meaning Flow → Flow → Meaning Flow
unless_ended others Onward = others
unless_ended others Broken = λ state. Answer (Value Onward state)

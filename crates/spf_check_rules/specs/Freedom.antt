-- Rollback freedom: that a run from a wrong guess leaves nothing that has to be undone.
use Rattle.std.specs.Prelude.{◌≡◌, ◌≢◌, ℕ, true, false, List, [], ◌∷◌, ◌++◌, length, slice_index_or, slice_get, Some, ℤ, pos}
use Rattle.std.specs.List.{Contains}
use Rattle.spf_ast.specs.Carried.{Carried}
use Rattle.spf_ast.specs.declared.outcome.Trap.{Trap}
use Rattle.spf_ast.specs.declared.syntax.Part.{Part}
use Rattle.spf_ast.specs.declared.syntax.Part.TheVariants.{Body, Producer, Consumer, Predictor}
use Rattle.spf_ast.specs.Event.{Event, Load, Store}
use Rattle.spf_ast.specs.Interaction.{State, Performed, Ended, Ending, Value, Trapped}
use Rattle.spf_ast.specs.Syntax.{Program}
use Rattle.spf_ast.specs.Lawful.{IsLawful}
use Rattle.spf_ast.specs.Construct.{Construct, constructs_in, fold, pair}
use Rattle.spf_ast.specs.Program.{extents_of}
use Rattle.spf_region.specs.Cells.{in_extent, cells_at}
use Rattle.spf_ast.specs.Slots.{part_declares}
use Rattle.spf_ast.specs.BlockRun.{Setup}
use Rattle.spf_check_rules.specs.Performances.{IsPerformance, HasStore}
use Rattle.spf_check_rules.specs.Rules.{guessed_part, may_write, IsWritten, KeepsTheRules}

-- the cells of a part's spans at a block, for an input of this length: those of all that the part may write there
abbrev pub IsOwn : Program → Construct → Part → (len : ℕ) → (block : ℤ) → ℕ → Type 0
IsOwn p construct part len block cell = cells_at (extents_of p len) block (may_write p construct part) cell ≡ true

-- a cell of an array that the construct writes
pub record IsWrittenCell (p : Program) (construct : Construct) (len cell : ℕ) : Type 0 where
  pub array : ℕ
  pub written : IsWritten p construct array
  pub inside : in_extent (slice_index_or (extents_of p len) array (0, 0)) cell ≡ true

-- no cell is in the spans of two blocks
abbrev pub HaveDisjointSpans : Program → Construct → Type 0
HaveDisjointSpans p (fold line head body) =
    (len : ℕ) (k j : ℤ) (cell : ℕ) → k ≢ j → IsOwn p (fold line head body) Body len k cell → IsOwn p (fold line head body) Body len j cell → ⊥
HaveDisjointSpans p (pair line head producer consumer) =
    (len : ℕ) (k j : ℤ) (cell : ℕ) → IsOwn p (pair line head producer consumer) Producer len k cell
    → IsOwn p (pair line head producer consumer) Consumer len j cell → ⊥

-- the output and the slots that are declared outside of the part are as they were
pub record LeavesTheRest (construct : Construct) (part : Part) (s : Setup) (state : State) : Type 0 where
  pub output : state.output ≡ s.output
  pub slots : (slot : ℕ) → part_declares construct part slot ≡ false → slice_index_or state.slots slot (pos 0) ≡ slice_index_or s.slots slot (pos 0)

-- this holds for each performance of a part, from every setup, whatever the loads answer and wherever it is stopped
abbrev pub Always : Program → Construct → Part → (Setup → List Event → Type 0) → Type 0
Always p construct part holds =
    (s : Setup) (events : List Event) (result : Performed (Ending Carried)) → IsPerformance p construct part s events result → holds s events

-- this holds for each that ends with a row, in this state
abbrev pub WhereItGives : Program → Construct → Part → (Setup → List Event → State → Type 0) → Type 0
WhereItGives p construct part holds =
    (s : Setup) (events : List Event) (row : Carried) (state : State) → IsPerformance p construct part s events (Ended (Value row state) []) → holds s events state

-- this holds for the output of each that traps
abbrev pub WhereItTraps : Program → Construct → Part → (Setup → List ℕ → Type 0) → Type 0
WhereItTraps p construct part holds =
    (s : Setup) (events : List Event) (trap : Trap) (output : List ℕ) → IsPerformance p construct part s events (Ended (Trapped trap output) []) → holds s output

-- a top construct is rollback free
pub record IsRollbackFree (p : Program) (construct : Construct) : Type 0 where
  -- a part stores only cells of its block's spans
  pub stores_its_own : (part : Part) → Always p construct part (λ s events.
      (cell : ℕ) (word : ℤ) → Contains events (Store cell word) → IsOwn p construct part (length s.input) s.number cell)
  -- the guessed part loads a cell of a written array only after it has stored the cell
  pub loads_what_it_stored : Always p construct (guessed_part construct) (λ s events.
      (before later : List Event) (cell : ℕ) (word : ℤ) → events ≡ before ++ Load cell word ∷ later
      → IsWrittenCell p construct (length s.input) cell → HasStore before cell)
  -- a producer never loads a cell of the consumer's spans
  pub producer_loads_apart : Always p construct Producer (λ s events.
      (block : ℤ) (cell : ℕ) (word : ℤ) → Contains events (Load cell word) → IsOwn p construct Consumer (length s.input) block cell → ⊥)
  -- a guessed part that ends with a row has stored every cell of its spans
  pub stores_all : WhereItGives p construct (guessed_part construct) (λ s events state.
      (cell : ℕ) → IsOwn p construct (guessed_part construct) (length s.input) s.number cell → HasStore events cell)
  -- the spans of two blocks share no cell
  pub spans_are_disjoint : HaveDisjointSpans p construct
  -- a predictor stores nothing, and loads no cell of a written array
  pub predictor_stores_nothing : Always p construct Predictor (λ s events.
      (cell : ℕ) (word : ℤ) → Contains events (Store cell word) → ⊥)
  pub predictor_loads_apart : Always p construct Predictor (λ s events.
      (cell : ℕ) (word : ℤ) → Contains events (Load cell word) → IsWrittenCell p construct (length s.input) cell → ⊥)
  -- a part leaves the output and all slots declared outside of it as they were
  pub leaves_the_rest : (part : Part) → WhereItGives p construct part (λ s events state. LeavesTheRest construct part s state)
  pub leaves_the_output : (part : Part) → WhereItTraps p construct part (λ s output. output ≡ s.output)

-- a top construct of a lawful program that keeps the rules is rollback free
abbrev pub TheRulesSetFree : Type 0
TheRulesSetFree =
    (p : Program) (n : ℕ) (construct : Construct) → IsLawful p → slice_get (constructs_in p.main) n ≡ Some construct
    → KeepsTheRules p construct → IsRollbackFree p construct

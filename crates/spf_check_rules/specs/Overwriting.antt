-- The overwrite law: what a block finds in the arrays that its construct writes doesn't matter.
use Rattle.std.specs.Prelude.{◌≡◌, ℕ, List, length, ℤ}
use Rattle.spf_ast.specs.Carried.{Carried}
use Rattle.spf_ast.specs.Event.{word_at}
use Rattle.spf_ast.specs.Interaction.{Interaction, Ending, State, Value}
use Rattle.spf_ast.specs.Syntax.{Program}
use Rattle.spf_ast.specs.Construct.{Construct}
use Rattle.spf_ast.specs.Plain.{plain_events, plain_answer, plain_memory}
use Rattle.spf_ast.specs.BlockRun.{Setup, IsSetup, part_asks}
use Rattle.spf_check_rules.specs.Rules.{guessed_part}
use Rattle.spf_check_rules.specs.Freedom.{IsOwn, IsWrittenCell, IsRollbackFree}

-- two memories with equally many cells, and the same words in all cells that no written array has
pub record AgreeOnUnwritten (p : Program) (construct : Construct) (len : ℕ) (one other : List ℤ) : Type 0 where
  pub cells : length one ≡ length other
  pub words : (cell : ℕ) → (IsWrittenCell p construct len cell → ⊥) → word_at one cell ≡ word_at other cell

-- what the guessed part of a construct asks of the memory
abbrev pub guessed_asks : Program → Construct → Setup → Interaction (Ending Carried)
guessed_asks p construct s = part_asks p construct (guessed_part construct) s

-- a run of the guessed part on either memory has the same events, the same answer and, where it ends with a value, the same words in the cells of its spans
pub record IsTheSameOn (p : Program) (construct : Construct) (s : Setup) (one other : List ℤ) : Type 0 where
  pub events : plain_events (guessed_asks p construct s) one ≡ plain_events (guessed_asks p construct s) other
  pub answer : plain_answer (guessed_asks p construct s) one ≡ plain_answer (guessed_asks p construct s) other
  pub contents : (value : Carried) (state : State) (cell : ℕ)
      → plain_answer (guessed_asks p construct s) one ≡ Value value state
      → IsOwn p construct (guessed_part construct) (length s.input) s.number cell
      → word_at (plain_memory (guessed_asks p construct s) one) cell
      ≡ word_at (plain_memory (guessed_asks p construct s) other) cell

-- so is every block of a rollback free fold, and the consumer of a rollback free pair
abbrev pub BlocksOverwrite : Type 0
BlocksOverwrite =
    (p : Program) (construct : Construct) (s : Setup) (one other : List ℤ) → IsRollbackFree p construct → IsSetup p s
    → AgreeOnUnwritten p construct (length s.input) one other → IsTheSameOn p construct s one other

-- The entry of a top construct, and its blocks.
use Rattle.std.specs.Prelude.{◌≡◌, ◌<◌, ◌≤◌, ℕ, zero, suc, Bool, List, length, ℤ, pos, ◌+ℤ◌}
use Rattle.std.specs.List.{All}
use Rattle.spf_ast.specs.Carried.{Carried}
use Rattle.spf_ast.specs.Interaction.{Interaction, Ending}
use Rattle.spf_ast.specs.Syntax.{Program}
use Rattle.spf_ast.specs.Construct.{Construct, fold, pair, Header, part_of}
use Rattle.spf_ast.specs.Program.{environment_of, extents_of}
use Rattle.spf_ast.specs.BlockRun.{block_setup, part_asks}
use Rattle.spf_region.specs.Cells.{cells_at}
use Rattle.spf_check_rules.specs.Rules.{may_write}
use Rattle.spf_check_rules.specs.Freedom.{IsRollbackFree}
use Rattle.spf_ast_laws.specs.Chained.{Chained, chained}

-- the entry of a top construct, with its header done: the program and the input, and the slots and the memory at this moment
pub record Entry : Type 0 where
  pub program : Program
  pub construct : Construct
  pub input : List ℕ
  pub slots : List ℤ
  pub memory : List ℤ
  pub header : Header

-- a fold has any number of blocks; those of a pair are its producer and its consumer
abbrev pub HasItsBlocks : Construct → Header → Type 0
HasItsBlocks (fold line head body) header = Unit {0}
HasItsBlocks (pair line head producer consumer) header = header.blocks ≤ 2

-- the entry is one of a rollback free construct: the input is bytes, and `main` has its slots
pub record IsEntry (e : Entry) : Type 0 where
  pub free : IsRollbackFree e.program e.construct
  pub bytes : All (λ b. b < 256) e.input
  pub slots : length e.slots ≡ length e.program.slots
  pub blocks : HasItsBlocks e.construct e.header

-- the number of block n
abbrev pub number_of : Entry → ℕ → ℤ
number_of e n = e.header.low +ℤ pos n

-- the cells of block n's spans: those that its part may write
abbrev pub own : Entry → ℕ → ℕ → Bool
own e n cell = cells_at (extents_of e.program (length e.input)) (number_of e n) (may_write e.program e.construct (part_of e.construct n)) cell

-- what block n asks at a carried row
abbrev pub asks_at : Entry → ℕ → Carried → Interaction (Ending Carried)
asks_at e n v = part_asks e.program e.construct (part_of e.construct n) (block_setup e.input e.slots (number_of e n) v)

-- what the blocks come to, run plainly one after another from the entry
abbrev pub plain_blocks : Entry → Chained
plain_blocks e = chained (environment_of e.program e.input) e.construct e.slots 0 e.header.blocks e.header.low e.header.start e.memory

-- the row at which the first attempt of block n begins: that of block 0 is the start, that of any other its guess
abbrev pub begins_at : Entry → (ℕ → Carried) → ℕ → Carried
begins_at e guess zero = e.header.start
begins_at e guess (suc n) = guess (suc n)

-- What stands in a history, and that at most one answer is right.
use Rattle.std.specs.Prelude.{◌≡◌, ◌≤◌, ℕ, length, Some, slice_get}
use Rattle.spf_ast.specs.Carried.{Carried}
use Rattle.spf_speculation_entry.specs.Entry.{plain_blocks}
use Rattle.spf_speculation_entry.specs.Sites.{entry_at, guess_given}
use Rattle.spf_ticket.specs.declared.ticket.Report.{Report}
use Rattle.spf_chain.specs.declared.block.ChainBlock.{ChainBlock}
use Rattle.spf_chain.specs.Chains.{ChainValue, next_block, IsOut, NeedsRerun, WaitsFor, HasEnded}

-- block n is validated with the guess that was given for it, at its real row in the plain run
pub record IsValidated (c : ChainValue) (n : ℕ) (b : ChainBlock) : Type 0 where
  pub block : b.block ≡ n
  pub guess : b.guess ≡ guess_given c.site n
  pub real_value : slice_get (plain_blocks (entry_at c.site)).values n ≡ Some b.row

-- the history has the blocks from 0 on, each once and in order
abbrev pub IsHistory : ChainValue → Type 0
IsHistory c = (n : ℕ) (b : ChainBlock) → slice_get c.history n ≡ Some b → IsValidated c n b

-- there is a home for the report of each block; the validated blocks are some of them, and none of these is out
pub record HasItsHomes (c : ChainValue) : Type 0 where
  pub size : length c.homes ≡ c.site.blocks
  pub within : next_block c ≤ c.site.blocks
  pub out : (n : ℕ) → IsOut c n → next_block c ≤ n

-- no two of these are so: a rerun is needed, a block is waited for, the chain has ended; and one block is waited for at most
pub record AreExclusive (c : ChainValue) : Type 0 where
  pub rerun_or_waiting : (v : Carried) (r : Report) (b : ℕ) → NeedsRerun c v r → WaitsFor c b → ⊥
  pub rerun_or_ended : (v : Carried) (r : Report) → NeedsRerun c v r → HasEnded c → ⊥
  pub waiting_or_ended : (b : ℕ) → WaitsFor c b → HasEnded c → ⊥
  pub one_waiting : (b d : ℕ) → WaitsFor c b → WaitsFor c d → b ≡ d

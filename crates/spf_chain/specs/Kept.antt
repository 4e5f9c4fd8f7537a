-- What every chain keeps.
use Rattle.std.specs.Prelude.{◌≡◌, ℕ, ◌≤◌, true, [], length, Some, None, slice_get}
use Rattle.spf_ast.specs.Carried as carried
use Rattle.spf_cells.specs.Values.{CellsValue}
use Rattle.spf_chain.specs.declared.block.Settled.TheVariants.{Carried}
use Rattle.spf_chain.specs.declared.block.ChainBlock.{ChainBlock}
use Rattle.spf_speculation_entry.specs.Entry.{begins_at}
use Rattle.spf_chain.specs.declared.chain.Chain.TheInside.{Inside}
use Rattle.spf_speculation_entry.specs.declared.site.Site.{Site}
use Rattle.spf_speculation_entry.specs.Sites.{entry_at, guess_at, guess_given}
use Rattle.spf_chain.specs.Sites.{IsGround}
use Rattle.spf_chain.specs.Homes.{AreHomes}
use Rattle.spf_chain.specs.Standing.{IsValidationOf, history_of}
use Rattle.spf_chain.specs.Chains.{ChainValue}

-- what contracts see of a chain
abbrev pub chain_value : Inside → ChainValue
chain_value a = record {
  site = a.site.value;
  warden = a.warden;
  homes = a.homes.items;
  again = a.again;
  history = history_of a.validation;
  settled = a.validation.settled;
  reports = a.reports;
}

-- the cells of its warden
abbrev pub cells_inside : Inside → CellsValue
cells_inside a = record { table = a.warden.table; setting = a.warden.setting }

-- each block has its index and the guess that was given for it, and where it isn't validated the row of its first attempt
pub record IsListed (s : Site) (count n : ℕ) (b : ChainBlock) : Type 0 where
  pub block : b.block ≡ n
  pub guess : b.guess ≡ guess_given s n
  pub first : count ≤ n → b.row ≡ begins_at (entry_at s) (guess_at s) n

-- its cells are those of its site, no lane was taken over, the reports that are home are lawful, and blocks are
-- validated over them; a second attempt is out only where the next block has a real row and is out
pub record IsKept (a : Inside) : Type 0 where
  pub ground : IsGround a.site.value (cells_inside a)
  pub flags : length a.homes.items ≤ length a.warden.view.flags
  pub none_taken : a.warden.view.taken ≡ []
  pub room : (a.room.items ≡ []) × (length a.homes.items ≤ a.room.cap)
  pub size : length a.validation.blocks.items ≡ length a.homes.items
  pub within : a.validation.count ≤ length a.homes.items
  pub homes : AreHomes (entry_at a.site.value) (guess_at a.site.value) (cells_inside a) a.homes.items
  pub stands : IsValidationOf (entry_at a.site.value) (guess_at a.site.value) a.homes.items a.validation
  pub listed : (n : ℕ) (b : ChainBlock) → slice_get a.validation.blocks.items n ≡ Some b → IsListed a.site.value a.validation.count n b
  pub second : a.again ≡ true → (v : carried.Carried) × (a.validation.settled ≡ Carried v) × (slice_get a.homes.items a.validation.count ≡ Some None)

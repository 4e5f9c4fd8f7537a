-- What contracts see of a crew and of a mate's seat in it.
use Rattle.std.specs.Prelude.{◌≡◌, ℕ, Bool}
use Rattle.atomic_table.specs.Seated.{TableId}
use Rattle.spf_chain.specs.Chains.{ChainValue, chain_cells}
use Rattle.spf_crew.specs.declared.view.CrewSetting.{CrewSetting}

-- a crew: its table, and what is fixed for it
pub record CrewValue : Type 0 where
  pub table : TableId
  pub setting : CrewSetting

-- a seat: its table and what is fixed, its numbers, the sequence number that it saw last, and whether it has read 1 in the ending word
pub record ChainSeatValue : Type 0 where
  pub table : TableId
  pub setting : CrewSetting
  pub from : ℕ
  pub to : ℕ
  pub seen : ℕ
  pub read : Bool

-- the seat is of this crew
abbrev pub IsChainSeatOf : CrewValue → ChainSeatValue → Type 0
IsChainSeatOf c p = (p.table ≡ c.table) × (p.setting ≡ c.setting)

-- what is fixed for a crew of `mates` mates over this chain
abbrev pub setting_of : ChainValue → ℕ → CrewSetting
setting_of c mates = record { site = c.site; cells = chain_cells c; mates = mates }

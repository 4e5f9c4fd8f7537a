-- What a seat of the crew's table is between the steps of a turn.
use Rattle.std.specs.Prelude.{◌≡◌, ℕ, ◌<◌, Bool, [], ◌∷◌, Option}
use Rattle.atomic_table.specs.Table.{Me}
use Rattle.atomic_table.specs.Seated.{TableId}
use Rattle.spf_chain.specs.Chains.{ChainValue}
use Rattle.spf_crew.specs.declared.view.CrewSetting.{CrewSetting}
use Rattle.spf_crew.specs.declared.view.CrewView.{CrewView}
use Rattle.spf_crew.specs.Rule.{resting, holding}

-- the seat is of a crew's table, which has two words and one slot
abbrev pub IsSeatOf : TableId → TableId → Type 0
IsSeatOf table mine = (mine ≡ table) × (mine.words ≡ 2) × (mine.slots ≡ 1)

-- the seat has a number, and holds nothing
pub record Rests (k : CrewSetting) (m : Me (Option ChainValue) CrewView) : Type 0 where
  pub number : m.0.from < m.0.to
  pub view : m ≡ (resting k m.0.from m.0.to m.0.seen m.0.read, [])

-- the seat has a number, and holds the chain's slot
pub record HoldsNow (k : CrewSetting) (m : Me (Option ChainValue) CrewView) : Type 0 where
  pub number : m.0.from < m.0.to
  pub slot : Option ChainValue
  pub view : m ≡ (holding k m.0.from m.0.to m.0.seen m.0.announced m.0.read, (0, slot) ∷ [])

-- a seat that rested has taken the chain's slot, has seen n, and e says whether the end is announced
pub record HasTakenChain (n : ℕ) (e : Bool) (k : CrewSetting) (old new : Me (Option ChainValue) CrewView) : Type 0 where
  pub slot : Option ChainValue
  pub view : new ≡ (holding k old.0.from old.0.to n e old.0.read, (0, slot) ∷ [])

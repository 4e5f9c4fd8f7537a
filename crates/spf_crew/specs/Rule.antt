-- The rule of the crew's table, and what each step on it tells. Word 0 is the sequence word, word 1 the ending word; the one slot is for the chain.
use Rattle.std.specs.Prelude.{◌≡◌, ◌≢◌, ℕ, ◌+◌, ◌*◌, ◌/◌, ◌<◌, ◌≤◌, ◌==◌, Bool, true, false, [], ◌∷◌, length, slice_index, Option, Some, None}
use Rattle.spf_crew.specs.Limits.{last_sequence}
use mathlib.Core.Option.{some, none}
use lib.ListN.{get_elem?}
use Rattle.atomic_table.specs.Table.{State, Me, Step}
use Rattle.spf_chain.specs.Chains.{ChainValue, chain_cells}
use Rattle.spf_crew.specs.declared.view.CrewSetting.{CrewSetting}
use Rattle.spf_crew.specs.declared.view.CrewView.{CrewView}
use Rattle.spf_crew.specs.Endings.{has_ended}

-- the view of a mate that holds no chain: its numbers, the sequence number that it saw last, and whether it has read 1
abbrev pub resting : CrewSetting → ℕ → ℕ → ℕ → Bool → CrewView
resting k a b n r = record { setting = Some k; from = a; to = b; seen = n; holds = false; announced = false; read = r }

-- the view of a mate that holds the chain; e says whether the end is announced
abbrev pub holding : CrewSetting → ℕ → ℕ → ℕ → Bool → Bool → CrewView
holding k a b n e r = record { setting = Some k; from = a; to = b; seen = n; holds = true; announced = e; read = r }

-- the chain is of this crew: it has its site and its cells
pub record IsChainOf (k : CrewSetting) (c : ChainValue) : Type 0 where
  pub site : c.site ≡ k.site
  pub cells : chain_cells c ≡ k.cells

-- the chain in the slot: it is of this crew, was given `half` reports, and has ended where the ending word is 1
pub record IsAtHome (k : CrewSetting) (half ending : ℕ) (c : ChainValue) : Type 0 where
  pub of : IsChainOf k c
  pub reports : c.reports ≡ half
  pub ended : ending ≡ 1 → has_ended c ≡ true

-- the seat that has the chain out: it has a number, holds the chain, and knows the end as announced where the ending word is 1
pub record IsHolder (ending : ℕ) (v : CrewView) : Type 0 where
  pub number : v.from < v.to
  pub holds : v.holds ≡ true
  pub announced : ending ≡ 1 → v.announced ≡ true

-- what the view of the seat j says, where the sequence word is n and the ending word is x
pub record Knows (k : CrewSetting) (n x holder : ℕ) (owner : ℕ → ℕ) (j : ℕ) (v : CrewView) : Type 0 where
  pub setting : v.setting ≡ Some k
  -- its numbers are numbers of mates, and no other seat's
  pub within : v.to ≤ k.mates
  pub own : (m : ℕ) → v.from ≤ m → m < v.to → owner m ≡ j
  -- the sequence number only grows
  pub seen : v.seen ≤ n
  -- who holds the chain is the one that does, and knows the sequence number, which is odd
  pub holds : v.holds ≡ true → (holder ≡ j) × (v.seen ≡ n) × ((half : ℕ) × (n ≡ 2 * half + 1))
  -- who has read 1 knows the ending word
  pub read : v.read ≡ true → x ≡ 1

-- the rule, which holds at every moment
pub record IsCrewTable (k : CrewSetting) (s : State (Option ChainValue) CrewView) : Type 0 where
  -- the seat that has the chain, where it is out
  pub holder : ℕ
  -- each number of a mate is one seat's
  pub owner : ℕ → ℕ
  pub wide : length s.words ≡ 2
  pub last : slice_index s.words 0 ≤ last_sequence
  pub flag : slice_index s.words 1 ≤ 1
  -- where the sequence word is even, the chain is at home, and was given half as many reports
  pub home : (half : ℕ) → slice_index s.words 0 ≡ 2 * half → (c : ChainValue) × (s.homes ≡ some (Some c) ∷ []) × IsAtHome k half (slice_index s.words 1) c
  -- where it is odd, one seat holds the chain
  pub away : (half : ℕ) → slice_index s.words 0 ≡ 2 * half + 1
      → (s.homes ≡ none ∷ []) × ((v : CrewView) × (get_elem? s.views holder ≡ some v)
      × IsHolder (slice_index s.words 1) v)
  -- what a view with a number says holds
  pub seats : (j : ℕ) (v : CrewView) → get_elem? s.views j ≡ some v → v.from < v.to → Knows k (slice_index s.words 0) (slice_index s.words 1) holder owner j v

-- the view at the start: it has all numbers
abbrev pub first : CrewSetting → CrewView
first k = resting k 0 k.mates 0 false

-- how many reports were filed where the sequence number expected stands: half of the even number at or after n
abbrev pub half_of : ℕ → ℕ
half_of n = (n + 1) / 2

-- the even number at or after n
abbrev pub expected : ℕ → ℕ
expected n = 2 * half_of n

-- a try to take the chain: the seat took it, and the end counts as announced where the chain has ended; or it saw another number
abbrev pub IsTake : Step (Option ChainValue) → Me (Option ChainValue) CrewView → ℕ → Me (Option ChainValue) CrewView → Type 0
IsTake st m n m' =
    (n ≤ last_sequence)
    × (n ≡ st.first
    → (c : ChainValue) × (m' ≡ (
      record m.0 { seen = n + 1; holds = true; announced = has_ended c },
      (0, Some c) ∷ m.1,
    )) × (2 * c.reports ≡ n) × ((k : CrewSetting) → m.0.setting ≡ Some k → IsChainOf k c))
    × (n ≢ st.first → m' ≡ (record m.0 { seen = n }, m.1))

-- a look at the sequence number
abbrev pub IsLook : Step (Option ChainValue) → Me (Option ChainValue) CrewView → ℕ → Me (Option ChainValue) CrewView → Type 0
IsLook st m n m' = (n ≤ last_sequence) × (m' ≡ (record m.0 { seen = n }, m.1))

-- the end is announced: it counts as having read 1
abbrev pub IsAnnounce : Step (Option ChainValue) → Me (Option ChainValue) CrewView → ℕ → Me (Option ChainValue) CrewView → Type 0
IsAnnounce st m n m' = m' ≡ (record m.0 { announced = true; read = true }, m.1)

-- the chain is given back, and the sequence word is n
abbrev pub IsGive : Step (Option ChainValue) → Me (Option ChainValue) CrewView → ℕ → Me (Option ChainValue) CrewView → Type 0
IsGive st m n m' = m' ≡ (record m.0 { seen = n; holds = false; announced = false }, [])

-- the ending word is read; who has read 1 before reads 1 again
abbrev pub IsRead : Step (Option ChainValue) → Me (Option ChainValue) CrewView → ℕ → Me (Option ChainValue) CrewView → Type 0
IsRead st m n m' = (m' ≡ (record m.0 { read = n == 1 }, m.1)) × (m.0.read ≡ true → n ≡ 1)

-- the seat that is split, and the new mate, which gets the first number
abbrev pub after_enlisting : CrewView → CrewView
after_enlisting v = record v { from = v.from + 1 }

abbrev pub enlisted : CrewView → CrewView
enlisted v = record v { to = v.from + 1 }

-- the numbers of another mate, which follow, are taken over
abbrev pub after_dismissing : CrewView → CrewView → CrewView
after_dismissing v w = record v { to = w.to }

-- what is left of a mate: it has no number
abbrev pub spent_view : CrewView
spent_view = record { setting = None; from = 0; to = 0; seen = 0; holds = false; announced = false; read = false }

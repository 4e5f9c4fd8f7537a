-- The mates of a crew.
use Rattle.std.specs.Prelude.{◌≡◌, ℕ, zero, suc, ◌+◌, true, false, List, length, replicate, slice_index, slice_set}
use mathlib.Core.Option.{some}
use lib.ListN.{get_elem?}
use Rattle.spf_pool.specs.Hands.{HandValue}
use Rattle.spf_crew.specs.declared.view.CrewSetting.{CrewSetting}
use Rattle.spf_crew.specs.declared.held.Held.TheVariants as held
use Rattle.spf_crew.specs.Values.{CrewValue}
use Rattle.spf_crew.specs.Mates.{MateValue, IsMateOf}

-- the mate is of this crew, and has this number
pub record IsNumbered (c : CrewValue) (i : ℕ) (m : MateValue) : Type 0 where
  pub of : IsMateOf c m
  pub from : m.seat.from ≡ i
  pub to : m.seat.to ≡ i + 1

-- these are the first mates of this crew, in their order
abbrev pub AreFirstMates : CrewValue → List MateValue → Type 0
AreFirstMates c mates = (i : ℕ) (m : MateValue) → get_elem? mates i ≡ some m → IsNumbered c i m

-- each has read 1 in the ending word
abbrev pub HaveRead : List MateValue → Type 0
HaveRead mates = (i : ℕ) (m : MateValue) → get_elem? mates i ≡ some m → m.seat.read ≡ true

-- these are all mates of this crew, in their order
pub record AreAllMates (c : CrewValue) (mates : List MateValue) : Type 0 where
  pub each : AreFirstMates c mates
  pub count : length mates ≡ c.setting.mates

-- ---- when a crew is new

-- how many of these tickets are in the deque of the mate with this number: the first mate's has all
abbrev pub dealt : ℕ → ℕ → ℕ
dealt tickets zero = tickets
dealt tickets (suc i) = 0

-- `tickets` tickets may be given by the first of `workers` hands, and none by the others
abbrev pub capacities_for : ℕ → ℕ → List ℕ
capacities_for workers tickets = slice_set (replicate workers 0) 0 tickets

-- a hand of this crew whose own deque was given `tickets` tickets
pub record IsDealtTo (k : CrewSetting) (tickets : ℕ) (h : HandValue CrewSetting) : Type 0 where
  pub key : h.key ≡ k
  pub given : slice_index h.given h.own ≡ tickets

-- the hands of a new crew from this number on
abbrev pub AreDealt : CrewSetting → ℕ → ℕ → List (HandValue CrewSetting) → Type 0
AreDealt k tickets from hands = (i : ℕ) (h : HandValue CrewSetting) → get_elem? hands i ≡ some h → IsDealtTo k (dealt tickets (from + i)) h

-- a new mate: it holds nothing, has seen the sequence number 0, and not read 1; its own deque was given `tickets` tickets
pub record IsNewMate (tickets : ℕ) (m : MateValue) : Type 0 where
  pub held : m.held ≡ held.Nothing
  pub seen : m.seat.seen ≡ 0
  pub read : m.seat.read ≡ false
  pub given : slice_index m.hand.given m.hand.own ≡ tickets

-- the mates of a new crew: all tickets were given to the deque of the first one
abbrev pub AreNewMates : ℕ → List MateValue → Type 0
AreNewMates tickets mates = (i : ℕ) (m : MateValue) → get_elem? mates i ≡ some m → IsNewMate (dealt tickets i) m

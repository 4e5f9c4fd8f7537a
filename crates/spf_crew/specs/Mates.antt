-- What contracts see of a mate, and what a turn can be.
use Rattle.std.specs.Prelude.{◌≡◌, ◌≢◌, ◌⊎◌, ℕ, ◌+◌, true, false}
use Rattle.spf_crew.specs.Limits.{last_sequence}
use Rattle.spf_ticket.specs.declared.ticket.Ticket.{Ticket}
use Rattle.spf_ticket.specs.declared.ticket.Report.{Report}
use Rattle.spf_chain.specs.declared.chain.Filed.{Filed}
use Rattle.spf_pool.specs.Hands.{HandValue, LaterHand, SeenAllEmpty, SeenAllEmptyOrBusy, TookOne, TookNone}
use Rattle.spf_crew.specs.declared.view.CrewSetting.{CrewSetting}
use Rattle.spf_crew.specs.declared.held.Held.{Held}
use Rattle.spf_crew.specs.declared.held.Held.TheVariants as held
use Rattle.spf_crew.specs.declared.turn.Why.TheVariants.{ChainOut, Empty, Again}
use Rattle.spf_crew.specs.declared.turn.Turn.{Turn}
use Rattle.spf_crew.specs.declared.turn.Turn.TheVariants.{Worked, Idle, Ended}
use Rattle.spf_crew.specs.Rule.{expected, half_of}
use Rattle.spf_crew.specs.Values.{CrewValue, ChainSeatValue}
use Rattle.spf_crew.specs.Tickets.{IsFreshOf, IsLawfulOf, IsAttemptBy}
use Rattle.spf_crew.specs.Filing.{IsFiledAt, held_after, read_after}

-- its seat at the chain, what its hand has seen, and what it holds
pub record MateValue : Type 0 where
  pub seat : ChainSeatValue
  pub hand : HandValue CrewSetting
  pub held : Held

-- the seat of the numbers from this one on, of a new crew
abbrev pub new_seat : CrewValue → ℕ → ChainSeatValue
new_seat c from = record { table = c.table; setting = c.setting; from = from; to = c.setting.mates; seen = 0; read = false }

-- the mate is of this crew
abbrev pub IsMateOf : CrewValue → MateValue → Type 0
IsMateOf c m = (m.seat.table ≡ c.table) × (m.seat.setting ≡ c.setting)

-- what is held is a fresh ticket of this crew, or a lawful report of it
abbrev pub IsHeldBy : CrewSetting → Held → Type 0
IsHeldBy k held.Nothing = Unit {0}
IsHeldBy k (held.Ticket t) = IsFreshOf k t
IsHeldBy k (held.Report r) = IsLawfulOf k r

-- it filed the report that it held, at the sequence number expected, and holds the ticket to rerun, if there is one
pub record HasFiled (m m' : MateValue) : Type 0 where
  pub report : Report
  pub before : m.held ≡ held.Report report
  pub answer : Filed
  pub filed : IsFiledAt m.seat.setting (half_of m.seat.seen) report answer
  pub after : m' ≡ record m { seat = record m.seat { seen = expected m.seat.seen + 2; read = read_after answer m.seat.read }; held = held_after answer }

-- it ran the ticket that it held, and holds the report
pub record HasRerun (m m' : MateValue) : Type 0 where
  pub ticket : Ticket
  pub report : Report
  pub before : m.held ≡ held.Ticket ticket
  pub ran : IsAttemptBy m.seat.setting ticket report
  pub after : m' ≡ record m { held = held.Report report }

-- it held nothing, and the ending word wasn't 1; it took a ticket, ran it, and holds the report
pub record HasRun (m m' : MateValue) : Type 0 where
  pub ticket : Ticket
  pub report : Report
  pub before : m.held ≡ held.Nothing
  pub took : TookOne m.hand m'.hand
  pub hand : LaterHand m.hand m'.hand
  pub ran : IsAttemptBy m.seat.setting ticket report
  pub seat : m'.seat ≡ record m.seat { read = false }
  pub after : m'.held ≡ held.Report report

-- it has a report, which it keeps, and found this sequence number, which isn't the one expected, or is the last one
pub record IsKeptOut (seen : ℕ) (m m' : MateValue) : Type 0 where
  pub report : Report
  pub before : m.held ≡ held.Report report
  pub number : (seen ≡ last_sequence) ⊎ (seen ≢ expected m.seat.seen)
  pub after : m' ≡ record m { seat = record m.seat { seen = seen } }

-- it held nothing, the ending word wasn't 1, and its hand found no ticket, since P
pub record FindsNone (P : Type 0) (m m' : MateValue) : Type 0 where
  pub before : m.held ≡ held.Nothing
  pub why : P
  pub took : TookNone m.hand m'.hand
  pub hand : LaterHand m.hand m'.hand
  pub seat : m'.seat ≡ record m.seat { read = false }
  pub after : m'.held ≡ held.Nothing

-- it held nothing, and read 1 in the ending word
pub record HasEnded (m m' : MateValue) : Type 0 where
  pub before : m.held ≡ held.Nothing
  pub after : m' ≡ record m { seat = record m.seat { read = true } }

-- what a turn of a mate comes to
abbrev pub IsTurn : MateValue → Turn → MateValue → Type 0
IsTurn m Worked m' = HasFiled m m' ⊎ HasRerun m m' ⊎ HasRun m m'
IsTurn m (Idle (ChainOut seen)) m' = IsKeptOut seen m m'
IsTurn m (Idle Empty) m' = FindsNone (SeenAllEmpty m.hand m'.hand) m m'
IsTurn m (Idle Again) m' = FindsNone (SeenAllEmptyOrBusy m.hand m'.hand) m m'
IsTurn m Ended m' = HasEnded m m'

-- What a seat's type shows and keeps.
use Rattle.std.specs.Prelude.{◌≡◌, ◌<◌, ◌≤◌, []}
use Rattle.spf_crew.specs.Limits.{last_sequence}
use Rattle.spf_crew.specs.declared.seat.ChainSeat.TheInside.{Inside}
use Rattle.spf_crew.specs.Rule.{resting}
use Rattle.spf_crew.specs.Values.{ChainSeatValue}

-- what contracts see of a seat
abbrev pub chain_seat_value : Inside → ChainSeatValue
chain_seat_value a = record {
  table = a.table_seat.table_id;
  setting = a.key.value;
  from = a.table_seat.me.0.from;
  to = a.table_seat.me.0.to;
  seen = a.table_seat.me.0.seen;
  read = a.table_seat.me.0.read;
}

-- what every seat at the chain keeps: its seat at the table has a number and holds no chain, and the table has two words and one slot
pub record IsChainSeat (a : Inside) : Type 0 where
  pub table_seat : a.table_seat.me ≡ (resting a.key.value a.table_seat.me.0.from a.table_seat.me.0.to a.table_seat.me.0.seen a.table_seat.me.0.read, [])
  pub number : a.table_seat.me.0.from < a.table_seat.me.0.to
  pub seen : a.seen ≡ a.table_seat.me.0.seen
  pub last : a.seen ≤ last_sequence
  pub words : a.table_seat.table_id.words ≡ 2
  pub slots : a.table_seat.table_id.slots ≡ 1

-- Tickets and reports: which are fresh, which are lawful, and what the run of a ticket is.
use Rattle.std.specs.Prelude.{◌≡◌, ◌≢◌, ℕ, ◌<◌, List, [], ◌++◌, length, Some, slice_get}
use Rattle.spf_ast.specs.Carried.{Carried}
use Rattle.spf_ast.specs.Event.{Event}
use Rattle.spf_ast.specs.Interaction.{Performed, Ended, Stopped, State, Ending, Value, Trapped}
use Rattle.spf_ast.specs.Syntax.{Program}
use Rattle.spf_ast.specs.Construct.{Construct, part_of}
use Rattle.spf_ast.specs.ConstructView.{construct}
use Rattle.spf_ast_laws.specs.Agreement.{AgreeOutside}
use Rattle.spf_exec.specs.declared.stop.Stop.{Stop}
use Rattle.spf_exec.specs.declared.stop.Stop.TheVariants as stop
use Rattle.spf_exec_instance.specs.Frame.{frame_size, main_slots}
use Rattle.spf_exec_instance.specs.Instance.{program_of}
use Rattle.spf_cells.specs.Log.{events}
use Rattle.spf_cells.specs.Values.{CellsValue, IsLaneOf, IsSameLane}
use Rattle.spf_speculation_entry.specs.Entry.{Entry, number_of, plain_blocks, begins_at}
use Rattle.spf_speculation_entry.specs.Attempts.{attempted, IsAttempt}
use Rattle.spf_ticket.specs.declared.ticket.Ticket.{Ticket}
use Rattle.spf_ticket.specs.declared.ticket.Report.{Report}
use Rattle.spf_ticket.specs.declared.run.Job.{Job}

-- ---- where tickets are run

-- the job is that of the entry: its program, its input, its construct, and its memory
pub record IsJobOf (e : Entry) (job : Job) : Type 0 where
  pub program : program_of job.instance.now ≡ e.program
  pub input : job.instance.now.input ≡ e.input
  pub same_construct : construct job.construct ≡ e.construct
  pub memory : job.entry.now ≡ e.memory

-- The ticket is that of a block of the entry, with the block's lane of these cells. Its frame has the slots of the
-- entry, but for those that the block's part declares: in these is what the attempt before left, and no attempt
-- depends on it.
pub record IsTicketAt (e : Entry) (c : CellsValue) (t : Ticket) : Type 0 where
  pub low : t.block < e.header.blocks
  pub number : t.number ≡ number_of e t.block
  pub lane : IsLaneOf c t.lane
  pub frame : length t.frame ≡ frame_size e.program
  pub slots : AgreeOutside e.construct (part_of e.construct t.block) (main_slots e.program t.frame) e.slots

-- ---- what a run does

-- An attempt that came to this ended as the stop says: with this row, whatever is in the slots then; with this
-- trap; or at a turn that polled this number. Its log was read to the end, and it emitted nothing.
abbrev pub EndsAs : Performed (Ending Carried) → Stop → Type 0
EndsAs came (stop.Ended value) = (state : State) × (came ≡ Ended (Value value state) []) × (state.output ≡ [])
EndsAs came (stop.Trapped trap) = came ≡ Ended (Trapped trap []) []
EndsAs came (stop.Cancelled seen) = came ≡ Stopped seen []

-- the same ticket, but for its lane's log, and for the frame's slots that the block's part declares and those of calls
pub record IsSameTicket (p : Program) (k : Construct) (before after : Ticket) : Type 0 where
  pub block : after.block ≡ before.block
  pub number : after.number ≡ before.number
  pub attempt : after.attempt ≡ before.attempt
  pub carried : after.carried ≡ before.carried
  pub lane : IsSameLane before.lane after.lane
  pub size : length after.frame ≡ length before.frame
  pub slots : AgreeOutside k (part_of k before.block) (main_slots p after.frame) (main_slots p before.frame)

-- The ticket made its attempt, of its block, at its carried row and with its number: its lane's log went on with
-- the attempt's log, and the report's stop is what the attempt came to.
pub record Ran (e : Entry) (t : Ticket) (r : Report) : Type 0 where
  pub log : List Event
  pub grown : events r.ticket.lane.log ≡ events t.lane.log ++ log
  pub stopped : EndsAs (attempted e t.block t.carried t.attempt log) r.stop

-- ---- fresh and lawful

-- An attempt of block n with this number, at this carried row, can be made over a lane with this log. A first one
-- begins at the block's guess, block 0 at the start row, over an empty log. A second one begins at the real row,
-- which isn't the row of the first one, over the log of the first one.
pub data CanBeAttempted (e : Entry) (guess : ℕ → Carried) (n attempt : ℕ) (carried : Carried) (before : List Event) : Type 0 where
  first : attempt ≡ 1 → carried ≡ begins_at e guess n → before ≡ [] → CanBeAttempted e guess n attempt carried before
  second : attempt ≡ 2 → begins_at e guess n ≢ carried → slice_get (plain_blocks e).values n ≡ Some carried
      → IsAttempt e n (begins_at e guess n) 1 before → CanBeAttempted e guess n attempt carried before

-- the ticket is fresh: its attempt can be made
pub record IsFresh (e : Entry) (guess : ℕ → Carried) (c : CellsValue) (t : Ticket) : Type 0 where
  pub at : IsTicketAt e c t
  pub ready : CanBeAttempted e guess t.block t.attempt t.carried (events t.lane.log)

-- the report is lawful: its ticket was fresh, the lane's log went on with the log of one attempt, at the ticket's
-- carried row and with its number, and the stop is what this attempt came to
pub record IsLawfulReport (e : Entry) (guess : ℕ → Carried) (c : CellsValue) (r : Report) : Type 0 where
  pub at : IsTicketAt e c r.ticket
  pub before : List Event
  pub log : List Event
  pub ready : CanBeAttempted e guess r.ticket.block r.ticket.attempt r.ticket.carried before
  pub grown : events r.ticket.lane.log ≡ before ++ log
  pub stopped : EndsAs (attempted e r.ticket.block r.ticket.carried r.ticket.attempt log) r.stop

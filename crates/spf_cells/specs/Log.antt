-- A lane's log, and the contents that it leads to.
use Rattle.std.specs.Prelude.{ℕ, ◌<◌, ◌≤◌, List, [], ◌∷◌, map, ℤ}
use Rattle.std.specs.List.{Contains}
use Rattle.spf_ast.specs.Event.{Event, after, word_at, IsConsistent}
use Rattle.spf_ast.specs.Event as event
use Rattle.spf_cells.specs.declared.view.Setting.{Setting}
use Rattle.spf_cells.specs.declared.view.LogEntry.{LogEntry}
use Rattle.spf_cells.specs.declared.view.LogEntry.TheVariants.{Load, Store, Turn}

-- the event that an entry of a log stands for
abbrev pub event_of : LogEntry → Event
event_of (Load cell word) = event.Load cell word
event_of (Store cell word) = event.Store cell word
event_of (Turn number) = event.Turn number

-- the events of a log, in order
abbrev pub events : List LogEntry → List Event
events log = map event_of log

-- the content of a cell after a log: its word in the entry, with the log's stores made
abbrev pub content : Setting → List LogEntry → ℕ → ℤ
content setting log cell = word_at (after (events log) setting.entry) cell

-- a flag of this block may be this number: 0 or 1, and above 0 only where the block may be raised
abbrev pub IsPossibleFlag : Setting → ℕ → ℕ → Type 0
IsPossibleFlag setting block number = (number ≤ 1) × (0 < number → Contains setting.raisable block)

-- where the entry is a turn, its number is a possible flag of this block
abbrev pub IsPossibleTurn : Setting → ℕ → LogEntry → Type 0
IsPossibleTurn setting block (Load cell word) = Unit {0}
IsPossibleTurn setting block (Store cell word) = Unit {0}
IsPossibleTurn setting block (Turn number) = IsPossibleFlag setting block number

-- each turn of the log has a possible flag of this block
abbrev pub ArePossibleTurns : Setting → ℕ → List LogEntry → Type 0
ArePossibleTurns setting block [] = Unit {0}
ArePossibleTurns setting block (entry ∷ log) = IsPossibleTurn setting block entry × ArePossibleTurns setting block log

-- what every lane's log keeps: each load gave the lane's own content, and each turn a possible flag of its block
pub record IsLogOf (setting : Setting) (block : ℕ) (log : List LogEntry) : Type 0 where
  pub consistent : IsConsistent (events log) setting.entry
  pub turns : ArePossibleTurns setting block log

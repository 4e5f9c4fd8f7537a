-- The bytes of a log of plain data.
use Rattle.std.specs.Prelude.{ℕ, List, map}
use Rattle.spf_ast.specs.Event.{Event, Load, Store, Turn}
use Rattle.spf_speculation.specs.Steps.{Step}
use Rattle.spf_replay_log.specs.declared.log.Event as logged_event
use Rattle.spf_replay_log.specs.declared.log.Event.TheVariants as event
use Rattle.spf_replay_log.specs.declared.log.Step as logged
use Rattle.spf_replay_log.specs.Log.{log_bytes}

-- an event as logs hold it
abbrev pub logged_event_of : Event → logged_event.Event
logged_event_of (Load cell word) = event.Load cell word
logged_event_of (Store cell word) = event.Store cell word
logged_event_of (Turn number) = event.Turn number

-- a step as logs hold it
abbrev pub logged_step : Step → logged.Step
logged_step step = record { block = step.block; event = logged_event_of step.event }

-- the bytes of a log, in the format SPL1
abbrev pub bytes_of : List (List Step) → List ℕ
bytes_of log = log_bytes (map (λ steps. map logged_step steps) log)

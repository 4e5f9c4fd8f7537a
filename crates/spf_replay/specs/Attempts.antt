-- How an attempt ends that is read from a log.
use Rattle.std.specs.Prelude.{◌≡◌, ◌≤◌, ℕ, List, map, drop, length, Option, Some, None}
use Rattle.spf_ast.specs.Carried.{Carried}
use Rattle.spf_ast.specs.Event.{Event}
use Rattle.spf_ast.specs.Interaction.{Performed, Ended, Stopped, Misfit, State, Ending, Value, Trapped}
use Rattle.spf_exec.specs.declared.stop.Stop.{Stop}
use Rattle.spf_exec.specs.declared.stop.Stop.TheVariants as stop
use Rattle.spf_replay_log.specs.declared.log.Event as logged
use Rattle.spf_replay.specs.Reading.{event_of}

-- a performance came to an end as the stop says, before these events
abbrev pub EndsBefore : Performed (Ending Carried) → Stop → List Event → Type 0
EndsBefore came (stop.Ended value) rest = (state : State) × (came ≡ Ended (Value value state) rest)
EndsBefore came (stop.Trapped trap) rest = (output : List ℕ) × (came ≡ Ended (Trapped trap output) rest)
EndsBefore came (stop.Cancelled seen) rest = came ≡ Stopped seen rest

-- a performance of a log came to this: the log doesn't fit, or it ended so, before what stands from this index on
abbrev pub ComesTo : Performed (Ending Carried) → List logged.Event → Option (Stop × ℕ) → Type 0
ComesTo came log None = came ≡ Misfit
ComesTo came log (Some end) = (end.1 ≤ length log) × EndsBefore came end.0 (map event_of (drop end.1 log))

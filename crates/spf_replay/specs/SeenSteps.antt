-- The steps of a section as plain data.
use Rattle.std.specs.Prelude.{ℕ, zero, suc, List, [], ◌∷◌, map}
use Rattle.std.specs.Global.{Vec}
use Rattle.spf_ast.specs.Event.{Event}
use Rattle.spf_speculation.specs.Steps.{Step}
use Rattle.spf_replay_log.specs.declared.log.Event as logged_event
use Rattle.spf_replay_log.specs.declared.log.Step as logged
use Rattle.spf_replay.specs.Reading.{event_of}

abbrev pub seen_step : logged.Step → Step
seen_step s = record { block = s.block; event = event_of s.event }

abbrev pub seen_steps : List logged.Step → List Step
seen_steps steps = map seen_step steps

-- the log at an index of a list of logs, as plain data; an empty one beyond its end
abbrev pub log_at : List (Vec logged_event.Event) → ℕ → List Event
log_at [] n = []
log_at (log ∷ logs) zero = map event_of log.items
log_at (log ∷ logs) (suc n) = log_at logs n

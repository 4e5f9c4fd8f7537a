use Rattle.std.proofs.Common.{map, sym, ap, ◌∙◌}
use Rattle.spf_replay.specs.Reading.{event_of}
use Rattle.spf_replay.proofs.Grouped.{log-index}
use Rattle.spf_replay.proofs.logs.log_in.Goals as goal

pub returns : goal.returns
returns c = ap (map event_of) c.deref.ensures.value ∙ ap (λ l. map event_of l.items) c.index-logs-n.is ∙ sym (log-index c.args.logs.now c.args.n c.index-logs-n.result c.requires)

use Rattle.std.proofs.Common.{rules, ◌≡◌, [], ◌∷◌, ◌++◌, map, sym, ap, ◌∙◌}
use Rattle.spf_replay.specs.Reading.{event_of}
use Rattle.spf_replay.proofs.Grouped.{log-added, log-index, one-more}
use Rattle.spf_replay.proofs.logs.push_event.Goals as goal

pub returns : goal.returns
returns c =
    let logs = c.args.logs.now.items in
    let x = c.index_mut.result.now in
    let pushed : c.push.new.self.items ≡ x.items ++ c.args.event ∷ [] = search rules in (
      search rules,
      λ n. log-added logs c.args.block n c.push.new.self (event_of c.args.event) c.requires
          (ap (map event_of) pushed ∙ one-more x.items [] c.args.event
          ∙ ap (λ l. map event_of l.items ++ event_of c.args.event ∷ []) c.index_mut.ensures.value ∙ ap (λ l. l ++ event_of c.args.event ∷ []) (sym (log-index logs c.args.block x c.requires))),
    )

use Rattle.std.proofs.Common.{◌∙◌, ap}
use Rattle.std.specs.Prelude.{if◌then◌else◌}
use Rattle.std.proofs.lemmas.Int.{to_z-of_z}
use mir.Syntax.{w64}
use Rattle.spf_cells.specs.declared.view.LogEntry.TheVariants.{Store}
use Rattle.spf_cells.specs.Values.{logged}
use Rattle.spf_ticket.proofs.Leading.{store-leads}
use Rattle.spf_ticket.proofs.memory.LaneMemoryMemory.store.Goals as goal

pub returns-clause-leads : goal.returns-clause-leads
returns-clause-leads c =
    let m = c.args.self.now in
    store-leads m.lane c.try_store.new.self m.entry.now m.attempt c.args.cell c.args.value c.try_store.result c.try_store.ensures.inside
    (c.try_store.ensures.log ∙ ap (λ w. if c.try_store.result then logged m.lane (Store c.args.cell w) else m.lane) (to_z-of_z w64 c.args.value c.ranges.value))

use Rattle.std.proofs.Common.{◌≡◌, true, ap, ◌∙◌, to_z, of_z, w64}
use Rattle.std.proofs.lemmas.Int.{to_z-of_z}
use Rattle.std.specs.Prelude.{if◌then◌else◌}
use Rattle.spf_cells.specs.declared.view.LogEntry.TheVariants.{Store}
use Rattle.spf_cells.specs.Values.{spans_of, logged}
use Rattle.spf_cells.proofs.Covering.{cover-spans}
use Rattle.spf_cells.proofs.lane.Lane.store.Goals as goal

stored : (c : goal.After-try_store) → c.try_store.result ≡ true
stored c = c.try_store.ensures.inside ∙ cover-spans (spans_of c.args.self.now) c.args.cell c.requires.inside

pub returns-clause-content : goal.returns-clause-content
returns-clause-content c = c.try_store.ensures.content (stored c) ∙ to_z-of_z w64 c.args.value c.ranges.value

pub returns-clause-log : goal.returns-clause-log
returns-clause-log c = c.try_store.ensures.log ∙ ap (λ b. if b then logged c.args.self.now (Store c.args.cell (to_z w64 (of_z w64 c.args.value))) else c.args.self.now) (stored c)
    ∙ ap (λ v. logged c.args.self.now (Store c.args.cell v)) (to_z-of_z w64 c.args.value c.ranges.value)

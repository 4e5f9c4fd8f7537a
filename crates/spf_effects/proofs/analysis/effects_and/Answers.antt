use Rattle.spf_ast.specs.View.{block, arguments}
use Rattle.spf_effects_findings.specs.Forms.{block_then_row}
use Rattle.spf_effects_walk.specs.Settings.{setting}
use Rattle.spf_effects.proofs.Gathering.{effects_are}
use Rattle.spf_effects.proofs.analysis.effects_and.Goals as goal

pub returns : goal.returns
returns c =
    effects_are c.gather.result (block_then_row (setting c.args.context.now) c.args.bounds.now (block c.args.statements.now) (arguments c.args.last.now)) (block c.args.statements.now) c.new-found.result c.block_and_row.new.found c.new-found.ensures (c.in_ok-block_and_row.ensures {u = tt}).finds c.gather.ensures

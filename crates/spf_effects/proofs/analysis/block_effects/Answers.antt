use Rattle.spf_ast.specs.View.{block}
use Rattle.spf_effects_findings.specs.Forms.{block_finds}
use Rattle.spf_effects_walk.specs.Settings.{setting}
use Rattle.spf_effects.proofs.Gathering.{effects_are}
use Rattle.spf_effects.proofs.analysis.block_effects.Goals as goal

pub returns : goal.returns
returns c =
    effects_are c.gather.result (block_finds (setting c.args.context.now) c.args.bounds.now (block c.args.statements.now)) (block c.args.statements.now) c.new-found.result c.block.new.found c.new-found.ensures (c.in_ok-block.ensures {u = tt}).finds c.gather.ensures

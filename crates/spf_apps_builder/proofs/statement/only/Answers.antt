use Rattle.std.proofs.Common.{ap}
use Rattle.spf_ast.specs.View.{block}
use Rattle.spf_apps_builder.proofs.statement.only.Goals as goal

pub returns : goal.returns
returns c = λ _ kind. c.on_line.ensures _ _ kind (ap block c.new.ensures.items)

use Rattle.std.proofs.Common.{ap}
use Rattle.spf_ast.specs.View.{block}
use Rattle.spf_apps_builder.proofs.statement.when.Goals as goal

pub returns : goal.returns
returns c = λ _ _ test body. c.choose.ensures _ _ _ test body (ap block c.new.ensures.items)

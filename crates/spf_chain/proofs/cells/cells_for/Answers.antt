use Rattle.std.proofs.Common.{ap}
use Rattle.std.proofs.lemmas.Result.{IfOk-weaker}
use Rattle.spf_cells.specs.declared.view.Setting.{Setting}
use Rattle.spf_chain.proofs.Mispredicted.{may-raise}
use Rattle.spf_chain.proofs.cells.cells_for.Goals as goal

pub returns-clause-raisable : goal.returns-clause-raisable
returns-clause-raisable c =
    IfOk-weaker c.make_of.result _ _ (λ r h. may-raise c.args.site.now.value r.0.setting (ap (λ (k : Setting). k.raisable) h)) c.make_of.ensures.setting

use Rattle.std.proofs.Common.{sym, ◌∙◌}
use Rattle.spf_guess.proofs.Named.{missing_here, missing_later, missing_not_here}
use Rattle.spf_guess.proofs.missing.first_missing_among.Goals as goal
use Rattle.spf_guess.proofs.missing.first_missing_among.Goals.{in-Some+in_default-first_missing_of, in_default}

pub returns-in-Some-first_missing_of : goal.returns-in-Some-first_missing_of
returns-in-Some-first_missing_of c =
    missing_here c.args.count c.args.main.now c.loop-statement.statement-index c.statement-item.result c.loop-statement-test.true c.statement-item.is
    _ c.in-Some.ensures _ c.predictors.ensures c.in-Some-first_missing_of.host (sym c.in-Some-first_missing_of.is ∙ c.first_missing_of.ensures)
    ∙ c.loop-statement.invariant.left

pub loop-statement-preserved : goal.loop-statement-preserved
loop-statement-preserved c =
    let count = c.args.count in
    let main = c.args.main.now in
    let i = c.loop-statement.statement-index in
    elim c.match-as_construct.branch [
      | in-Some+in_default-first_missing_of w ↦ record {
        left = missing_later count main i c.statement-item.result c.loop-statement-test.true c.statement-item.is
            _ w.in-Some.ensures _ w.predictors.ensures (sym w.first_missing_of.ensures ∙ w.in_default-first_missing_of.is)
            ∙ c.loop-statement.invariant.left;
      }
      | in_default w ↦ record {
        left = missing_not_here count main i c.statement-item.result c.loop-statement-test.true c.statement-item.is w.in_default.ensures ∙ c.loop-statement.invariant.left;
      }
    ]

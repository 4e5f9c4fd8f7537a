use Rattle.std.proofs.Common.{◌≡◌, drop, map}
use Rattle.spf_ast.specs.View.{predictor}
use Rattle.spf_guess.specs.Missing.{hosts_among, missing_among}
use Rattle.spf_guess.proofs.missing.first_missing_of.Given as goal

-- the host is named by the predictors that are left
abbrev pub invariant-loop-predictor : goal.invariant-loop-predictor
invariant-loop-predictor l = record {
  left : missing_among l.count (hosts_among (map predictor (drop l.predictor-index l.predictors))) ≡ missing_among l.count (hosts_among (map predictor l.predictors));
}

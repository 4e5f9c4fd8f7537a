use Rattle.spf_replay.proofs.Verdicts.{one-verdict, each-section, same-verdict}
use Rattle.spf_replay.proofs.verdict.verdicts_are_exact.Goals as goal

pub returns-clause-one : goal.returns-clause-one
returns-clause-one c expected log one other h g = one-verdict expected log one other h g

pub returns-clause-sections : goal.returns-clause-sections
returns-clause-sections c expected log h = each-section expected log h

pub returns-clause-alike : goal.returns-clause-alike
returns-clause-alike c one other log v same h = same-verdict one other log v same h

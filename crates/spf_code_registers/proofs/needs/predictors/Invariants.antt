use Rattle.std.proofs.Common.{ℕ}
use Rattle.spf_code_registers.specs.Counted.{IsTable}
use Rattle.spf_code_registers.proofs.Behind.{IsBehind, predictors_from}
use Rattle.spf_code_registers.proofs.needs.predictors.Given as goal

abbrev pub invariant-loop-part : goal.invariant-loop-part
invariant-loop-part l =
    (calls : ℕ → ℕ) → IsTable calls l.rooms → IsBehind 0 l.most (predictors_from calls l.predict l.part-index) (predictors_from calls l.predict 0)

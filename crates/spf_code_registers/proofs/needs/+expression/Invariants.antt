use Rattle.std.proofs.Common.{ℕ}
use Rattle.spf_code_registers.specs.Counted.{IsTable}
use Rattle.spf_code_registers.proofs.Behind.{IsBehind, arguments_from}
use Rattle.spf_code_registers.proofs.needs.+expression.Given as goal

abbrev pub invariant-arguments-loop-expr : goal.invariant-arguments-loop-expr
invariant-arguments-loop-expr l =
    (calls : ℕ → ℕ) → IsTable calls l.rooms → IsBehind l.held l.most (arguments_from calls l.given l.expr-index) (arguments_from calls l.given 0)

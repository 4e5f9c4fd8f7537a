use Rattle.std.proofs.Common.{ℕ}
use Rattle.spf_code_registers.specs.Counted.{IsTable}
use Rattle.spf_code_registers.proofs.Behind.{IsBehind, block_from}
use Rattle.spf_code_registers.proofs.needs.+statement.Given as goal

abbrev pub invariant-block-loop-stmt : goal.invariant-block-loop-stmt
invariant-block-loop-stmt l =
    (calls : ℕ → ℕ) → IsTable calls l.rooms → IsBehind 0 l.most (block_from calls l.statements l.stmt-index) (block_from calls l.statements 0)

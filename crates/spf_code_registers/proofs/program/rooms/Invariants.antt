use Rattle.spf_code_registers.proofs.Tables.{AreCounted}
use Rattle.spf_code_registers.proofs.program.rooms.Given as goal

abbrev pub invariant-loop-function : goal.invariant-loop-function
invariant-loop-function l = AreCounted l.functions l.rooms.items l.function-index

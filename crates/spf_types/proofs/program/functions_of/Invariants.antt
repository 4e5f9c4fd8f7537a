use Rattle.spf_types.proofs.Programs.{FunctionsBehind}
use Rattle.spf_types.proofs.program.functions_of.Given as goal

abbrev pub invariant-loop-index : goal.invariant-loop-index
invariant-loop-index l = FunctionsBehind l.globals l.raw l.functions.items l.index

use Rattle.spf_types.proofs.Programs.{ArraysBehind}
use Rattle.spf_types.proofs.program.new_arrays.Given as goal

abbrev pub invariant-loop-index : goal.invariant-loop-index
invariant-loop-index l = ArraysBehind l.raw l.index

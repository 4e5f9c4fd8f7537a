use Rattle.std.proofs.Common.{◌≡◌, take}
use Rattle.spf_engine_construct.specs.Guesses.{real_values}
use Rattle.spf_engine_construct.proofs.construct.real_rows.Given as goal

-- those of the blocks so far
abbrev pub invariant-loop-block : goal.invariant-loop-block
invariant-loop-block l = l.rows.items ≡ real_values (take l.block-index l.history)

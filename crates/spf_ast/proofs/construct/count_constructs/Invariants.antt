use Rattle.std.proofs.Common.{◌≡◌, ◌+◌, drop, length}
use Rattle.spf_ast.specs.View.{block}
use Rattle.spf_ast.specs.Construct.{constructs_in}
use Rattle.spf_ast.proofs.construct.count_constructs.Given as goal

-- the constructs that are left, and those that were counted, are all of them
abbrev pub invariant-loop-statement : goal.invariant-loop-statement
invariant-loop-statement l = record {
  counted : l.count + length (constructs_in (block (drop l.statement-index l.main))) ≡ length (constructs_in (block l.main));
}

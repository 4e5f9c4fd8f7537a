use Rattle.std.proofs.Common.{◌≡◌, ◌++◌, drop, map}
use Rattle.spf_ast.specs.View.{block}
use Rattle.spf_ast.specs.Construct.{constructs_in}
use Rattle.spf_ast.specs.ConstructView.{construct}
use Rattle.spf_ast.proofs.construct.constructs.Given as goal

-- the constructs that were found, and then those that are left, are all of them
abbrev pub invariant-loop-statement : goal.invariant-loop-statement
invariant-loop-statement l = record {
  all : map construct l.found.items ++ constructs_in (block (drop l.statement-index l.main)) ≡ constructs_in (block l.main);
}

use Rattle.std.proofs.Common.{◌≡◌, drop}
use Rattle.spf_ast.specs.View.{block}
use Rattle.spf_ast.specs.Construct.{constructs_in}
use Rattle.spf_guess.specs.Missing.{missing_host}
use Rattle.spf_guess.proofs.missing.first_missing_among.Given as goal

-- the host is named among the statements that are left
abbrev pub invariant-loop-statement : goal.invariant-loop-statement
invariant-loop-statement l = record {
  left : missing_host l.count (constructs_in (block (drop l.statement-index l.main))) ≡ missing_host l.count (constructs_in (block l.main));
}

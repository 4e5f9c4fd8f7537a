use Rattle.std.proofs.Common.{◌≡◌}
use Rattle.spf_exec.proofs.Prefixes.{IsPlainPrefix}
use Rattle.spf_exec.proofs.pieces.plain_prefix.Given as goal

-- no statement so far is a construct
abbrev pub invariant-loop-statement : goal.invariant-loop-statement
invariant-loop-statement l = record {
  count : l.count ≡ l.statement-index;
  plain : IsPlainPrefix l.statements l.statement-index;
}

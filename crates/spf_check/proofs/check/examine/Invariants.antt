use Rattle.std.proofs.Common.{◌≡◌, length}
use Rattle.spf_ast.specs.View.{program}
use Rattle.spf_check.specs.Verdicts.{AreWritesBefore}
use Rattle.spf_check.proofs.Examining.{KeptBefore}
use Rattle.spf_check.proofs.check.examine.Given as goal

-- the constructs before this one keep the rules, and this is what they may write
abbrev pub invariant-loop-construct : goal.invariant-loop-construct
invariant-loop-construct l = record {
  kept : KeptBefore (program l.program) l.construct-index;
  count : length l.writes.items ≡ l.construct-index;
  written : AreWritesBefore (program l.program) l.construct-index l.writes.items;
}

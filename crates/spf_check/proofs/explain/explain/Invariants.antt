use Rattle.std.proofs.Common.{take}
use Rattle.spf_ast.specs.View.{program}
use Rattle.spf_ast.specs.Construct.{constructs_in}
use Rattle.spf_check.specs.Text.{AreConstructTexts}
use Rattle.spf_check.proofs.explain.explain.Given as goal

-- the text has the lines of the constructs before this one
abbrev pub invariant-loop-construct : goal.invariant-loop-construct
invariant-loop-construct l = record {
  lines : AreConstructTexts (program l.program) (take l.construct-index (constructs_in (program l.program).main)) l.text.items;
}

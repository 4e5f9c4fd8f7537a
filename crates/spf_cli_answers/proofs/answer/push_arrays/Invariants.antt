use Rattle.std.proofs.Common.{◌≡◌, ◌++◌, drop, map}
use Rattle.spf_ast.specs.View.{array}
use Rattle.spf_cli_answers.specs.Message.{array_lines}
use Rattle.spf_cli_answers.specs.Answering.{lines_of}
use Rattle.spf_cli_answers.proofs.answer.push_arrays.Given as goal

-- the lines with what is left to add
abbrev pub invariant-loop-index : goal.invariant-loop-index
invariant-loop-index l =
    lines_of l.messages.items ++ array_lines l.len (map array (drop l.index l.arrays)) l.rest
    ≡ lines_of l.initial.messages.items ++ array_lines l.len (map array l.arrays) l.cells

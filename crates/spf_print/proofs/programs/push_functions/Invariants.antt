use Rattle.std.proofs.Common.{◌≡◌, ◌++◌, drop, map}
use Rattle.spf_ast.specs.View.{function, program}
use Rattle.spf_ast.specs.Spelling.{spelled_function}
use Rattle.spf_print_forms.specs.Canonical.{functions_text}
use Rattle.spf_print.proofs.programs.push_functions.Given as goal

-- the text with what is left to add
abbrev pub invariant-loop-function : goal.invariant-loop-function
invariant-loop-function l =
    l.text.items ++ functions_text (map (spelled_function (program l.program)) (map function (drop l.function-index l.functions)))
    ≡ l.initial.text.items ++ functions_text (map (spelled_function (program l.program)) (map function l.functions))

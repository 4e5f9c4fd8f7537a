use Rattle.std.proofs.Common.{◌≡◌, ◌++◌, drop}
use Rattle.spf_ast.specs.View.{arguments}
use Rattle.spf_ast.specs.Spelling.{spelled_arguments}
use Rattle.spf_print_forms.specs.Canonical.{further_arguments_text}
use Rattle.spf_print_forms.specs.Printing.{vocabulary_of}
use Rattle.spf_print_forms.proofs.expressions.+expression.Given as goal

-- the text with what is left to add
abbrev pub invariant-push_list-loop-other : goal.invariant-push_list-loop-other
invariant-push_list-loop-other l =
    l.text.items ++ further_arguments_text (spelled_arguments (vocabulary_of l.names) (arguments (drop l.other-index l.others)))
    ≡ l.initial.text.items ++ further_arguments_text (spelled_arguments (vocabulary_of l.names) (arguments l.others))

use Rattle.std.proofs.Common.{◌≡◌, ◌++◌, drop, map}
use Rattle.spf_ast.specs.View.{predictor}
use Rattle.spf_ast.specs.Spelling.{spelled_predictor}
use Rattle.spf_print_forms.specs.Canonical.{further_predictors_text}
use Rattle.spf_print_forms.specs.Printing.{vocabulary_of}
use Rattle.spf_print_forms.proofs.expressions.push_predictors.Given as goal

-- the text with what is left to add
abbrev pub invariant-loop-other : goal.invariant-loop-other
invariant-loop-other l =
    l.text.items ++ further_predictors_text (map (spelled_predictor (vocabulary_of l.names)) (map predictor (drop l.other-index l.others)))
    ≡ l.initial.text.items ++ further_predictors_text (map (spelled_predictor (vocabulary_of l.names)) (map predictor l.others))

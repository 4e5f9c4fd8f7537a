use Rattle.std.proofs.Common.{◌≡◌, ◌++◌, drop, map}
use Rattle.spf_ast.specs.View.{array}
use Rattle.spf_print_forms.specs.Canonical.{arrays_text}
use Rattle.spf_print.proofs.programs.push_arrays.Given as goal

-- the text with what is left to add
abbrev pub invariant-loop-array : goal.invariant-loop-array
invariant-loop-array l =
    l.text.items ++ arrays_text (map array (drop l.array-index l.arrays)) ≡ l.initial.text.items ++ arrays_text (map array l.arrays)

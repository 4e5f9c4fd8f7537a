use Rattle.std.proofs.Common.{◌≡◌, ◌++◌, drop, map}
use Rattle.spf_ast.specs.View.{name}
use Rattle.spf_ast.specs.Spelling.{name_at}
use Rattle.spf_print_forms.specs.Canonical.{further_names_text}
use Rattle.spf_print_forms.proofs.pieces.push_slots.Given as goal

-- the text with what is left to add
abbrev pub invariant-loop-other : goal.invariant-loop-other
invariant-loop-other l =
    l.text.items ++ further_names_text (map (name_at (map name l.names)) (drop l.other-index l.others))
    ≡ l.initial.text.items ++ further_names_text (map (name_at (map name l.names)) l.others)

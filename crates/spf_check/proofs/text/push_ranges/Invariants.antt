use Rattle.std.proofs.Common.{◌≡◌, ◌++◌, drop, map}
use Rattle.spf_ast.specs.View.{array}
use Rattle.spf_check.specs.Text.{ranges_text}
use Rattle.spf_check.proofs.text.push_ranges.Given as goal

-- the text with what is left to add
abbrev pub invariant-loop-range : goal.invariant-loop-range
invariant-loop-range l =
    l.text.items ++ ranges_text (map array l.arrays) (drop l.range-index l.ranges) ≡ l.initial.text.items ++ ranges_text (map array l.arrays) l.ranges

use Rattle.std.proofs.Common.{◌≡◌, ◌++◌, ◌≤◌}
use Rattle.spf_apps_formats.specs.Huffman.{bits}
use Rattle.spf_apps_formats.specs.Written.{written}
use Rattle.spf_apps_formats.proofs.bits.BitWriter.push_bits.Given as goal

abbrev pub invariant-loop-left : goal.invariant-loop-left
invariant-loop-left l = (written l.self ++ bits l.left l.number ≡ written l.fn.self ++ bits l.length l.number) × (l.left ≤ l.length)

abbrev pub decreases-loop-left : goal.decreases-loop-left
decreases-loop-left l = l.left

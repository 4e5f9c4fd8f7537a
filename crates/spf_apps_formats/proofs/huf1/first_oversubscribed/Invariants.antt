use Rattle.std.proofs.Common.{◌≡◌, ◌≤◌, ◌^◌, take}
use Rattle.spf_apps_formats.specs.Huffman.{space}
use Rattle.spf_apps_formats.proofs.huf1.first_oversubscribed.Given as goal

abbrev pub invariant-loop-symbol : goal.invariant-loop-symbol
invariant-loop-symbol l = (l.taken ≡ space (take l.symbol l.lengths)) × (l.taken ≤ 2 ^ 15)

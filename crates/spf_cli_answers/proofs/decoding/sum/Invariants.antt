use Rattle.std.proofs.Common.{◌≡◌, ◌≤◌, ◌*◌, take}
use Rattle.std.specs.List.{sum_by}
use Rattle.spf_cli_answers.proofs.decoding.sum.Given as goal

-- the bytes before this one are in the sum
abbrev pub invariant-loop-byte : goal.invariant-loop-byte
invariant-loop-byte l = (l.sum ≡ sum_by (λ byte. byte) (take l.byte-index l.bytes)) × (l.sum ≤ 255 * l.byte-index)

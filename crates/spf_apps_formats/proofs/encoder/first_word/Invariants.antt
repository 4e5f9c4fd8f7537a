use Rattle.std.proofs.Common.{◌≡◌, ◌+◌, ◌*◌, ◌^◌, ◌≤◌}
use Rattle.spf_apps_formats.specs.Huffman.{first_word}
use Rattle.spf_apps_formats.proofs.encoder.first_word.Given as goal

abbrev pub invariant-loop-shorter : goal.invariant-loop-shorter
invariant-loop-shorter l = (l.word ≡ first_word l.lengths l.shorter) × (l.word + 512 ≤ 512 * 2 ^ l.shorter)

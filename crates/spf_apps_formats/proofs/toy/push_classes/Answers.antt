use Rattle.std.proofs.Common.{arith, refl, ◌+◌}
use Rattle.std.proofs.lemmas.Grind.{common_steps}
use Rattle.std.proofs.lemmas.List.FromFn.{map-range_with_len_more}
use Rattle.spf_apps_formats.specs.Toy.{class_of}
use Rattle.spf_apps_formats.proofs.toy.push_classes.Goals as goal

pub loop-byte-preserved : goal.loop-byte-preserved
loop-byte-preserved c =
    grind (arith, common_steps, map-range_with_len_more class_of 0 c.loop-byte.byte (0 + c.loop-byte.byte) refl)

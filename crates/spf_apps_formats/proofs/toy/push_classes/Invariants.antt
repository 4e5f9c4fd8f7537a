use Rattle.std.proofs.Common.{◌≡◌, ◌++◌, map}
use Rattle.std.specs.List.{range_with_len}
use Rattle.spf_apps_formats.specs.Toy.{class_of}
use Rattle.spf_apps_formats.proofs.toy.push_classes.Given as goal

abbrev pub invariant-loop-byte : goal.invariant-loop-byte
invariant-loop-byte l = l.file.items ≡ l.fn.file.items ++ map class_of (range_with_len 0 l.byte)

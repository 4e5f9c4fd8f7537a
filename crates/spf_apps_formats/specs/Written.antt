-- What a writer of bits has written.
use Rattle.std.specs.Prelude.{Bool, List, ◌++◌}
use Rattle.spf_apps_formats.specs.declared.bits.BitWriter.{BitWriter}
use Rattle.spf_apps_formats.specs.Huffman.{bits, bits_of}

-- whole bytes, and the bits of the partial one
abbrev pub written : BitWriter → List Bool
written w = bits_of w.bytes.items ++ bits w.count w.partial

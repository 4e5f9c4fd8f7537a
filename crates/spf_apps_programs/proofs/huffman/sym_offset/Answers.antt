use Rattle.spf_apps_programs.proofs.huffman.sym_offset.Goals as goal

pub returns : goal.returns
returns c = c.binary.ensures _ _ (c.binary-byte.ensures _ _ c.bits_begin.ensures (c.binary-bytes.ensures _ _ c.number.ensures c.local.ensures)) c.local-2.ensures

use Rattle.spf_apps_programs.proofs.huffman.one_byte.Goals as goal

pub returns : goal.returns
returns c = c.only.ensures _ (c.when.ensures _ _ (c.compare-is_inside.ensures _ _ (c.binary-offset.ensures _ _ c.block_begin.ensures c.local.ensures) c.code_bytes.ensures) c.byte_bits.ensures)

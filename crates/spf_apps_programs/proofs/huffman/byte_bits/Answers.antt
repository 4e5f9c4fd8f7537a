use Rattle.spf_apps_programs.proofs.huffman.byte_bits.Goals as goal

pub returns : goal.returns
returns c = c.on_line.ensures _ _ (c.declare-read.ensures _ (c.input.ensures _ (c.binary-offset.ensures _ _ (c.binary-behind.ensures _ _ c.number.ensures c.block_begin.ensures) c.local.ensures))) (c.only.ensures _ (c.count-bits.ensures _ _ _ c.number-2.ensures c.number-3.ensures c.one_bit.ensures))

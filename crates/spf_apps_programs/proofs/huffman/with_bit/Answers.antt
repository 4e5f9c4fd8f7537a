use Rattle.spf_apps_programs.proofs.huffman.with_bit.Goals as goal

pub returns : goal.returns
returns c = c.binary.ensures _ _ (c.binary-moved.ensures _ _ c.local-3.ensures c.number-3.ensures) (c.binary-lowest.ensures _ _ (c.binary-shifted.ensures _ _ c.local-2.ensures (c.binary-distance.ensures _ _ c.number.ensures c.local.ensures)) c.number-2.ensures)

use Rattle.spf_apps_programs.proofs.huffman.body.Goals as goal

pub returns : goal.returns
returns c = c.on_line-2.ensures _ _ (c.fill-cleared.ensures _ _ _ c.bits_begin-low.ensures c.bits_end-high.ensures c.number.ensures) (c.on_line.ensures _ _ (c.declare-begun.ensures _ c.local.ensures) (c.only-bytes.ensures _ (c.count-bytes.ensures _ _ _ c.number-2.ensures c.number-3.ensures c.one_byte.ensures)))

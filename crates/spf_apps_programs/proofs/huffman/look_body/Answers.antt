use Rattle.spf_apps_programs.proofs.huffman.look_body.Goals as goal

pub returns : goal.returns
returns c = c.on_line.ensures _ _ (c.declare-begun.ensures _ c.number.ensures) (c.only.ensures _ (c.count-bytes.ensures _ _ _ (c.binary-low.ensures _ _ c.local.ensures c.number-2.ensures) c.local-2.ensures c.look_byte.ensures))

use Rattle.spf_apps_programs.proofs.huffman.bite_body.Goals as goal

pub returns : goal.returns
returns c = c.on_line.ensures _ _ (c.declare-begun.ensures _ c.local.ensures) (c.only.ensures _ (c.count-bits.ensures _ _ _ c.number.ensures c.number-2.ensures c.bite_bits.ensures))

use Rattle.spf_apps_programs.proofs.huffman.bits_end.Goals as goal

pub returns : goal.returns
returns c = c.binary.ensures _ _ c.bits_begin.ensures c.number.ensures

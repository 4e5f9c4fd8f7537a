use Rattle.spf_apps_programs.proofs.huffman.symbol_count.Goals as goal

pub returns : goal.returns
returns c = c.with_byte.ensures _ (c.with_byte-third.ensures _ (c.with_byte-second.ensures _ (c.input-first.ensures _ c.number.ensures)))

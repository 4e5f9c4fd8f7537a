use Rattle.spf_apps_programs.proofs.huffman.symbols_out.Goals as goal

pub returns : goal.returns
returns c = c.count.ensures _ _ _ c.number-2.ensures (c.binary-bits.ensures _ _ c.number.ensures c.code_bytes.ensures) c.symbol_out.ensures

use Rattle.spf_apps_programs.proofs.huffman.output.Goals as goal

pub returns : goal.returns
returns c = c.on_line-2.ensures _ _ (c.declare-wanted.ensures _ c.symbol_count.ensures) (c.on_line.ensures _ _ (c.declare-none.ensures _ c.number.ensures) (c.on_line-symbols.ensures _ _ c.symbols_out.ensures (c.only-short.ensures _ c.too_few.ensures)))

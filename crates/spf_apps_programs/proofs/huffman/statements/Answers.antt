use Rattle.spf_apps_programs.proofs.huffman.statements.Goals as goal

pub returns : goal.returns
returns c = c.on_line.ensures _ _ (c.declare-first.ensures _ c.number.ensures) (c.on_line-words.ensures _ _ c.table.ensures (c.on_line-decoded.ensures _ _ c.blocks-2.ensures c.output.ensures))

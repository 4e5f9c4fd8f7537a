use Rattle.spf_apps_programs.proofs.huffman.table.Goals as goal

pub returns : goal.returns
returns c = c.count.ensures _ _ _ c.number-4.ensures c.number-5.ensures (c.on_line-words.ensures _ _ (c.count-symbols.ensures _ _ _ c.number.ensures c.number-2.ensures c.table_entry.ensures) (c.only.ensures _ (c.assign-longer.ensures _ (c.binary.ensures _ _ c.local.ensures c.number-3.ensures))))

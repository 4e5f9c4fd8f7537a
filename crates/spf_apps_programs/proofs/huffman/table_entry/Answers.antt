use Rattle.spf_apps_programs.proofs.huffman.table_entry.Goals as goal

pub returns : goal.returns
returns c = c.only-2.ensures _ (c.when.ensures _ _ (c.compare-has_length.ensures _ _ (c.input.ensures _ (c.binary-offset.ensures _ _ c.number-4.ensures c.local-5.ensures)) c.local-6.ensures) (c.on_line-kept.ensures _ _ (c.store-entry.ensures _ _ (c.binary-index.ensures _ _ (c.binary-first.ensures _ _ c.number.ensures c.local.ensures) c.local-2.ensures) (c.binary-symbol.ensures _ _ c.local-3.ensures c.number-2.ensures)) (c.only.ensures _ (c.assign-next.ensures _ (c.binary.ensures _ _ c.local-4.ensures c.number-3.ensures)))))

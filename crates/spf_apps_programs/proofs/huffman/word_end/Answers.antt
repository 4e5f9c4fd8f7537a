use Rattle.spf_apps_programs.proofs.huffman.word_end.Goals as goal

pub returns : goal.returns
returns c = c.only-2.ensures _ (c.when.ensures _ _ c.is_whole.ensures (c.on_line-whole.ensures _ _ (c.store-kept.ensures _ _ c.sym_offset.ensures (c.load-found.ensures _ c.local.ensures)) (c.only.ensures _ (c.assign-again.ensures _ c.number.ensures))))

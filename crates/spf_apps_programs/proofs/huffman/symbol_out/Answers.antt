use Rattle.spf_apps_programs.proofs.huffman.symbol_out.Goals as goal

pub returns : goal.returns
returns c = c.only-2.ensures _ (c.when-2.ensures _ _ (c.compare-is_end.ensures _ _ (c.load-ends.ensures _ c.local-5.ensures) c.number-3.ensures) (c.only-choice.ensures _ (c.when.ensures _ _ (c.compare-is_wanted.ensures _ _ c.local-3.ensures c.local-4.ensures) (c.on_line-symbol.ensures _ _ (c.emit-written.ensures _ (c.binary.ensures _ _ (c.load-kept.ensures _ c.local.ensures) c.number.ensures)) (c.only.ensures _ (c.assign-more.ensures _ (c.binary-2.ensures _ _ c.local-2.ensures c.number-2.ensures)))))))

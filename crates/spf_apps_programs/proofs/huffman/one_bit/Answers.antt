use Rattle.spf_apps_programs.proofs.huffman.one_bit.Goals as goal

pub returns : goal.returns
returns c = c.only-2.ensures _ (c.when.ensures _ _ (c.compare-is_found.ensures _ _ c.local-2.ensures c.number-3.ensures) (c.on_line-step.ensures _ _ (c.assign-moved.ensures _ c.with_bit.ensures) (c.only.ensures _ (c.choose-checked.ensures _ _ _ (c.compare-is_lost.ensures _ _ c.local.ensures c.number.ensures) (c.only-lost.ensures _ (c.assign.ensures _ c.number-2.ensures)) c.word_end.ensures))))

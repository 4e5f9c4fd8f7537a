use Rattle.spf_apps_programs.proofs.packbits.header.Goals as goal

pub returns : goal.returns
returns c = c.on_line.ensures _ _ (c.when-copy.ensures _ _ (c.compare-is_copy.ensures _ _ c.local-2.ensures c.number-2.ensures) (c.only.ensures _ (c.assign.ensures _ (c.binary-copies.ensures _ _ c.local.ensures c.number.ensures)))) (c.only-3.ensures _ (c.when-repeat.ensures _ _ (c.compare-is_repeat.ensures _ _ c.local-4.ensures c.number-4.ensures) (c.only-2.ensures _ (c.assign-2.ensures _ (c.binary-repeats.ensures _ _ c.local-3.ensures c.number-3.ensures)))))

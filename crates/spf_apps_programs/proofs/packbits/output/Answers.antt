use Rattle.spf_apps_programs.proofs.packbits.output.Goals as goal

pub returns : goal.returns
returns c = c.count-2.ensures _ _ _ c.number-2.ensures c.length.ensures (c.only-repeated.ensures _ (c.count.ensures _ _ _ c.number.ensures (c.load-times.ensures _ c.local-2.ensures) (c.only-emitted.ensures _ (c.emit.ensures _ (c.input.ensures _ c.local.ensures)))))

use Rattle.spf_apps_programs.proofs.packbits.repeat_byte.Goals as goal

pub returns : goal.returns
returns c = c.on_line.ensures _ _ (c.store-often.ensures _ _ c.local-2.ensures (c.binary-times.ensures _ _ c.number.ensures c.local.ensures)) (c.only.ensures _ (c.assign.ensures _ c.number-2.ensures))

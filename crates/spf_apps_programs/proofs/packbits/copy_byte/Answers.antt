use Rattle.spf_apps_programs.proofs.packbits.copy_byte.Goals as goal

pub returns : goal.returns
returns c = c.on_line.ensures _ _ (c.store-once.ensures _ _ c.local.ensures c.number.ensures) (c.only.ensures _ (c.assign-fewer.ensures _ (c.binary.ensures _ _ c.local-2.ensures c.number-2.ensures)))

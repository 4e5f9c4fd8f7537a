use Rattle.spf_apps_programs.proofs.packbits.data_byte.Goals as goal

pub returns : goal.returns
returns c = c.only.ensures _ (c.choose.ensures _ _ _ (c.compare-is_copied.ensures _ _ c.local.ensures c.number.ensures) c.copy_byte.ensures c.repeat_byte.ensures)

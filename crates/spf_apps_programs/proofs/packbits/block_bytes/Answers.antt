use Rattle.spf_apps_programs.proofs.packbits.block_bytes.Goals as goal

pub returns : goal.returns
returns c = c.count.ensures _ _ _ c.block_begin.ensures c.block_end.ensures (c.only-byte.ensures _ (c.when.ensures _ _ (c.compare-is_inside.ensures _ _ c.local.ensures c.length.ensures) c.one_byte.ensures))

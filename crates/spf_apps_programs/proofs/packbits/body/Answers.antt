use Rattle.spf_apps_programs.proofs.packbits.body.Goals as goal

pub returns : goal.returns
returns c = c.on_line-2.ensures _ _ (c.fill-cleared.ensures _ _ _ c.block_begin.ensures c.block_end.ensures c.number.ensures) (c.on_line.ensures _ _ (c.declare-left.ensures _ c.local.ensures) (c.only-bytes.ensures _ c.block_bytes.ensures))

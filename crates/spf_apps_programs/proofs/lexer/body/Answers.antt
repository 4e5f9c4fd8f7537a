use Rattle.spf_apps_programs.proofs.lexer.body.Goals as goal

pub returns : goal.returns
returns c = c.on_line-2.ensures _ _ (c.fill-cleared.ensures _ _ _ c.block_begin-low.ensures c.block_end-high.ensures c.number.ensures) (c.on_line.ensures _ _ (c.declare-begun.ensures _ c.local.ensures) (c.only-bytes.ensures _ (c.count.ensures _ _ _ c.block_begin-low-2.ensures c.block_end-high-2.ensures c.one_byte.ensures)))

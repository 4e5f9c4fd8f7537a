use Rattle.spf_apps_programs.proofs.lexer.emit_offset.Goals as goal

pub returns : goal.returns
returns c = c.emit.ensures _ (c.binary.ensures _ _ (c.binary-shifted.ensures _ _ c.local.ensures c.number.ensures) c.number-2.ensures)

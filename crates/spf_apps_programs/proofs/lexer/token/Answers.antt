use Rattle.spf_apps_programs.proofs.lexer.token.Goals as goal

pub returns : goal.returns
returns c = c.on_line-2.ensures _ _ (c.emit-mark.ensures _ (c.load.ensures _ c.local.ensures)) (c.on_line.ensures _ _ (c.emit-highest.ensures _ (c.binary.ensures _ _ c.local-2.ensures c.number.ensures)) (c.on_line-bytes-2.ensures _ _ c.emit_offset-2.ensures (c.on_line-bytes.ensures _ _ c.emit_offset.ensures (c.only-bytes.ensures _ (c.emit-lowest.ensures _ (c.binary-2.ensures _ _ c.local-3.ensures c.number-2.ensures))))))

use Rattle.spf_apps_programs.proofs.lexer.entry_at.Goals as goal

pub returns : goal.returns
returns c = c.binary-2.ensures _ _ c.number-5.ensures (c.binary-offset.ensures _ _ c.number-4.ensures (c.binary-index.ensures _ _ (c.binary-row.ensures _ _ c.local-2.ensures c.number-3.ensures) (c.input-class.ensures _ (c.binary.ensures _ _ c.number-2.ensures (c.input-byte.ensures _ (c.binary-behind.ensures _ _ c.number.ensures c.local.ensures))))))

use Rattle.spf_apps_programs.proofs.lexer.step.Goals as goal

pub returns : goal.returns
returns c = c.on_line-2.ensures _ _ (c.declare-entry.ensures _ c.entry_at.ensures) (c.on_line.ensures _ _ (c.store-marked.ensures _ _ c.local-2.ensures (c.input-mark.ensures _ (c.binary.ensures _ _ c.local.ensures c.number.ensures))) (c.only-next.ensures _ (c.assign.ensures _ (c.input.ensures _ c.local-3.ensures))))

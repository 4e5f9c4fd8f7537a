use Rattle.spf_apps_programs.proofs.lexer.look_byte.Goals as goal

pub returns : goal.returns
returns c = c.only.ensures _ (c.when.ensures _ _ (c.compare-is_inside.ensures _ _ c.local.ensures c.number.ensures) (c.only-step.ensures _ (c.assign.ensures _ (c.input-next.ensures _ c.entry_at.ensures))))

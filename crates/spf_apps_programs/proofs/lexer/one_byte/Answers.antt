use Rattle.spf_apps_programs.proofs.lexer.one_byte.Goals as goal

pub returns : goal.returns
returns c = c.only.ensures _ (c.when.ensures _ _ (c.compare-is_inside.ensures _ _ c.local.ensures c.content.ensures) c.step.ensures)

use Rattle.spf_apps_programs.proofs.lexer.statements.Goals as goal

pub returns : goal.returns
returns c = c.on_line.ensures _ _ c.blocks-2.ensures (c.only-written.ensures _ c.output.ensures)

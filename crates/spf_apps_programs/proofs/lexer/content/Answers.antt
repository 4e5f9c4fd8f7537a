use Rattle.spf_apps_programs.proofs.lexer.content.Goals as goal

pub returns : goal.returns
returns c = c.binary.ensures _ _ c.length.ensures c.number.ensures

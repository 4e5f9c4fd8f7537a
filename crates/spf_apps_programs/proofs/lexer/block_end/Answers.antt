use Rattle.spf_apps_programs.proofs.lexer.block_end.Goals as goal

pub returns : goal.returns
returns c = c.binary.ensures _ _ c.block_begin.ensures c.number.ensures

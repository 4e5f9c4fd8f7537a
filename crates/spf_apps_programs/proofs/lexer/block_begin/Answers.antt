use Rattle.spf_apps_programs.proofs.lexer.block_begin.Goals as goal

pub returns : goal.returns
returns c = c.binary.ensures _ _ c.number.ensures c.local.ensures

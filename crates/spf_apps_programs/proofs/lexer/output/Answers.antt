use Rattle.spf_apps_programs.proofs.lexer.output.Goals as goal

pub returns : goal.returns
returns c = c.count.ensures _ _ _ c.number-2.ensures c.content.ensures (c.only-choice.ensures _ (c.when.ensures _ _ (c.compare-is_token.ensures _ _ (c.load-mark.ensures _ c.local.ensures) c.number.ensures) c.token.ensures))

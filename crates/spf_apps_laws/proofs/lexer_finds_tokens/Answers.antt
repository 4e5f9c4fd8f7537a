use Rattle.spf_apps_laws.proofs.LexWhole.{finds_tokens}
use Rattle.spf_apps_laws.proofs.lexer_finds_tokens.Goals as goal

pub returns : goal.returns
returns c = λ size states classes machine content lex1 f.
    finds_tokens size states classes machine content f.block lex1 f.machine_bytes f.content_bytes f.cells f.blocks

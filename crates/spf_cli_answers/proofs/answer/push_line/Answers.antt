use Rattle.std.proofs.Common.{◌++◌, ◌∷◌, [], ap, ◌∙◌}
use Rattle.spf_cli_answers.specs.Answering.{lines_of}
use Rattle.spf_cli_answers.proofs.Lines.{lines_of-push}
use Rattle.spf_cli_answers.proofs.answer.push_line.Goals as goal

pub returns : goal.returns
returns c =
    ap lines_of (c.in_ok-push.ensures {u = tt}).items
    ∙ lines_of-push c.args.messages.now.items c.into_bytes.result
    ∙ ap (λ v. lines_of c.args.messages.now.items ++ v.items ∷ []) c.into_bytes.ensures.value

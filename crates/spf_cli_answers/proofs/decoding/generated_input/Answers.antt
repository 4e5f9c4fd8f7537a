use Rattle.std.proofs.Common.{◌≡◌}
use Rattle.spf_cli_answers.specs.Following.{IsDemoInput}
use Rattle.spf_cli_answers.specs.Whole.{demo_input}
use Rattle.spf_cli_answers.proofs.Steps.{if_ok}
use Rattle.spf_cli_answers.proofs.decoding.generated_input.Goals as goal

pub returns : goal.returns
returns c =
    let file = c.in_ok-file.file.items in
    if_ok c.whole_input.result (λ input. input.items ≡ demo_input c.args.kind file) (λ input. IsDemoInput c.args.kind c.args.seed c.args.size input.items)
    (λ input e. (file, c.whole_input.ensures.bytes, c.in_ok-file.ensures, e)) c.whole_input.ensures.input

use Rattle.std.proofs.Common.{ap, ◌∙◌}
use Rattle.std.specs.Prelude.{Err}
use Rattle.spf_ast.specs.View.{program}
use Rattle.spf_ast.specs.RawView.{raw_program}
use Rattle.spf_cli_answers.proofs.Verdicts.{said_by_program, refused_by_resolver}
use Rattle.spf_cli_answers.proofs.reading.read_program.Goals as goal

pub returns-in-Ok-clause-program : goal.returns-in-Ok-clause-program
returns-in-Ok-clause-program c =
    let read = c.in_ok-raw.ensures {u = tt} in
    said_by_program c.args.text.now (raw_program c.in_ok-raw.raw) c.resolve.result c.in-Ok.program (program c.in-Ok.program) read.program read.faultless c.in-Ok.is c.in-Ok.ensures.program c.in-Ok.ensures.only c.resolve.ensures.refused_exactly

pub returns-in-Err-Refused-clause-unread : goal.returns-in-Err-Refused-clause-unread
returns-in-Err-Refused-clause-unread c =
    let read = c.in_ok-raw.ensures {u = tt} in
    let is = c.in-Err-Refused.is ∙ ap Err c.in-Err-Refused.field-0-is in
    refused_by_resolver c.args.text.now (raw_program c.in_ok-raw.raw) c.resolve.result c.in-Err-Refused.fault c.in-Err-Refused.line read.program read.faultless is (c.resolve.ensures.refused c.in-Err-Refused.fault c.in-Err-Refused.line is) c.resolve.ensures.accepted c.resolve.ensures.refused_exactly

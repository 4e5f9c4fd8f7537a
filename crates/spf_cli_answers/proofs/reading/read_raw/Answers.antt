use Rattle.spf_cli_answers.proofs.Verdicts.{exact_of, right_of, faultless_of, unread_by}
use Rattle.spf_cli_answers.proofs.reading.read_raw.Goals as goal

pub returns-in-Ok-clause-faultless : goal.returns-in-Ok-clause-faultless
returns-in-Ok-clause-faultless c =
    let e = c.parse.ensures in
    faultless_of c.args.text.now c.parse.result _ c.in-Ok.is (exact_of c.args.text.now c.parse.result e.scan_refused e.unexpected_refused e.too_deep_refused)

pub returns-in-Err-clause-unread : goal.returns-in-Err-clause-unread
returns-in-Err-clause-unread c =
    let e = c.parse.ensures in
    unread_by c.args.text.now c.parse.result c.in-Err.error c.from_error.result (exact_of c.args.text.now c.parse.result e.scan_refused e.unexpected_refused e.too_deep_refused) (right_of c.args.text.now c.parse.result e.scan e.unexpected e.too_deep) e.accepted c.in-Err.is c.from_error.ensures

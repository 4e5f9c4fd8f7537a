use Rattle.std.proofs.Common.{inl}
use Rattle.std.proofs.lemmas.Result.{err_from_is_err_and}
use Rattle.spf_ast.specs.View.{program}
use Rattle.spf_cli_answers.proofs.Logs.{accepted_text, refused_text}
use Rattle.spf_cli_answers.proofs.programs.read_accepted.Goals as goal

pub returns-in_err-parsed-clause-left : goal.returns-in_err-parsed-clause-left
returns-in_err-parsed-clause-left c =
    let q = err_from_is_err_and c.from_residual.result c.from_residual.ensures.1 in
    rw (q.1, q.2) (inl c.in_err-parsed.ensures.left)

pub returns-clause-program : goal.returns-clause-program
returns-clause-program c =
    accepted_text c.args.text.now c.in_ok-parsed.parsed c.accept.result c.in_ok-parsed.ensures.program c.accept.ensures.same c.accept.ensures.accepted

pub returns-clause-left : goal.returns-clause-left
returns-clause-left c = refused_text c.args.text.now (program c.in_ok-parsed.parsed) c.accept.result c.in_ok-parsed.ensures.program c.accept.ensures.left

use Rattle.std.proofs.lemmas.Result.{err_from_is_err_and}
use Rattle.spf_cli_answers.proofs.Logs.{is_accepted, none_accepted, none_fetched}
use Rattle.spf_cli_answers.proofs.programs.fetch_accepted.Goals as goal

pub returns-in_err-text-clause-left : goal.returns-in_err-text-clause-left
returns-in_err-text-clause-left g c =
    let q = err_from_is_err_and c.from_residual.result c.from_residual.ensures.1 in
    rw (q.1, q.2) (none_fetched _ _ _ _ c.in_err-text.ensures.left)

pub returns-clause-program : goal.returns-clause-program
returns-clause-program g c =
    is_accepted (g.F.Files.state c.args.files.now) (g.F.Files.state c.fetch.new.files) c.args.name.now c.in_ok-text.text.items c.read_accepted.result c.in_ok-text.ensures.content
    (rw c.deref.ensures.value at c.read_accepted.ensures.program)

pub returns-clause-left : goal.returns-clause-left
returns-clause-left g c =
    none_accepted (g.F.Files.state c.args.files.now) (g.F.Files.state c.fetch.new.files) c.args.name.now c.in_ok-text.text.items c.read_accepted.result c.in_ok-text.ensures.content
    (rw c.deref.ensures.value at c.read_accepted.ensures.left)

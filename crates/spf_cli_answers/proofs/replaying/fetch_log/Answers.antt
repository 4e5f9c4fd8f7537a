use Rattle.std.proofs.Common.{rules}
use Rattle.spf_cli_answers.proofs.Logs.{no_log}
use Rattle.spf_cli_answers.proofs.replaying.fetch_log.Goals as goal

pub returns-clause-left : goal.returns-clause-left
returns-clause-left g c =
    no_log (g.F.Files.state c.args.files.now) (g.F.Files.state c.fetch.new.files) c.args.name.now c.in_ok-content.content.items c.log_of.result c.in_ok-content.ensures.content
    (rw c.deref.ensures.value at c.log_of.ensures.left)

pub returns-clause-log : goal.returns-clause-log
returns-clause-log g c = search rules

pub returns-in_err-content-clause-left : goal.returns-in_err-content-clause-left
returns-in_err-content-clause-left g c = search rules

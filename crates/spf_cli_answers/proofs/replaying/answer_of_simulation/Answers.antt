use Rattle.std.proofs.Common.{ap, string_bytes}
use Rattle.spf_ast.specs.Program.{seen_outcome}
use Rattle.spf_cli_answers.specs.Answering.{lines_of}
use Rattle.spf_cli_answers.specs.Status.{status_number}
use Rattle.spf_cli_answers.proofs.Logs.{few_blocks, said_simulated}
use Rattle.spf_cli_answers.proofs.replaying.answer_of_simulation.Goals as goal

pub write_log-requires : goal.write_log-requires
write_log-requires c = rw c.deref.ensures.value (few_blocks c.args.made.now.log.items c.requires)

pub returns : goal.returns
returns c =
    said_simulated (seen_outcome c.args.made.now.outcome) c.args.made.now.stats c.args.made.now.log.items (status_number c.in_ok-status.status) c.in_ok-write_log.field-0.items
    (string_bytes c.in_ok-line.line) (lines_of c.new-messages.result.items) (lines_of c.push_trap.new.messages.items) (lines_of c.push_line.new.messages.items)
    c.in_ok-status.ensures.status (rw c.deref.ensures.value at c.in_ok-write_log.ensures) (ap lines_of c.new-messages.ensures.items) c.in_ok-status.ensures.lines
    (c.in_ok-push_line.ensures {u = tt}) c.in_ok-line.ensures

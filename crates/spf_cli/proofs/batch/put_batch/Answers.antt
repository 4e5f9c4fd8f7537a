use Rattle.std.specs.Prelude.{None, IfOk, IfErr}
use Rattle.std.proofs.Common.{◌∙◌, map, string_bytes}
use Rattle.spf_ast.specs.View.{program}
use Rattle.spf_cli_answers.specs.Answering.{lines_of}
use Rattle.spf_cli_answers.specs.Status.{status_number}
use Rattle.spf_cli.specs.Answered.{sinks}
use Rattle.spf_cli.proofs.Puts.{was_broken, line_fault}
use Rattle.spf_cli.proofs.Batches.{ended, answered_whole, answered_part, answered_broken}
use Rattle.spf_cli.proofs.batch.put_batch.Goals as goal

pub returns-in-Ok-put_lines : goal.returns-in-Ok-put_lines
returns-in-Ok-put_lines g c =
    let p = program c.args.batch.now.checked in
    let names = map string_bytes c.args.batch.now.names.items in
    let came = c.run_batch-came.result in
    let done = rw c.deref.ensures.value at c.run_batch-came.ensures.done in
    let stopped = rw c.requires.complete at (rw c.deref.ensures.value at c.run_batch-came.ensures.stopped) in
    let status = status_number c.in-Ok.ending.status in
    let said = lines_of c.in-Ok.ending.messages.items in
    rw c.number.ensures
    (answered_whole p names came _ _ (g.S.Sink.state c.args.err.now) (g.S.Sink.state c.put_lines.new.sink) status said
    (ended p names _ _ came done stopped status said c.in-Ok.ensures) c.in-Ok.ensures (rw c.deref-in-Ok.ensures.value at c.in-Ok-put_lines.ensures.whole))

pub returns-in-Ok : goal.returns-in-Ok
returns-in-Ok g c =
    let p = program c.args.batch.now.checked in
    let names = map string_bytes c.args.batch.now.names.items in
    let came = c.run_batch-came.result in
    let done = rw c.deref.ensures.value at c.run_batch-came.ensures.done in
    let stopped = rw c.requires.complete at (rw c.deref.ensures.value at c.run_batch-came.ensures.stopped) in
    let ending = status_number c.in-Ok.ending.status in
    let status = c.number-in-Err-put_lines.result in
    let said = lines_of c.in-Ok.ending.messages.items in
    answered_part p names came _ _ (g.S.Sink.state c.args.err.now) (g.S.Sink.state c.put_lines.new.sink) ending status said
    (ended p names _ _ came done stopped ending said c.in-Ok.ensures) c.in-Ok.ensures (rw c.deref-in-Ok.ensures.value at c.put_lines.ensures.part)
    (was_broken status (sinks (g.S.Sink.state c.args.out.now) (g.S.Sink.state c.run_batch-came.new.out) (g.S.Sink.state c.args.err.now) (g.S.Sink.state c.put_lines.new.sink)) c.in-Err-put_lines.error
    (line_fault _ _ c.in-Err-put_lines.error c.in-Err-put_lines.ensures.failed) (c.number-in-Err-put_lines.ensures ∙ c.put_status.ensures))

pub returns : goal.returns
returns g c =
    let p = program c.args.batch.now.checked in
    let names = map string_bytes c.args.batch.now.names.items in
    let came = c.run_batch-came.result in
    let done = rw c.deref.ensures.value at c.run_batch-came.ensures.done in
    let stopped = rw c.requires.complete at (rw c.deref.ensures.value at c.run_batch-came.ensures.stopped) in
    rw c.number-in-Err.ensures (answered_broken p names _ _ (g.S.Sink.state c.args.err.now) came done stopped (status_number c.in-Err.status) c.in-Err.ensures)

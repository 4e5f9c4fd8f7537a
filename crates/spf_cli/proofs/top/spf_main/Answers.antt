use Rattle.std.proofs.Common.{[], ◌∙◌, sym, subst, map, string_bytes}
use Rattle.std.proofs.lemmas.List.{length-map}
use Rattle.spf_ast.specs.View.{program}
use Rattle.spf_guess.specs.Answers.{supplied}
use Rattle.spf_cli_answers.specs.Answering.{seen_answer}
use Rattle.spf_cli_answers.specs.Batched.{RunsFiles}
use Rattle.spf_cli_answers.specs.Replying.{IsBatch}
use Rattle.spf_cli_answers.specs.Status.{status_number}
use Rattle.spf_cli_answers.specs.Whole.{handed, Whole}
use Rattle.spf_cli.specs.Answered.{sinks}
use Rattle.spf_cli.proofs.Puts.{answered_by, answered_rest, put_whole, put_part, words_cause, file_cause, sink_cause}
use Rattle.spf_cli.proofs.top.spf_main.Goals as goal

pub returns-in-Ok-clause-answered : goal.returns-in-Ok-clause-answered
returns-in-Ok-clause-answered g c =
    let given = handed (map (λ h. (goal.Predictor-dyn g (h.vtable, h.value)).answer h.value) c.args.hosts.items) in
    let s = sinks (g.S.Sink.state c.args.out.now) (g.S.Sink.state c.put.new.out) (g.S.Sink.state c.args.err.now) (g.S.Sink.state c.put.new.err) in
    let a = c.in-Ok-Answer.given in
    answered_by (Whole given (map string_bytes c.args.words.now)) _ _ (seen_answer a) c.number.result s (rw c.in-Ok-Answer.field-0-is at c.in-Ok-Answer.ensures.reply) (λ only.
    put_whole _ (seen_answer a) (status_number a.status) c.number.result s only c.number.ensures c.in-Ok.ensures.given)

pub returns-in-Ok-Answer-clause-answered : goal.returns-in-Ok-Answer-clause-answered
returns-in-Ok-Answer-clause-answered g c =
    let given = handed (map (λ h. (goal.Predictor-dyn g (h.vtable, h.value)).answer h.value) c.args.hosts.items) in
    let s = sinks (g.S.Sink.state c.args.out.now) (g.S.Sink.state c.put.new.out) (g.S.Sink.state c.args.err.now) (g.S.Sink.state c.put.new.err) in
    let a = c.in-Ok-Answer.given in
    answered_by (Whole given (map string_bytes c.args.words.now)) _ _ (seen_answer a) c.number-in-Err-put.result s (rw c.in-Ok-Answer.field-0-is at c.in-Ok-Answer.ensures.reply) (λ only.
    put_part _ (seen_answer a) c.number-in-Err-put.result s c.in-Err-put.error only c.put.ensures.part c.in-Err-put.ensures.failed (c.number-in-Err-put.ensures ∙ c.put_status.ensures))

pub put_batch-requires-clause-complete : goal.put_batch-requires-clause-complete
put_batch-requires-clause-complete g c =
    let ready = rw c.in-Ok-Batch.field-0-is at c.in-Ok-Batch.ensures.reply in
    let same = c.in-Ok-Batch.ensures.idle (subst IsBatch (sym c.in-Ok-Batch.field-0-is) tt) in
    λ κs h. rw same (rw (length-map c.args.hosts.items (λ h. (goal.Predictor-dyn g (h.vtable, h.value)).answer h.value)) at ready.complete)

pub returns-in-Ok-Batch-clause-answered : goal.returns-in-Ok-Batch-clause-answered
returns-in-Ok-Batch-clause-answered g c =
    let given = handed (map (λ h. (goal.Predictor-dyn g (h.vtable, h.value)).answer h.value) c.args.hosts.items) in
    let s = sinks (g.S.Sink.state c.args.out.now) (g.S.Sink.state c.put_batch.new.out) (g.S.Sink.state c.args.err.now) (g.S.Sink.state c.put_batch.new.err) in
    let b = c.in-Ok-Batch.batch in
    let ready = rw c.in-Ok-Batch.field-0-is at c.in-Ok-Batch.ensures.reply in
    let same = c.in-Ok-Batch.ensures.idle (subst IsBatch (sym c.in-Ok-Batch.field-0-is) tt) in
    answered_rest (Whole given (map string_bytes c.args.words.now)) (RunsFiles given.hosts (program b.checked) [] (map string_bytes b.names.items)) _ _ _ c.put_batch.result s ready.leads
    (rw same at c.put_batch.ensures)

pub returns-in-Ok-clause-understood : goal.returns-in-Ok-clause-understood
returns-in-Ok-clause-understood g c =
    let given = handed (map (λ h. (goal.Predictor-dyn g (h.vtable, h.value)).answer h.value) c.args.hosts.items) in
    words_cause c.each_status_has_its_cause.ensures given (map string_bytes c.args.words.now) _ _ _ _ (returns-in-Ok-clause-answered g c)

pub returns-in-Ok-clause-file_fault : goal.returns-in-Ok-clause-file_fault
returns-in-Ok-clause-file_fault g c =
    let given = handed (map (λ h. (goal.Predictor-dyn g (h.vtable, h.value)).answer h.value) c.args.hosts.items) in
    file_cause c.each_status_has_its_cause.ensures given (map string_bytes c.args.words.now) _ _ _ _ (returns-in-Ok-clause-answered g c)

pub returns-in-Ok-clause-put_fault : goal.returns-in-Ok-clause-put_fault
returns-in-Ok-clause-put_fault g c =
    let given = handed (map (λ h. (goal.Predictor-dyn g (h.vtable, h.value)).answer h.value) c.args.hosts.items) in
    sink_cause c.each_status_has_its_cause.ensures given (map string_bytes c.args.words.now) _ _ _ _ (returns-in-Ok-clause-answered g c)

pub returns-in-Ok-Batch-clause-understood : goal.returns-in-Ok-Batch-clause-understood
returns-in-Ok-Batch-clause-understood g c =
    let given = handed (map (λ h. (goal.Predictor-dyn g (h.vtable, h.value)).answer h.value) c.args.hosts.items) in
    words_cause c.each_status_has_its_cause.ensures given (map string_bytes c.args.words.now) _ _ _ _ (returns-in-Ok-Batch-clause-answered g c)

pub returns-in-Ok-Batch-clause-file_fault : goal.returns-in-Ok-Batch-clause-file_fault
returns-in-Ok-Batch-clause-file_fault g c =
    let given = handed (map (λ h. (goal.Predictor-dyn g (h.vtable, h.value)).answer h.value) c.args.hosts.items) in
    file_cause c.each_status_has_its_cause.ensures given (map string_bytes c.args.words.now) _ _ _ _ (returns-in-Ok-Batch-clause-answered g c)

pub returns-in-Ok-Batch-clause-put_fault : goal.returns-in-Ok-Batch-clause-put_fault
returns-in-Ok-Batch-clause-put_fault g c =
    let given = handed (map (λ h. (goal.Predictor-dyn g (h.vtable, h.value)).answer h.value) c.args.hosts.items) in
    sink_cause c.each_status_has_its_cause.ensures given (map string_bytes c.args.words.now) _ _ _ _ (returns-in-Ok-Batch-clause-answered g c)

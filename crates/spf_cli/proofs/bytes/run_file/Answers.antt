use Rattle.std.proofs.Common.{◌≡◌, ◌⊎◌, ◌∙◌, inl, subst, map}
use Rattle.spf_cli_answers.specs.Whole.{handed, RunsText}
use Rattle.spf_cli_answers.specs.Status.{status_number}
use Rattle.spf_cli_answers.specs.Answering.{seen_answer}
use Rattle.spf_cli.specs.Answered.{sinks}
use Rattle.spf_cli.proofs.Puts.{put_whole, put_part, hand_cause}
use Rattle.spf_cli.proofs.bytes.run_file.Goals as goal

pub returns-in-Ok-put-clause-told : goal.returns-in-Ok-put-clause-told
returns-in-Ok-put-clause-told g c p v e =
    c.in-Ok.ensures.told p v (subst (λ n. (n ≡ 0) ⊎ (n ≡ 1)) c.number-in-Ok-put.ensures e)

pub returns-in-Ok-put-clause-told_first : goal.returns-in-Ok-put-clause-told_first
returns-in-Ok-put-clause-told_first g c = c.answer_text.ensures.told_first

pub returns-in-Ok-put-clause-untold : goal.returns-in-Ok-put-clause-untold
returns-in-Ok-put-clause-untold g c = c.answer_text.ensures.untold

pub returns-in-Ok-put-clause-unrun : goal.returns-in-Ok-put-clause-unrun
returns-in-Ok-put-clause-unrun g c e =
    c.in-Ok.ensures.unrun (subst (λ n. (n ≡ 4) ⊎ (n ≡ 7)) c.number-in-Ok-put.ensures e)

pub returns-in-Ok-put-clause-answered : goal.returns-in-Ok-put-clause-answered
returns-in-Ok-put-clause-answered g c =
    let given = handed (map (λ h. (goal.Predictor-dyn g (h.vtable, h.value)).answer h.value) c.args.hosts.now.items) in
    let s = sinks (g.S.Sink.state c.args.out.now) (g.S.Sink.state c.put.new.out) (g.S.Sink.state c.args.err.now) (g.S.Sink.state c.put.new.err) in
    inl (put_whole (RunsText given c.args.workers c.args.program.now c.args.input.now) (seen_answer c.in-Ok.given) (status_number c.in-Ok.given.status) c.number-in-Ok-put.result s c.in-Ok.ensures.answer c.number-in-Ok-put.ensures c.in-Ok-put.ensures.given)

pub returns-in-Ok-put-clause-put_fault : goal.returns-in-Ok-put-clause-put_fault
returns-in-Ok-put-clause-put_fault g c six =
    let given = handed (map (λ h. (goal.Predictor-dyn g (h.vtable, h.value)).answer h.value) c.args.hosts.now.items) in
    let s = sinks (g.S.Sink.state c.args.out.now) (g.S.Sink.state c.put.new.out) (g.S.Sink.state c.args.err.now) (g.S.Sink.state c.put.new.err) in
    hand_cause (RunsText given c.args.workers c.args.program.now c.args.input.now) (λ answer. c.each_status_has_its_cause.ensures.at_hand given c.args.workers c.args.program.now c.args.input.now answer) c.number-in-Ok-put.result s (returns-in-Ok-put-clause-answered g c) six

pub returns-clause-answered : goal.returns-clause-answered
returns-clause-answered g c =
    let given = handed (map (λ h. (goal.Predictor-dyn g (h.vtable, h.value)).answer h.value) c.args.hosts.now.items) in
    let s = sinks (g.S.Sink.state c.args.out.now) (g.S.Sink.state c.put.new.out) (g.S.Sink.state c.args.err.now) (g.S.Sink.state c.put.new.err) in
    inl (put_part (RunsText given c.args.workers c.args.program.now c.args.input.now) (seen_answer c.in-Ok.given) c.number-in-Err.result s c.in-Err.error c.in-Ok.ensures.answer c.put.ensures.part c.in-Err.ensures.failed (c.number-in-Err.ensures ∙ c.put_status.ensures))

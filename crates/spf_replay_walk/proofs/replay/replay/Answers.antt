use Rattle.std.proofs.Common.{◌∙◌, ℕ, List, map, subst}
use Rattle.spf_ast.specs.Syntax.{Program}
use Rattle.spf_ast.specs.Construct.{constructs_in}
use Rattle.spf_ast.specs.View.{program as seen_program}
use Rattle.spf_guess.specs.Answers.{handed_in}
use Rattle.std.proofs.lemmas.Result.{err_from_is_err_and}
use Rattle.spf_guess.specs.Missing.{missing_host}
use Rattle.spf_engine.specs.Errors.{IsMissing}
use Rattle.spf_engine.proofs.Causes.{not-set-up}
use Rattle.spf_engine.proofs.Stepping.{if-err, told-nothing, retold-as}
use Rattle.spf_replay.specs.Expecting.{expected}
use Rattle.spf_replay.specs.Verdicts.{IsVerdict}
use Rattle.spf_replay_walk.specs.Judging.{seen_log}
use Rattle.spf_replay_walk.proofs.replay.replay.Goals as goal

pub returns-in_err-instance-clause-told_first : goal.returns-in_err-instance-clause-told_first
returns-in_err-instance-clause-told_first g c = if-err _ (told-nothing _ (seen_program c.args.checked.now) c.args.input.now)

pub returns-in_err-instance-clause-not_run : goal.returns-in_err-instance-clause-not_run
returns-in_err-instance-clause-not_run g c =
    let p = err_from_is_err_and c.from_residual.result c.from_residual.ensures.1 in
    rw (p.1, p.2) (not-set-up _ _ _ _ c.in_err-instance.field-0.0 c.in_err-instance.ensures.too_many
    (λ low. subst (λ (n : ℕ). IsMissing (missing_host n (constructs_in (seen_program c.args.checked.now).main)) c.in_err-instance.field-0.0) (c.len.ensures ∙ c.args.hosts.now.ok.0) (c.in_err-instance.ensures.missing low)))

pub returns-clause-told : goal.returns-clause-told
returns-clause-told g c =
    retold-as (handed_in (map (λ h. (goal.Predictor-dyn g (h.vtable, h.value)).answer h.value) c.args.hosts.now.items)) _ _ _ _ _ c.in_ok-instance.ensures.program c.in_ok-instance.ensures.input c.in_ok-verdict.ensures.told

pub returns-clause-verdict : goal.returns-clause-verdict
returns-clause-verdict g c =
    let hosts = (handed_in (map (λ h. (goal.Predictor-dyn g (h.vtable, h.value)).answer h.value) c.args.hosts.now.items)) in
    subst (λ (x : Program × List ℕ). IsVerdict (expected hosts x.0 x.1) (seen_log c.args.log.now) c.in_ok-verdict.verdict) (λ i. (c.in_ok-instance.ensures.program i, c.in_ok-instance.ensures.input i)) c.in_ok-verdict.ensures.verdict

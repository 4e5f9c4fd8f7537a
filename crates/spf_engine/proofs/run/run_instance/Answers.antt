use Rattle.std.proofs.Common.{◌∙◌, sym, subst, refl, [], map}
use Rattle.spf_ast.specs.Lawful.{IsLawful}
use Rattle.spf_ast.specs.Construct.{constructs_in, reals}
use Rattle.spf_exec_instance.specs.Instance.{program_of}
use Rattle.spf_guess.specs.Answers.{handed_in}
use Rattle.spf_engine_laws.specs.Progress.{no_progress}
use Rattle.spf_engine_laws.specs.Traces.{AreTraces}
use Rattle.spf_engine_laws.specs.Passed.{OneByOne, IsItsTrace}
use Rattle.spf_engine.specs.Runs.{CountsAreBounded, ComesFurther}
use Rattle.spf_engine.proofs.Ending.{few-none}
use Rattle.spf_engine.proofs.Stepping.{if-err, told-nothing, finishes-so, traps-so, goes-on-so}
use Rattle.spf_engine.proofs.run.run_instance.Goals as goal

pub loop-account-init : goal.loop-account-init
loop-account-init g c = record {
  run = c.in_ok-run.ensures.run;
  count = refl;
  progress = no_progress;
  agrees = record { stats = c.new-account.ensures.stats; traces = subst (OneByOne IsItsTrace []) (sym c.new-account.ensures.traces) tt };
  told = λ host pairs block. refl;
  goes = c.runs_in_pieces_go_on.ensures.begin _ (program_of c.args.instance.now) c.args.instance.now.input c.in_ok-run.run' (subst IsLawful (sym c.requires.program) c.program-program.ensures.lawful) c.in_ok-run.ensures.begins;
  few = subst (λ s. CountsAreBounded (program_of c.args.instance.now) c.in_ok-run.run' s) (sym c.new-account.ensures.stats) (few-none _);
}

pub returns-in_err-run-clause-told_first : goal.returns-in_err-run-clause-told_first
returns-in_err-run-clause-told_first g c = if-err _ (told-nothing _ (program_of c.args.instance.now) c.args.instance.now.input)

pub returns-in_err-take_step-clause-told_first : goal.returns-in_err-take_step-clause-told_first
returns-in_err-take_step-clause-told_first g c =
    let i = c.loop-account.invariant in
    if-err _ (c.in_err-take_step.ensures.told_first _ i.progress i.told i.goes)

pub loop-account-preserved : goal.loop-account-preserved
loop-account-preserved g c =
    let i = c.loop-account.invariant in
    let to = c.in_ok-take_step.ensures.steps _ i.progress i.agrees i.told i.goes in
    let further = subst (λ t. ComesFurther (program_of c.args.instance.now) t c.loop-account.run c.take_step.new.run c.take_step.new.account.stats) c.in-Next.is c.in_ok-take_step.ensures.further in
    record {
      run = c.take_step.ensures.run;
      count = c.take_step.ensures.count ∙ i.count;
      progress = to.later;
      agrees = to.agrees;
      told = to.told;
      goes = goes-on-so _ (program_of c.args.instance.now) c.args.instance.now.input c.in_ok-take_step.field-0 c.take_step.new.run to.later to.there c.in-Next.is;
      few = further.1;
    }

pub returns-in-Finished-clause-outcome : goal.returns-in-Finished-clause-outcome
returns-in-Finished-clause-outcome g c =
    let i = c.loop-account.invariant in
    c.report_at_end.ensures.outcome
    ∙ (finishes-so c.runs_in_pieces_go_on.ensures.traces _ (program_of c.args.instance.now) c.args.instance.now.input c.in_ok-take_step.field-0 c.take_step.new.run c.take_step.new.account _ (c.in_ok-take_step.ensures.steps _ i.progress i.agrees i.told i.goes) c.in-Finished.is).outcome_is

pub returns-in-Finished-clause-statistics : goal.returns-in-Finished-clause-statistics
returns-in-Finished-clause-statistics g c =
    let i = c.loop-account.invariant in
    c.report_at_end.ensures.stats
    ∙ (finishes-so c.runs_in_pieces_go_on.ensures.traces _ (program_of c.args.instance.now) c.args.instance.now.input c.in_ok-take_step.field-0 c.take_step.new.run c.take_step.new.account _ (c.in_ok-take_step.ensures.steps _ i.progress i.agrees i.told i.goes) c.in-Finished.is).stats

pub returns-in-Finished-clause-traces : goal.returns-in-Finished-clause-traces
returns-in-Finished-clause-traces g c =
    let i = c.loop-account.invariant in
    let hosts = (handed_in (map (λ h. (goal.Predictor-dyn g (h.vtable, h.value)).answer h.value) c.args.hosts.now.items)) in
    subst (AreTraces hosts (program_of c.args.instance.now) c.args.instance.now.input (constructs_in (program_of c.args.instance.now).main) (reals (program_of c.args.instance.now) c.args.instance.now.input) []) (sym c.report_at_end.ensures.traces)
    (finishes-so c.runs_in_pieces_go_on.ensures.traces hosts (program_of c.args.instance.now) c.args.instance.now.input c.in_ok-take_step.field-0 c.take_step.new.run c.take_step.new.account _ (c.in_ok-take_step.ensures.steps _ i.progress i.agrees i.told i.goes) c.in-Finished.is).traces

pub returns-in-Finished-clause-told : goal.returns-in-Finished-clause-told
returns-in-Finished-clause-told g c =
    let i = c.loop-account.invariant in
    (finishes-so c.runs_in_pieces_go_on.ensures.traces _ (program_of c.args.instance.now) c.args.instance.now.input c.in_ok-take_step.field-0 c.take_step.new.run c.take_step.new.account _ (c.in_ok-take_step.ensures.steps _ i.progress i.agrees i.told i.goes) c.in-Finished.is).told

pub returns-in-Trapped-clause-outcome : goal.returns-in-Trapped-clause-outcome
returns-in-Trapped-clause-outcome g c =
    let i = c.loop-account.invariant in
    c.report_at_trap.ensures.outcome
    ∙ (traps-so c.runs_in_pieces_go_on.ensures.traces _ (program_of c.args.instance.now) c.args.instance.now.input c.in_ok-take_step.field-0 c.in-Trapped.trap c.take_step.new.run c.take_step.new.account _ (c.in_ok-take_step.ensures.steps _ i.progress i.agrees i.told i.goes) c.in-Trapped.is).outcome_is

pub returns-in-Trapped-clause-statistics : goal.returns-in-Trapped-clause-statistics
returns-in-Trapped-clause-statistics g c =
    let i = c.loop-account.invariant in
    c.report_at_trap.ensures.stats
    ∙ (traps-so c.runs_in_pieces_go_on.ensures.traces _ (program_of c.args.instance.now) c.args.instance.now.input c.in_ok-take_step.field-0 c.in-Trapped.trap c.take_step.new.run c.take_step.new.account _ (c.in_ok-take_step.ensures.steps _ i.progress i.agrees i.told i.goes) c.in-Trapped.is).stats

pub returns-in-Trapped-clause-traces : goal.returns-in-Trapped-clause-traces
returns-in-Trapped-clause-traces g c =
    let i = c.loop-account.invariant in
    let hosts = (handed_in (map (λ h. (goal.Predictor-dyn g (h.vtable, h.value)).answer h.value) c.args.hosts.now.items)) in
    subst (AreTraces hosts (program_of c.args.instance.now) c.args.instance.now.input (constructs_in (program_of c.args.instance.now).main) (reals (program_of c.args.instance.now) c.args.instance.now.input) []) (sym c.report_at_trap.ensures.traces)
    (traps-so c.runs_in_pieces_go_on.ensures.traces hosts (program_of c.args.instance.now) c.args.instance.now.input c.in_ok-take_step.field-0 c.in-Trapped.trap c.take_step.new.run c.take_step.new.account _ (c.in_ok-take_step.ensures.steps _ i.progress i.agrees i.told i.goes) c.in-Trapped.is).traces

pub returns-in-Trapped-clause-told : goal.returns-in-Trapped-clause-told
returns-in-Trapped-clause-told g c =
    let i = c.loop-account.invariant in
    (traps-so c.runs_in_pieces_go_on.ensures.traces _ (program_of c.args.instance.now) c.args.instance.now.input c.in_ok-take_step.field-0 c.in-Trapped.trap c.take_step.new.run c.take_step.new.account _ (c.in_ok-take_step.ensures.steps _ i.progress i.agrees i.told i.goes) c.in-Trapped.is).told

use Rattle.std.proofs.Common.{◌∙◌, sym, subst, refl}
use Rattle.spf_ast.specs.Lawful.{IsLawful}
use Rattle.spf_exec_instance.specs.Instance.{program_of}
use Rattle.spf_engine_laws.specs.Progress.{no_progress}
use Rattle.spf_engine.specs.Runs.{CountsAreBounded, ComesFurther}
use Rattle.spf_engine.proofs.Ending.{few-none}
use Rattle.spf_engine.proofs.Stepping.{if-err, told-nothing, goes-on-so}
use Rattle.spf_replay_walk.proofs.Walking.{walk-finishes, walk-traps}
use Rattle.spf_replay_walk.proofs.walk.walk.Goals as goal

pub loop-spare-init : goal.loop-spare-init
loop-spare-init g c = record {
  run = c.in_ok-run.ensures.run;
  spare = c.in_ok-spare.ensures;
  count = refl;
  progress = no_progress;
  visited = λ first visited. visited;
  stats_are = c.none-stats.ensures;
  told = λ host pairs block. refl;
  goes = c.runs_in_pieces_go_on.ensures.begin _ (program_of c.args.instance.now) c.args.instance.now.input c.in_ok-run.run' (subst IsLawful (sym c.requires.program) c.program-program.ensures.lawful) c.in_ok-run.ensures.begins;
  few = subst (λ s. CountsAreBounded (program_of c.args.instance.now) c.in_ok-run.run' s) (sym c.none-stats.ensures) (few-none _);
}

pub returns-in_err-run-clause-told_first : goal.returns-in_err-run-clause-told_first
returns-in_err-run-clause-told_first g c = if-err _ (told-nothing _ (program_of c.args.instance.now) c.args.instance.now.input)

pub returns-in_err-take_step-clause-told_first : goal.returns-in_err-take_step-clause-told_first
returns-in_err-take_step-clause-told_first g c =
    let i = c.loop-spare.invariant in
    if-err _ (c.in_err-take_step.ensures.told_first _ i.progress i.told i.goes)

pub loop-spare-preserved : goal.loop-spare-preserved
loop-spare-preserved g c =
    let i = c.loop-spare.invariant in
    let to = c.in_ok-take_step.ensures.steps _ i.progress i.stats_are i.told i.goes in
    let further = subst (λ t. ComesFurther (program_of c.args.instance.now) t c.loop-spare.run c.take_step.new.run c.take_step.new.stats) c.in-Next.is c.in_ok-take_step.ensures.further in
    record {
      run = c.in_ok-take_step.ensures.run;
      spare = c.take_step.ensures.spare;
      count = c.take_step.ensures.count ∙ i.count;
      progress = to.later;
      visited = λ first visited. to.visited first (i.visited first visited);
      stats_are = to.stats_are;
      told = to.told;
      goes = goes-on-so _ (program_of c.args.instance.now) c.args.instance.now.input c.in_ok-take_step.field-0 c.take_step.new.run to.later to.there c.in-Next.is;
      few = further.1;
    }

-- how the run ended
pub returns-in-Finished-clause-outcome : goal.returns-in-Finished-clause-outcome
returns-in-Finished-clause-outcome g c =
    let i = c.loop-spare.invariant in
    c.outcome_at_end-outcome.ensures
    ∙ (walk-finishes g.V.Visitor.has_visited c.args.visitor.now c.loop-spare.visitor c.take_step.new.visitor _ (program_of c.args.instance.now) c.args.instance.now.input i.progress.passed c.in_ok-take_step.field-0 c.take_step.new.run
    c.take_step.new.stats _ i.visited (c.in_ok-take_step.ensures.steps _ i.progress i.stats_are i.told i.goes) c.in-Finished.is).outcome_is

pub returns-in-Finished-clause-statistics : goal.returns-in-Finished-clause-statistics
returns-in-Finished-clause-statistics g c =
    let i = c.loop-spare.invariant in
    (walk-finishes g.V.Visitor.has_visited c.args.visitor.now c.loop-spare.visitor c.take_step.new.visitor _ (program_of c.args.instance.now) c.args.instance.now.input i.progress.passed c.in_ok-take_step.field-0 c.take_step.new.run
    c.take_step.new.stats _ i.visited (c.in_ok-take_step.ensures.steps _ i.progress i.stats_are i.told i.goes) c.in-Finished.is).stats_are

pub returns-in-Finished-clause-visited : goal.returns-in-Finished-clause-visited
returns-in-Finished-clause-visited g c =
    let i = c.loop-spare.invariant in
    (walk-finishes g.V.Visitor.has_visited c.args.visitor.now c.loop-spare.visitor c.take_step.new.visitor _ (program_of c.args.instance.now) c.args.instance.now.input i.progress.passed c.in_ok-take_step.field-0 c.take_step.new.run
    c.take_step.new.stats _ i.visited (c.in_ok-take_step.ensures.steps _ i.progress i.stats_are i.told i.goes) c.in-Finished.is).visits

pub returns-in-Finished-clause-told : goal.returns-in-Finished-clause-told
returns-in-Finished-clause-told g c =
    let i = c.loop-spare.invariant in
    (walk-finishes g.V.Visitor.has_visited c.args.visitor.now c.loop-spare.visitor c.take_step.new.visitor _ (program_of c.args.instance.now) c.args.instance.now.input i.progress.passed c.in_ok-take_step.field-0 c.take_step.new.run
    c.take_step.new.stats _ i.visited (c.in_ok-take_step.ensures.steps _ i.progress i.stats_are i.told i.goes) c.in-Finished.is).told

pub returns-in-Trapped-clause-outcome : goal.returns-in-Trapped-clause-outcome
returns-in-Trapped-clause-outcome g c =
    let i = c.loop-spare.invariant in
    c.outcome_at_trap-outcome.ensures
    ∙ (walk-traps g.V.Visitor.has_visited c.args.visitor.now c.loop-spare.visitor c.take_step.new.visitor _ (program_of c.args.instance.now) c.args.instance.now.input i.progress.passed c.in_ok-take_step.field-0 c.in-Trapped.trap c.take_step.new.run
    c.take_step.new.stats _ i.visited (c.in_ok-take_step.ensures.steps _ i.progress i.stats_are i.told i.goes) c.in-Trapped.is).outcome_is

pub returns-in-Trapped-clause-statistics : goal.returns-in-Trapped-clause-statistics
returns-in-Trapped-clause-statistics g c =
    let i = c.loop-spare.invariant in
    (walk-traps g.V.Visitor.has_visited c.args.visitor.now c.loop-spare.visitor c.take_step.new.visitor _ (program_of c.args.instance.now) c.args.instance.now.input i.progress.passed c.in_ok-take_step.field-0 c.in-Trapped.trap c.take_step.new.run
    c.take_step.new.stats _ i.visited (c.in_ok-take_step.ensures.steps _ i.progress i.stats_are i.told i.goes) c.in-Trapped.is).stats_are

pub returns-in-Trapped-clause-visited : goal.returns-in-Trapped-clause-visited
returns-in-Trapped-clause-visited g c =
    let i = c.loop-spare.invariant in
    (walk-traps g.V.Visitor.has_visited c.args.visitor.now c.loop-spare.visitor c.take_step.new.visitor _ (program_of c.args.instance.now) c.args.instance.now.input i.progress.passed c.in_ok-take_step.field-0 c.in-Trapped.trap c.take_step.new.run
    c.take_step.new.stats _ i.visited (c.in_ok-take_step.ensures.steps _ i.progress i.stats_are i.told i.goes) c.in-Trapped.is).visits

pub returns-in-Trapped-clause-told : goal.returns-in-Trapped-clause-told
returns-in-Trapped-clause-told g c =
    let i = c.loop-spare.invariant in
    (walk-traps g.V.Visitor.has_visited c.args.visitor.now c.loop-spare.visitor c.take_step.new.visitor _ (program_of c.args.instance.now) c.args.instance.now.input i.progress.passed c.in_ok-take_step.field-0 c.in-Trapped.trap c.take_step.new.run
    c.take_step.new.stats _ i.visited (c.in_ok-take_step.ensures.steps _ i.progress i.stats_are i.told i.goes) c.in-Trapped.is).told

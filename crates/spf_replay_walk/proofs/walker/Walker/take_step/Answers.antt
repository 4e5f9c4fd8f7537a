use Rattle.std.proofs.Common.{subst}
use Rattle.spf_exec_instance.specs.Instance.{program_of}
use Rattle.spf_engine.specs.Runs.{IsProgressOnArrival, CanBeRun, ComesNearer}
use Rattle.spf_engine.proofs.Stepping.{same-told-first, over-ok, over-err, further-from}
use Rattle.spf_replay_walk.proofs.walker.Walker.take_step.Goals as goal

pub returns-in-Err-clause-told_first : goal.returns-in-Err-clause-told_first
returns-in-Err-clause-told_first g c = same-told-first (program_of c.args.self.now.instance.now) c.args.self.now.instance.now.input c.args.run.now _

pub pass-requires-clause-ready : goal.pass-requires-clause-ready
pass-requires-clause-ready g c =
    subst (λ a. CanBeRun (program_of c.args.self.now.instance.now) a c.arrive.new.run) c.in-AtBlocks.is c.in-Ok.ensures.ready

pub pass-requires-clause-few : goal.pass-requires-clause-few
pass-requires-clause-few g c =
    let p = program_of c.args.self.now.instance.now in
    (subst (λ a. ComesNearer p c.args.run.now a c.arrive.new.run) c.in-AtBlocks.is c.in-Ok.ensures.nearer).1 c.args.stats.now c.requires.few

pub returns-in-AtBlocks-clause-steps : goal.returns-in-AtBlocks-clause-steps
returns-in-AtBlocks-clause-steps g c = over-ok _ _ (λ s steps before progress counted were goes.
    steps before progress counted were
    (subst (λ a. IsProgressOnArrival before (program_of c.args.self.now.instance.now) c.args.self.now.instance.now.input a c.arrive.new.run progress) c.in-AtBlocks.is
    (c.in-Ok.ensures.arrived before progress goes)))
    c.pass.result c.pass.ensures.steps

pub returns-in-AtBlocks-clause-told_first : goal.returns-in-AtBlocks-clause-told_first
returns-in-AtBlocks-clause-told_first g c = over-err _ _ (λ why first before progress were goes.
    first before progress were
    (subst (λ a. IsProgressOnArrival before (program_of c.args.self.now.instance.now) c.args.self.now.instance.now.input a c.arrive.new.run progress) c.in-AtBlocks.is
    (c.in-Ok.ensures.arrived before progress goes)))
    c.pass.result c.pass.ensures.told_first

pub returns-in-AtBlocks-clause-further : goal.returns-in-AtBlocks-clause-further
returns-in-AtBlocks-clause-further g c =
    let p = program_of c.args.self.now.instance.now in
    let nearer = subst (λ a. ComesNearer p c.args.run.now a c.arrive.new.run) c.in-AtBlocks.is c.in-Ok.ensures.nearer in
    over-ok _ _ (λ s further. further-from p c.args.run.now c.arrive.new.run _ s c.pass.new.stats nearer.0 further) c.pass.result c.pass.ensures.further

pub returns-in-Over-clause-steps : goal.returns-in-Over-clause-steps
returns-in-Over-clause-steps g c = λ before progress counted were goes. record {
  later = progress;
  visited = λ first visited. visited;
  stats_are = counted;
  told = were;
  there = subst (λ a. IsProgressOnArrival before (program_of c.args.self.now.instance.now) c.args.self.now.instance.now.input a c.arrive.new.run progress) c.in-Over.is
      (c.in-Ok.ensures.arrived before progress goes);
}

pub returns-in-Over-clause-further : goal.returns-in-Over-clause-further
returns-in-Over-clause-further g c =
    let p = program_of c.args.self.now.instance.now in
    (subst (λ a. ComesNearer p c.args.run.now a c.arrive.new.run) c.in-Over.is c.in-Ok.ensures.nearer) c.args.stats.now c.requires.few

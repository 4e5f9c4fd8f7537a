use Rattle.std.proofs.Common.{sym, subst}
use Rattle.spf_ast.specs.ConstructView.{construct as seen_construct}
use Rattle.spf_ast.specs.Lawful.{IsLawful}
use Rattle.spf_exec.specs.Pieces.{Advanced}
use Rattle.spf_exec_instance.specs.Instance.{program_of}
use Rattle.spf_engine.proofs.Places.{numbered}
use Rattle.spf_engine.proofs.Stepping.{paused-so, nearer-from}
use Rattle.spf_engine.proofs.step.arrive.Goals as goal

pub advance-requires-clause-few_constructs : goal.advance-requires-clause-few_constructs
advance-requires-clause-few_constructs c =
    c.lawful_programs_are_quiet_and_small.ensures.constructs (program_of c.args.instance.now) (subst IsLawful (sym c.requires.program) c.program-program.ensures.lawful)

pub returns-in-Finished-clause-arrived : goal.returns-in-Finished-clause-arrived
returns-in-Finished-clause-arrived c = λ before progress goes.
    paused-so c.runs_in_pieces_go_on.ensures.advance before (program_of c.args.instance.now) c.args.instance.now.input c.args.run.now c.advance.new.self progress c.in-Finished.is goes c.in_ok-advance.ensures.advanced

pub returns-in-Trapped-clause-arrived : goal.returns-in-Trapped-clause-arrived
returns-in-Trapped-clause-arrived c = λ before progress goes.
    paused-so c.runs_in_pieces_go_on.ensures.advance before (program_of c.args.instance.now) c.args.instance.now.input c.args.run.now c.advance.new.self progress c.in-Trapped.is goes c.in_ok-advance.ensures.advanced

pub enter-requires-clause-construct : goal.enter-requires-clause-construct
enter-requires-clause-construct c =
    let p = program_of c.args.instance.now in
    let a = subst (Advanced p c.args.instance.now.input c.args.run.now c.advance.new.self) c.in-AtConstruct.is c.in_ok-advance.ensures.advanced in
    numbered c.advance.new.self.place p.main c.in-AtConstruct.number (seen_construct c.in-AtConstruct.construct) a.number a.construct

pub returns-in-AtConstruct-clause-arrived : goal.returns-in-AtConstruct-clause-arrived
returns-in-AtConstruct-clause-arrived c = λ before progress goes.
    c.enter.ensures.arrived before progress
    (paused-so c.runs_in_pieces_go_on.ensures.advance before (program_of c.args.instance.now) c.args.instance.now.input c.args.run.now c.advance.new.self progress c.in-AtConstruct.is goes c.in_ok-advance.ensures.advanced)

pub returns-in-AtConstruct-clause-nearer : goal.returns-in-AtConstruct-clause-nearer
returns-in-AtConstruct-clause-nearer c =
    let p = program_of c.args.instance.now in
    let a = subst (Advanced p c.args.instance.now.input c.args.run.now c.advance.new.self) c.in-AtConstruct.is c.in_ok-advance.ensures.advanced in
    nearer-from p c.args.run.now c.advance.new.self c.enter.new.run c.enter.result a.at c.enter.ensures.nearer

use Rattle.std.proofs.Common.{◌∙◌, sym, ap, subst, arith}
use Rattle.spf_ast.specs.ConstructView.{construct as seen_construct}
use Rattle.spf_ast.specs.Lawful.{IsLawful}
use Rattle.spf_ast.specs.Pieces.{construct_first, rest_from}
use Rattle.spf_ast.specs.Program.{environment_of}
use Rattle.spf_chain.specs.declared.block.Settled.TheVariants.{Carried}
use Rattle.spf_check.specs.Accepting.{IsAccepted}
use Rattle.spf_exec.specs.Pieces.{moment_of, seen_header}
use Rattle.spf_exec_instance.specs.Instance.{program_of}
use Rattle.spf_engine.proofs.Passing.{has-its-blocks, goes-past-none}
use Rattle.spf_engine.proofs.Stepping.{near-there, further-uncounted}
use Rattle.spf_engine.proofs.step.enter.Goals as goal

pub header-requires-clause-silent : goal.header-requires-clause-silent
header-requires-clause-silent c =
    c.lawful_programs_are_quiet_and_small.ensures.functions (program_of c.args.instance.now) (subst IsLawful (sym c.requires.program) c.program-program.ensures.lawful)

pub returns-in-Err-clause-arrived : goal.returns-in-Err-clause-arrived
returns-in-Err-clause-arrived c = λ before progress goes.
    c.runs_in_pieces_go_on.ensures.headers before (program_of c.args.instance.now) c.args.instance.now.input c.args.run.now c.header.new.self progress (seen_construct c.args.construct) c.in-Err.trap
    goes c.requires.next c.in-Err.ensures.header

pub returns-in-Err-clause-nearer : goal.returns-in-Err-clause-nearer
returns-in-Err-clause-nearer c = λ counted few. tt

pub returns-then-header-eq0-clause-arrived : goal.returns-then-header-eq0-clause-arrived
returns-then-header-eq0-clause-arrived c = λ before progress goes.
    let p = program_of c.args.instance.now in
    goes-past-none c.runs_in_pieces_go_on.ensures.settle c.runs_in_pieces_go_on.ensures.blocks before p c.args.instance.now.input c.header.new.self c.settle.new.run progress (seen_construct c.args.construct)
    (seen_header c.in-Ok.header) c.settle.result
    (record { before = c.args.run.now; goes = goes; first = c.requires.next; header = c.in-Ok.ensures.header; place = c.header.ensures.place })
    (c.lawful_programs_are_quiet_and_small.ensures.functions p (subst IsLawful (sym c.requires.program) c.program-program.ensures.lawful))
    (subst IsAccepted (sym c.requires.program) c.program-program.ensures.accepted c.args.number (seen_construct c.args.construct) c.requires.construct)
    c.if-header-eq0.true c.settle.ensures.settled

pub returns-then-header-eq0-clause-nearer : goal.returns-then-header-eq0-clause-nearer
returns-then-header-eq0-clause-nearer c =
    further-uncounted (program_of c.args.instance.now) c.args.run.now c.header.new.self c.settle.new.run (seen_construct c.args.construct) (Carried c.in-Ok.header.start) c.settle.result
    c.requires.next c.header.ensures.place c.settle.ensures.settled c.header.ensures.run.passed

pub returns-clause-arrived : goal.returns-clause-arrived
returns-clause-arrived c = λ before progress goes.
    record { before = c.args.run.now; goes = goes; first = c.requires.next; header = c.in-Ok.ensures.header; place = c.header.ensures.place }

pub returns-clause-ready : goal.returns-clause-ready
returns-clause-ready c =
    let p = program_of c.args.instance.now in
    record {
      construct = c.requires.construct;
      next = ap (λ n. construct_first (rest_from n p.main)) c.header.ensures.place ∙ c.requires.next;
      blocks = has-its-blocks (environment_of p c.args.instance.now.input) (seen_construct c.args.construct) (moment_of p c.args.run.now) c.in-Ok.header _ c.in-Ok.ensures.header.answer;
      some = (let not_zero = c.if-header-eq0.false in omega (arith, not_zero));
      few = c.in-Ok.ensures.few;
      fits = c.in-Ok.ensures.numbers;
    }

pub returns-clause-nearer : goal.returns-clause-nearer
returns-clause-nearer c = near-there (program_of c.args.instance.now) c.args.run.now c.header.new.self c.args.number c.args.construct c.in-Ok.header c.header.ensures.place

use Rattle.std.proofs.Common.{◌∙◌, sym, ap, subst, ◌∷◌, [], ◌++◌, length, map}
use Rattle.spf_ast.specs.ConstructView.{construct as seen_construct}
use Rattle.spf_ast.specs.Construct.{constructs_in}
use Rattle.spf_ast.specs.Lawful.{IsLawful}
use Rattle.spf_ast.specs.Pieces.{construct_first, rest_from}
use Rattle.spf_check.specs.Accepting.{IsAccepted}
use Rattle.spf_exec.specs.Pieces.{RunState, seen_header}
use Rattle.spf_exec_instance.specs.Instance.{program_of}
use Rattle.spf_guess_statistics.specs.declared.stats.Stats.{Stats}
use Rattle.spf_guess_statistics.specs.Statistics.{plus}
use Rattle.spf_guess.specs.Answers.{handed_in}
use Rattle.spf_engine_laws.specs.Passed.{passed_from, OneByOne, IsItsTrace}
use Rattle.spf_engine_laws.specs.Progress.{entry_there, entry_guess, with_construct, past_construct}
use Rattle.spf_engine_laws.proofs.Passed.{one-by-one-append}
use Rattle.spf_engine.specs.Runs.{ComesFurther}
use Rattle.spf_engine.proofs.Ending.{few-within}
use Rattle.spf_engine.proofs.Missing.{handed-in}
use Rattle.spf_engine.proofs.Passing.{goes-past-blocks, blocks-come, its-trace}
use Rattle.spf_engine.proofs.Stepping.{entered-told-first, told-there, further-after, if-err}
use Rattle.spf_engine.proofs.runner.Runner.pass.Goals as goal

pub run_at-requires-clause-host : goal.run_at-requires-clause-host
run_at-requires-clause-host g c κs within =
    handed-in (length c.args.hosts.now.items) (constructs_in (program_of c.args.self.now.instance.now).main) c.args.number (seen_construct c.args.construct) c.requires.hosts c.requires.ready.construct

pub settle-step-requires-clause-construct : goal.settle-step-requires-clause-construct
settle-step-requires-clause-construct g c =
    let p = program_of c.args.self.now.instance.now in
    ap (λ (s : RunState). construct_first (rest_from s.place p.main)) c.run_at.ensures.others ∙ c.requires.ready.next

pub returns-in_err-report-clause-told_first : goal.returns-in_err-report-clause-told_first
returns-in_err-report-clause-told_first g c = if-err _
    (entered-told-first (program_of c.args.self.now.instance.now) c.args.self.now.instance.now.input (seen_construct c.args.construct) (seen_header c.args.header.now) c.args.run.now _ _ c.in_err-report.ensures.nothing_told)

pub add-requires : goal.add-requires
add-requires g c = record {
  few = few-within (program_of c.args.self.now.instance.now) c.args.run.now c.args.account.now.stats c.in_ok-report.report.stats
      (c.lawful_programs_are_quiet_and_small.ensures.constructs (program_of c.args.self.now.instance.now) (subst IsLawful (sym c.requires.program) c.program-program.ensures.lawful))
      c.requires.few c.in_ok-report.ensures.few;
}

pub returns-in_err-add-clause-told_first : goal.returns-in_err-add-clause-told_first
returns-in_err-add-clause-told_first g c =
    let p = program_of c.args.self.now.instance.now in
    let i = c.args.self.now.instance.now.input in
    let construct = seen_construct c.args.construct in
    let header = seen_header c.args.header.now in
    let left = c.run_at.ensures.others in
    let e = entry_there p i construct header c.args.run.now in
    if-err _ (told-there p i construct header c.args.run.now c.settle-step.new.run c.settle-step.result
    (handed_in (map (λ h. (goal.Predictor-dyn g (h.vtable, h.value)).answer h.value) c.args.hosts.now.items))
    (handed_in (map (λ h. (goal.Predictor-dyn g (h.vtable, h.value)).answer h.value) c.run_at.new.hosts.items))
    (λ before progress. past_construct before e progress)
    (λ before progress were entered. (
      goes-past-blocks c.runs_in_pieces_go_on.ensures.settle c.runs_in_pieces_go_on.ensures.blocks before p i c.args.run.now c.run_at.new.run c.settle-step.new.run progress construct header
          c.in_ok-report.report.settled c.settle-step.result entered
          (c.lawful_programs_are_quiet_and_small.ensures.functions p (subst IsLawful (sym c.requires.program) c.program-program.ensures.lawful))
          (subst IsAccepted (sym c.requires.program) c.program-program.ensures.accepted c.args.number construct c.requires.ready.construct)
          (record { frame = ap (λ (s : RunState). s.frame) left; output = ap (λ (s : RunState). s.output) left; place = ap (λ (s : RunState). s.place) left })
          (blocks-come e (entry_guess before progress.telling e) c.in_ok-report.report c.run_at.new.run.cells (c.in_ok-report.ensures.came before progress.telling were)) c.settle-step.ensures.settled,
      c.in_ok-report.ensures.told before progress.telling were,
    )))

pub returns-clause-steps : goal.returns-clause-steps
returns-clause-steps g c = λ before progress agrees were entered.
    let p = program_of c.args.self.now.instance.now in
    let i = c.args.self.now.instance.now.input in
    let construct = seen_construct c.args.construct in
    let header = seen_header c.args.header.now in
    let came = c.in_ok-report.ensures.came before progress.telling were in
    let left = c.run_at.ensures.others in
    let e = entry_there p i construct header c.args.run.now in
    let guess = entry_guess before progress.telling e in
    let report = c.in_ok-report.report in
    record {
      later = with_construct e guess progress;
      agrees = record {
        stats = c.in_ok-add.ensures.stats ∙ (λ k. plus (agrees.stats k) (came.statistics k));
        traces = subst (OneByOne IsItsTrace (progress.passed ++ passed_from e guess)) (sym c.in_ok-add.ensures.traces)
            (one-by-one-append IsItsTrace progress.passed c.args.account.now.traces.items (passed_from e guess) (report.trace ∷ []) agrees.traces
            (its-trace e guess report c.run_at.new.run.cells c.requires.ready.some came));
      };
      told = c.in_ok-report.ensures.told before progress.telling were;
      there = goes-past-blocks c.runs_in_pieces_go_on.ensures.settle c.runs_in_pieces_go_on.ensures.blocks before p i c.args.run.now c.run_at.new.run c.settle-step.new.run progress construct header
          report.settled c.settle-step.result entered
          (c.lawful_programs_are_quiet_and_small.ensures.functions p (subst IsLawful (sym c.requires.program) c.program-program.ensures.lawful))
          (subst IsAccepted (sym c.requires.program) c.program-program.ensures.accepted c.args.number construct c.requires.ready.construct)
          (record { frame = ap (λ (s : RunState). s.frame) left; output = ap (λ (s : RunState). s.output) left; place = ap (λ (s : RunState). s.place) left })
          (blocks-come e guess report c.run_at.new.run.cells came) c.settle-step.ensures.settled;
    }

pub returns-clause-further : goal.returns-clause-further
returns-clause-further g c =
    subst (λ (s : Stats). ComesFurther (program_of c.args.self.now.instance.now) c.settle-step.result c.args.run.now c.settle-step.new.run s) (sym c.in_ok-add.ensures.stats)
    (further-after (program_of c.args.self.now.instance.now) c.args.run.now c.run_at.new.run c.settle-step.new.run (seen_construct c.args.construct) c.in_ok-report.report.settled c.settle-step.result
    c.args.account.now.stats c.in_ok-report.report.stats c.requires.ready.next (ap (λ (s : RunState). s.place) c.run_at.ensures.others) c.settle-step.ensures.settled c.run_at.ensures.run.passed c.requires.few c.in_ok-report.ensures.few)

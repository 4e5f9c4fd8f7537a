use Rattle.std.proofs.Common.{◌≡◌, ◌∙◌, ◌++◌, List, length, sym, ap, subst, arith}
use Rattle.spf_ast.specs.ConstructView.{construct as seen_construct}
use Rattle.spf_ast.specs.Construct.{constructs_in}
use Rattle.spf_ast.specs.Lawful.{IsLawful}
use Rattle.spf_check.specs.Accepting.{IsAccepted}
use Rattle.spf_exec.specs.Pieces.{RunState, seen_header}
use Rattle.spf_exec_instance.specs.Instance.{program_of}
use Rattle.spf_guess_statistics.specs.declared.stats.Stats.{Stats}
use Rattle.spf_guess_statistics.specs.Statistics.{plus, statistics_with}
use Rattle.spf_guess_statistics.specs.Guess.{tells}
use Rattle.spf_chain.specs.Finishing.{result_as}
use Rattle.spf_speculation_entry.specs.Entry.{Entry, plain_blocks}
use Rattle.spf_engine_laws.specs.Passed.{PassedConstruct, passed_from}
use Rattle.spf_engine_laws.specs.Progress.{entry_there, entry_guess, past_construct}
use Rattle.spf_replay.specs.Plainly.{AreRunPlainly}
use Rattle.spf_engine.specs.Runs.{ComesFurther}
use Rattle.spf_replay_walk.specs.Visiting.{VisitsFrom}
use Rattle.spf_engine.proofs.Ending.{few-within}
use Rattle.spf_engine.proofs.Missing.{handed-in}
use Rattle.spf_engine.proofs.Passing.{goes-past-blocks, entry_with, guess_with, retold}
use Rattle.spf_engine.proofs.Stepping.{entered-told-first, further-after, if-err}
use Rattle.spf_replay_walk.proofs.Passing.{plain-come, put-run}
use Rattle.spf_replay_walk.proofs.walker.Walker.pass.Goals as goal

pub examine-requires-clause-host : goal.examine-requires-clause-host
examine-requires-clause-host g c =
    handed-in (length c.args.hosts.now.items) (constructs_in (program_of c.args.self.now.instance.now).main) c.args.site.now.number (seen_construct c.args.site.now.construct) c.requires.hosts c.requires.ready.construct

pub returns-in_err-examined-clause-told_first : goal.returns-in_err-examined-clause-told_first
returns-in_err-examined-clause-told_first g c = if-err _
    (entered-told-first (program_of c.args.self.now.instance.now) c.args.self.now.instance.now.input (seen_construct c.args.site.now.construct) (seen_header c.args.site.now.header) c.args.run.now _ _ c.in_err-examined.ensures.nothing_told)

pub plus-requires : goal.plus-requires
plus-requires g c =
    let few = few-within (program_of c.args.self.now.instance.now) c.args.run.now c.args.stats.now c.in_ok-examined.examined.stats
    (c.lawful_programs_are_quiet_and_small.ensures.constructs (program_of c.args.self.now.instance.now) (subst IsLawful (sym c.requires.program) c.program-program.ensures.lawful))
    c.requires.few c.in_ok-examined.ensures.few in
    let b = few.blocks in let h = few.hits in let m = few.misses in let n = few.blind in
    record { blocks = omega (arith, b); hits = omega (arith, h); misses = omega (arith, m); blind = omega (arith, n) }

pub returns-clause-steps : goal.returns-clause-steps
returns-clause-steps g c = λ before progress counted were entered.
    let p = program_of c.args.self.now.instance.now in
    let i = c.args.self.now.instance.now.input in
    let construct = seen_construct c.args.site.now.construct in
    let header = seen_header c.args.site.now.header in
    let e = entry_there p i construct header c.args.run.now in
    let blocks = c.in_ok-examined.examined in
    let put : c.swap_cells-2.new.self ≡ record c.args.run.now { cells = blocks.cells.items } =
    c.swap_cells-2.ensures.run ∙ ap (λ (s : RunState). let t : RunState = record s { cells = blocks.cells.items } in t) c.swap_cells.ensures.run in
    let frame = c.frame.ensures ∙ ap (λ (s : RunState). s.frame) c.swap_cells.ensures.run in
    let cells = c.swap_cells.ensures.cells in
    let came = subst (λ (x : Entry). AreRunPlainly x (plain_blocks x).values (result_as blocks.settled) blocks.cells.items) (λ k. entry_with p i construct header (frame k) (cells k)) c.in_ok-examined.ensures.plain in
    record {
      later = past_construct before e progress;
      visited = subst (λ (l : List PassedConstruct). VisitsFrom g.V.Visitor.has_visited progress.passed c.args.visitor.now (progress.passed ++ l) c.examine.new.visitor)
          (λ k. passed_from (entry_with p i construct header (frame k) (cells k)) (guess_with before progress.telling p i construct header (frame k) (cells k)))
          (c.in_ok-examined.ensures.visited before progress.telling were progress.passed);
      stats_are = c.plus.ensures ∙ (λ k. plus (counted k) (c.in_ok-examined.ensures.statistics before progress.telling were k))
          ∙ (λ k. plus progress.stats (statistics_with (guess_with before progress.telling p i construct header (frame k) (cells k)) (plain_blocks (entry_with p i construct header (frame k) (cells k))).values));
      told = retold before _ _ _
          (λ k. progress.telling ++ tells construct header (plain_blocks (entry_with p i construct header (frame k) (cells k))).values)
          (c.in_ok-examined.ensures.told before progress.telling were);
      there = goes-past-blocks c.runs_in_pieces_go_on.ensures.settle c.runs_in_pieces_go_on.ensures.blocks before p i c.args.run.now c.swap_cells-2.new.self c.settle.new.run progress construct header
          blocks.settled c.settle.result entered
          (c.lawful_programs_are_quiet_and_small.ensures.functions p (subst IsLawful (sym c.requires.program) c.program-program.ensures.lawful))
          (subst IsAccepted (sym c.requires.program) c.program-program.ensures.accepted c.args.site.now.number construct c.requires.ready.construct)
          (record { frame = ap (λ (s : RunState). s.frame) put; output = ap (λ (s : RunState). s.output) put; place = ap (λ (s : RunState). s.place) put })
          (plain-come e (plain_blocks e).values blocks.settled blocks.cells.items c.swap_cells-2.new.self.cells came (ap (λ (s : RunState). s.cells) put)) c.settle.ensures.settled;
    }

pub returns-clause-further : goal.returns-clause-further
returns-clause-further g c =
    let p = program_of c.args.self.now.instance.now in
    let blocks = c.in_ok-examined.examined in
    let put : c.swap_cells-2.new.self ≡ record c.args.run.now { cells = blocks.cells.items } =
    c.swap_cells-2.ensures.run ∙ ap (λ (s : RunState). let t : RunState = record s { cells = blocks.cells.items } in t) c.swap_cells.ensures.run in
    let run = put-run p (length c.args.self.now.instance.now.input) c.args.run.now c.swap_cells-2.new.self blocks.cells.items c.requires.run put
    (c.in_ok-examined.ensures.size ∙ ap length c.swap_cells.ensures.cells) in
    subst (λ (s : Stats). ComesFurther p c.settle.result c.args.run.now c.settle.new.run s) (sym c.plus.ensures)
    (further-after p c.args.run.now c.swap_cells-2.new.self c.settle.new.run (seen_construct c.args.site.now.construct) blocks.settled c.settle.result
    c.args.stats.now blocks.stats c.requires.ready.next (ap (λ (s : RunState). s.place) put) c.settle.ensures.settled run.passed c.requires.few c.in_ok-examined.ensures.few)

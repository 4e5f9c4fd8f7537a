use Rattle.std.proofs.Common.{◌∙◌, ◌+◌, ◌-◌, ◌++◌, List, ℤ, length, map, sym, ap, subst, refl, arith}
use Rattle.std.specs.Global.{Vec}
use Rattle.std.proofs.lemmas.List.{length-map}
use Rattle.spf_ast.specs.Construct.{part_of}
use Rattle.spf_ast.specs.ConstructView.{construct as seen_construct}
use Rattle.spf_ast.specs.Event.{word_at}
use Rattle.spf_ast.specs.Lawful.{IsLawful}
use Rattle.spf_check.specs.Accepting.{IsAccepted}
use Rattle.spf_exec_instance.specs.Instance.{program_of}
use Rattle.spf_exec.specs.Pieces.{seen_header}
use Rattle.spf_guess_statistics.specs.declared.guess.Guess as code_guess
use Rattle.spf_guess_statistics.specs.Guess.{tells}
use Rattle.spf_region.specs.declared.span.Span.{Span}
use Rattle.spf_engine_construct.specs.Guesses.{seen_guess, guesses_from}
use Rattle.spf_engine_construct.proofs.Hosts.{retold}
use Rattle.spf_engine_construct.proofs.Widths.{guess-width}
use Rattle.spf_engine_laws.specs.Passed.{PassedConstruct, real_rows_from}
use Rattle.spf_engine_laws.proofs.Constructs.{emits-none}
use Rattle.spf_speculation_entry.specs.Entry.{IsEntry, plain_blocks}
use Rattle.spf_replay.specs.Copying.{HasOwnSpans}
use Rattle.spf_replay.proofs.Copies.{whole-slice}
use Rattle.spf_replay.proofs.Planned.{own-planned}
use Rattle.spf_replay_walk.specs.Positions.{entry_at, spans_of}
use Rattle.spf_engine_laws.specs.Progress.{entry_guess}
use Rattle.spf_replay_walk.specs.Visiting.{AreGuesses, VisitsFrom}
use Rattle.spf_replay_walk.proofs.InPlace.{put-back}
use Rattle.spf_replay_walk.proofs.Passing.{are-guesses, few-reals, some-blocks, counted-are}
use Rattle.spf_replay_walk.proofs.walker.Walker.examine.Goals as goal

pub take_guesses_alone-requires-clause-functions : goal.take_guesses_alone-requires-clause-functions
take_guesses_alone-requires-clause-functions g c =
    c.lawful_programs_are_quiet_and_small.ensures.functions (program_of c.args.position.instance.now) (subst IsLawful (sym c.requires.there.program) c.program-program.ensures.lawful)

pub take_guesses_alone-requires-clause-width : goal.take_guesses_alone-requires-clause-width
take_guesses_alone-requires-clause-width g c =
    guess-width (program_of c.args.position.instance.now) c.args.position.index (seen_construct c.args.position.construct)
    (c.breaks_stay_in_their_loops.ensures.programs (program_of c.args.position.instance.now) (subst IsLawful (sym c.requires.there.program) c.program-program.ensures.lawful))
    c.requires.there.construct

pub visit-requires-clause-is : goal.visit-requires-clause-is
visit-requires-clause-is g c =
    let there = c.requires.there in
    let p = program_of c.args.position.instance.now in
    let construct = seen_construct c.args.position.construct in
    let plan = c.in_ok-plan.plan in
    let own = c.in_ok-plan.ensures.plan in
    let cells = c.deref-3.ensures.value ∙ c.in_ok-blocks.ensures.cells in
    record {
      is_entry = subst (λ (m : List ℤ). IsEntry (entry_at c.args.position c.args.header.now m)) (c.deref-2.ensures.value ∙ sym cells) c.in_ok-plan.ensures.entry;
      top = there.construct;
      cells = ap length cells ∙ there.cells;
      frame = there.frame;
      silent = λ n. emits-none p construct (subst IsAccepted (sym there.program) c.program-program.ensures.accepted c.args.position.index construct there.construct) (part_of construct n);
      functions_silent = c.lawful_programs_are_quiet_and_small.ensures.functions p (subst IsLawful (sym there.program) c.program-program.ensures.lawful);
      few = there.few;
      numbers = there.fits;
      plan = sym (length-map plan.blocks.items (λ (v : Vec Span). v.items)) ∙ own.count;
      spans = own.spans;
      guesses = ap (λ (l : List code_guess.Guess). length l + 1) c.deref-4.ensures.value ∙ c.in_ok-guesses.ensures.size;
      reals = c.deref-5.ensures.value ∙ c.in_ok-blocks.ensures.reals ∙ ap (λ (m : List ℤ). (plain_blocks (entry_at c.args.position c.args.header.now m)).values) (sym cells);
    }

pub visit-requires-clause-scratch : goal.visit-requires-clause-scratch
visit-requires-clause-scratch g c =
    let there = c.requires.there in
    let spare = c.run_plainly.ensures.spare in
    let cells = c.deref-3.ensures.value ∙ c.in_ok-blocks.ensures.cells in
    let e = entry_at c.args.position c.args.header.now c.args.cells.items in
    record {
      room = record { cells = spare.cells ∙ sym (ap length cells ∙ there.cells); work = spare.work ∙ sym there.frame };
      words = λ n cell low mine.
          c.in_ok-blocks.ensures.before cell (own-planned e (spans_of c.in_ok-plan.plan) n cell
          (subst (λ (m : List ℤ). HasOwnSpans (entry_at c.args.position c.args.header.now m) (spans_of c.in_ok-plan.plan)) c.deref-2.ensures.value c.in_ok-plan.ensures.plan) low mine) ∙ ap (λ m. word_at m cell) (sym cells);
    }

pub count_blocks-stats-requires-clause-few : goal.count_blocks-stats-requires-clause-few
count_blocks-stats-requires-clause-few g c =
    let few = few-reals (entry_at c.args.position c.args.header.now c.args.cells.items) c.deref-6.result.now (c.deref-6.ensures.value ∙ c.in_ok-blocks.ensures.reals) in
    let most = c.requires.there.few in
    omega (arith, few, most)

pub count_blocks-stats-requires-clause-enough : goal.count_blocks-stats-requires-clause-enough
count_blocks-stats-requires-clause-enough g c =
    let few = few-reals (entry_at c.args.position c.args.header.now c.args.cells.items) c.deref-6.result.now (c.deref-6.ensures.value ∙ c.in_ok-blocks.ensures.reals) in
    let size = ap (λ (l : List code_guess.Guess). length l + 1) c.deref-7.ensures.value ∙ c.in_ok-guesses.ensures.size in
    omega (arith, few, size)

pub tell_history-requires-clause-host : goal.tell_history-requires-clause-host
tell_history-requires-clause-host g c = λ position host at.
    let low = c.requires.host position host at in
    let same = c.take_guesses_alone.ensures.count in
    omega (arith, low, same)

pub tell_history-requires-clause-few : goal.tell_history-requires-clause-few
tell_history-requires-clause-few g c =
    few-reals (entry_at c.args.position c.args.header.now c.args.cells.items) c.deref-8.result.now (c.deref-8.ensures.value ∙ c.in_ok-blocks.ensures.reals)

pub returns-clause-plain : goal.returns-clause-plain
returns-clause-plain g c =
    let e = entry_at c.args.position c.args.header.now c.args.cells.items in
    let made = c.in_ok-blocks.blocks.cells in
    let now = c.copy_plan.new.to in
    let size = c.copy_plan.ensures.same ∙ ap length c.deref_mut.ensures.value in
    record {
      reals_are = refl;
      result_is = c.in_ok-blocks.ensures.result;
      memory_is = whole-slice made.len now made.items (size ∙ sym made.ok.0) (sym made.ok.0)
          ∙ put-back (record { runs = c.each_form_has_one_plain_run.ensures.parts; overwrite = c.blocks_overwrite.ensures }) e
          (subst (λ (m : List ℤ). IsEntry (entry_at c.args.position c.args.header.now m)) c.deref-2.ensures.value c.in_ok-plan.ensures.entry) (spans_of c.in_ok-plan.plan)
          (subst (λ (m : List ℤ). HasOwnSpans (entry_at c.args.position c.args.header.now m) (spans_of c.in_ok-plan.plan)) c.deref-2.ensures.value c.in_ok-plan.ensures.plan)
          c.deref-9.result.now c.deref_mut.result.now now (c.deref_mut.ensures.value ∙ c.in_ok-blocks.ensures.cells)
          (λ cell inside. ap (λ m. word_at m cell) c.deref-9.ensures.value ∙ c.in_ok-blocks.ensures.after cell inside) c.copy_plan.ensures.copied (size ∙ ap length c.in_ok-blocks.ensures.cells);
    }

pub returns-clause-statistics : goal.returns-clause-statistics
returns-clause-statistics g c = λ before telling were.
    let e = entry_at c.args.position c.args.header.now c.args.cells.items in
    let gave = c.in_ok-guesses.ensures.guesses before telling were
    ∙ (λ i. guesses_from (entry_guess before telling (entry_at c.args.position c.args.header.now (c.deref.ensures.value i))) 1 (c.args.header.now.blocks - 1)) in
    c.count_blocks-stats.ensures.counts
    ∙ counted-are (entry_guess before telling e) c.deref-7.result.now c.deref-6.result.now e
    (ap (map seen_guess) c.deref-7.ensures.value ∙ gave) (c.deref-6.ensures.value ∙ c.in_ok-blocks.ensures.reals) c.requires.there.some

pub returns-clause-visited : goal.returns-clause-visited
returns-clause-visited g c = λ before telling were passed.
    let e = entry_at c.args.position c.args.header.now c.args.cells.items in
    let guess = entry_guess before telling e in
    let gave = c.in_ok-guesses.ensures.guesses before telling were
    ∙ (λ i. guesses_from (entry_guess before telling (entry_at c.args.position c.args.header.now (c.deref.ensures.value i))) 1 (c.args.header.now.blocks - 1)) in
    let cells = c.deref-3.ensures.value ∙ c.in_ok-blocks.ensures.cells in
    let x : PassedConstruct = record { entry = e; guess = λ n. (guess n).value; reals = real_rows_from e } in
    subst (λ (l : List PassedConstruct). VisitsFrom g.V.Visitor.has_visited passed c.args.visitor.now (passed ++ l) c.visit.new.self) (some-blocks c.args.header.now.blocks x c.requires.there.some)
    (c.in_ok-visit.ensures.next passed x (λ i. entry_at c.args.position c.args.header.now (sym cells i))
    (subst (λ (l : List code_guess.Guess). AreGuesses l x.guess) (sym c.deref-4.ensures.value)
    (are-guesses c.in_ok-guesses.guesses.items guess (c.args.header.now.blocks - 1) gave)))

pub returns-clause-told : goal.returns-clause-told
returns-clause-told g c = λ before telling were.
    retold before _ _ _ (ap (λ vs. telling ++ tells (seen_construct c.args.position.construct) (seen_header c.args.header.now) vs) (c.deref-8.ensures.value ∙ c.in_ok-blocks.ensures.reals))
    (c.tell_history.ensures.told before telling (c.in_ok-guesses.ensures.told before telling were))

use Rattle.std.proofs.Common.{length, sym, ap, ◌∙◌, subst}
use Rattle.spf_ast.specs.Construct.{part_of}
use Rattle.spf_ast.specs.ConstructView.{construct as seen_construct}
use Rattle.spf_ast.specs.Event.{word_at}
use Rattle.spf_ast.specs.Lawful.{IsLawful}
use Rattle.spf_check.specs.Accepting.{IsAccepted}
use Rattle.spf_exec_instance.specs.Instance.{program_of}
use Rattle.spf_engine_laws.proofs.Constructs.{emits-none}
use Rattle.spf_replay.specs.Copying.{in_plan}
use Rattle.spf_replay.proofs.Copies.{copied-in, whole-slice}
use Rattle.spf_replay_walk.specs.Positions.{entry_at, spans_of}
use Rattle.spf_replay_walk.proofs.InPlace.{restored}
use Rattle.spf_replay_walk.proofs.plainly.run_plainly.Goals as goal

pub run_blocks-requires-clause-silent : goal.run_blocks-requires-clause-silent
run_blocks-requires-clause-silent c = λ n.
    emits-none (program_of c.args.position.instance.now) (seen_construct c.args.position.construct)
    (subst IsAccepted (sym c.requires.there.program) c.program-program.ensures.accepted c.args.position.index (seen_construct c.args.position.construct) c.requires.there.construct)
    (part_of (seen_construct c.args.position.construct) n)

pub run_blocks-requires-clause-functions_silent : goal.run_blocks-requires-clause-functions_silent
run_blocks-requires-clause-functions_silent c =
    c.lawful_programs_are_quiet_and_small.ensures.functions (program_of c.args.position.instance.now) (subst IsLawful (sym c.requires.there.program) c.program-program.ensures.lawful)

pub returns-clause-before : goal.returns-clause-before
returns-clause-before c = λ cell inside.
    let was = c.args.spare.now.scratch.cells in
    let whole = whole-slice was.len c.copy_plan.new.to was.items (c.copy_plan.ensures.same ∙ ap length c.deref_mut.ensures.value ∙ sym was.ok.0) (sym was.ok.0) in
    ap (λ m. word_at m cell) whole
    ∙ copied-in (in_plan (spans_of c.args.plan.now)) c.deref.result.now c.deref_mut.result.now c.copy_plan.new.to cell c.copy_plan.ensures.copied inside
    ∙ ap (λ m. word_at m cell) c.deref.ensures.value

pub returns-clause-after : goal.returns-clause-after
returns-clause-after c = λ cell inside.
    let was = c.args.spare.now.after in
    let whole = whole-slice was.len c.copy_plan-2.new.to was.items (c.copy_plan-2.ensures.same ∙ ap length c.deref_mut-2.ensures.value ∙ sym was.ok.0) (sym was.ok.0) in
    ap (λ m. word_at m cell) whole
    ∙ copied-in (in_plan (spans_of c.args.plan.now)) c.deref-2.result.now c.deref_mut-2.result.now c.copy_plan-2.new.to cell c.copy_plan-2.ensures.copied inside
    ∙ ap (λ m. word_at m cell) (c.deref-2.ensures.value ∙ c.in_ok-reals.ensures.plain.memory_is)

pub returns-clause-cells : goal.returns-clause-cells
returns-clause-cells c =
    let e = entry_at c.args.position c.args.header.now c.args.cells.items in
    let made = c.run_blocks.new.memory.cells in
    let now = c.copy_plan-3.new.to in
    let size = c.copy_plan-3.ensures.same ∙ ap length c.deref_mut-3.ensures.value in
    let before = returns-clause-before c in
    whole-slice made.len now made.items (size ∙ sym made.ok.0) (sym made.ok.0)
    ∙ restored (record { runs = c.each_form_has_one_plain_run.ensures.parts; overwrite = c.blocks_overwrite.ensures }) e c.requires.entry (spans_of c.args.plan.now) c.requires.plan
    c.deref-3.result.now c.deref_mut-3.result.now now (c.deref_mut-3.ensures.value ∙ c.in_ok-reals.ensures.plain.memory_is)
    (λ cell inside. ap (λ m. word_at m cell) c.deref-3.ensures.value ∙ before cell inside) c.copy_plan-3.ensures.copied (size ∙ c.in_ok-reals.ensures.cells)

use Rattle.std.proofs.Common.{List, ℤ, Some, map, drop, ◌≡◌, subst}
use Rattle.spf_ast.specs.BlockRun.{block_setup, part_asks}
use Rattle.spf_ast.specs.ConstructView.{construct}
use Rattle.spf_ast.specs.Interaction.{perform, Misfit}
use Rattle.spf_exec_instance.specs.Frame.{main_slots}
use Rattle.spf_exec_instance.specs.Instance.{program_of}
use Rattle.spf_region.specs.Cells.{in_spans}
use Rattle.spf_replay.specs.Reading.{event_of, in_log}
use Rattle.spf_replay.specs.Attempts.{ComesTo}
use Rattle.spf_replay.proofs.Performing.{read-so, unread-so}
use Rattle.spf_replay.proofs.attempt.read_attempt.Goals as goal

pub returns-then-memory-clause-came : goal.returns-then-memory-clause-came
returns-then-memory-clause-came c =
    let p = program_of c.args.context.instance.now in
    let b = c.args.block.now in
    let done = c.exec_block-stop.ensures.performs.performs in
    let m = c.exec_block-stop.new.memory in
    subst (λ (f : List ℤ). ComesTo (perform (in_spans c.args.context.spans.now) c.args.context.entry.now (Some c.args.attempt)
    (part_asks p (construct b.construct) b.part (block_setup c.args.context.instance.now.input (main_slots p f) b.number b.value))
    (map event_of (drop c.args.at c.args.log.now))) c.args.log.now (Some (c.exec_block-stop.result, m.at))) c.restore.ensures.equal
    (read-so c.args.context.spans.now c.args.context.entry.now c.args.attempt c.args.log.now c.args.at
    (part_asks p (construct b.construct) b.part (block_setup c.args.context.instance.now.input (main_slots p c.restore.new.self) b.number b.value))
    c.exec_block-stop.result done.events c.exec_block-stop.ensures.performs.slots (in_log m.spans.now m.entry.now m.attempt m.log.now m.at m.fits)
    done.performed done.led c.if-memory.true m.inside)

pub returns-else-memory-clause-came : goal.returns-else-memory-clause-came
returns-else-memory-clause-came c =
    let p = program_of c.args.context.instance.now in
    let b = c.args.block.now in
    let done = c.exec_block-stop.ensures.performs.performs in
    let m = c.exec_block-stop.new.memory in
    subst (λ (f : List ℤ). perform (in_spans c.args.context.spans.now) c.args.context.entry.now (Some c.args.attempt)
    (part_asks p (construct b.construct) b.part (block_setup c.args.context.instance.now.input (main_slots p f) b.number b.value))
    (map event_of (drop c.args.at c.args.log.now)) ≡ Misfit) c.restore.ensures.equal
    (unread-so c.args.context.spans.now c.args.context.entry.now c.args.attempt c.args.log.now c.args.at
    (part_asks p (construct b.construct) b.part (block_setup c.args.context.instance.now.input (main_slots p c.restore.new.self) b.number b.value))
    c.exec_block-stop.result done.events c.exec_block-stop.ensures.performs.slots (in_log m.spans.now m.entry.now m.attempt m.log.now m.at m.fits)
    done.performed done.led c.if-memory.false)

use Rattle.std.proofs.Common.{List, Ok, Err, ℤ, subst}
use Rattle.spf_ast.specs.BlockRun.{block_setup, part_asks}
use Rattle.spf_ast.specs.ConstructView.{construct}
use Rattle.spf_exec_instance.specs.Frame.{main_slots}
use Rattle.spf_exec_instance.specs.Instance.{program_of}
use Rattle.spf_exec_memory.specs.declared.plain.Plain.{Plain}
use Rattle.spf_exec_memory.proofs.Outcome.{plain_outcome}
use Rattle.spf_replay.specs.Plainly.{BlockGives}
use Rattle.spf_replay.proofs.plain.run_block.Goals as goal

pub unreachable-requires : goal.unreachable-requires
unreachable-requires c = plain_outcome (λ (m : Plain). m.cells.items) _ _ _ _ _ _ c.in-Cancelled.ensures.performs.performs

pub returns-in-Ended-clause-gives : goal.returns-in-Ended-clause-gives
returns-in-Ended-clause-gives c =
    let p = program_of c.args.instance.now in
    let b = c.args.block.now in
    let out = plain_outcome (λ (m : Plain). m.cells.items) _ _ _ _ _ _ c.in-Ended.ensures.performs.performs in
    subst (λ (x : List ℤ). BlockGives (part_asks p (construct b.construct) b.part (block_setup c.args.instance.now.input (main_slots p x) b.number b.value)) c.args.memory.now.cells.items (Ok c.in-Ended.row) c.exec_block.new.memory.cells.items)
    c.restore.ensures.equal ((_, out.0), out.1)

pub returns-in-Trapped-clause-gives : goal.returns-in-Trapped-clause-gives
returns-in-Trapped-clause-gives c =
    let p = program_of c.args.instance.now in
    let b = c.args.block.now in
    let out = plain_outcome (λ (m : Plain). m.cells.items) _ _ _ _ _ _ c.in-Trapped.ensures.performs.performs in
    subst (λ (x : List ℤ). BlockGives (part_asks p (construct b.construct) b.part (block_setup c.args.instance.now.input (main_slots p x) b.number b.value)) c.args.memory.now.cells.items (Err c.in-Trapped.trap) c.exec_block.new.memory.cells.items)
    c.restore.ensures.equal ((_, out.0), out.1)

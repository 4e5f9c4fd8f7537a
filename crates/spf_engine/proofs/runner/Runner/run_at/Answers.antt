use Rattle.std.proofs.Common.{◌∙◌, sym, ap, ◌++◌, length}
use Rattle.spf_ast.specs.ConstructView.{construct as seen_construct}
use Rattle.spf_exec_instance.specs.Instance.{program_of}
use Rattle.spf_exec.specs.Pieces.{seen_header}
use Rattle.spf_speculation_entry.specs.Entry.{plain_blocks}
use Rattle.spf_guess_statistics.specs.Guess.{tells}
use Rattle.spf_engine.proofs.Passing.{entry_with, come-as, refilled-is, retold}
use Rattle.spf_engine.proofs.runner.Runner.run_at.Goals as goal

pub returns-clause-came : goal.returns-clause-came
returns-clause-came g c = λ before telling were.
    let p = program_of c.args.self.now.instance.now in
    let r = c.write_back.result in
    let came = c.in_ok-blocks.ensures.came before telling were r.settled r.trace c.cells_mut.result.now c.write_back.new.into c.write_back.ensures.finished (c.cells_mut.ensures.value ∙ sym c.cells.ensures) in
    come-as before telling p c.args.self.now.instance.now.input (seen_construct c.args.construct) (seen_header c.args.header.now) c.frame.result.now c.args.run.now.frame c.cells.result.now c.args.run.now.cells
    (record { settled = r.settled; stats = c.in_ok-blocks.blocks.stats; trace = r.trace }) r c.write_back.new.into _
    c.frame.ensures c.cells.ensures (λ i. record { settled = r.settled; stats = sym c.write_back.ensures.stats i; trace = r.trace })
    (refilled-is c.args.run.now.cells c.write_back.new.into (c.write_back.auto.into ∙ ap length c.cells_mut.ensures.value)) came

pub returns-clause-told : goal.returns-clause-told
returns-clause-told g c = λ before telling were.
    let p = program_of c.args.self.now.instance.now in
    let construct = seen_construct c.args.construct in
    let header = seen_header c.args.header.now in
    retold before _ _ _
    (λ i. telling ++ tells construct header (plain_blocks (entry_with p c.args.self.now.instance.now.input construct header (c.frame.ensures i) (c.cells.ensures i))).values)
    (c.in_ok-blocks.ensures.told before telling were)

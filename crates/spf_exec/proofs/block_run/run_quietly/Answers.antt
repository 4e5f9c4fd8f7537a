use Rattle.spf_ast.specs.ConstructView.{construct}
use Rattle.spf_exec_instance.specs.Frame.{main_slots}
use Rattle.spf_exec_instance.specs.Instance.{program_of}
use Rattle.spf_exec_memory.specs.QuietMemory.{full_output}
use Rattle.spf_exec.proofs.BlockRuns.{quiet_run}
use Rattle.spf_exec.proofs.block_run.run_quietly.Goals as goal

pub returns-clause-performs : goal.returns-clause-performs
returns-clause-performs g c =
    let p = program_of c.args.instance.now in
    quiet_run p c.args.instance.now.input (construct c.args.block.now.construct) c.args.block.now.part (main_slots p c.args.frame.now) _ full_output.bytes c.args.block.now.number c.args.block.now.value
    c.requires.silent c.requires.functions_silent c.run_part.ensures.performs

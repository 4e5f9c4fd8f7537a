use Rattle.std.proofs.Common.{length, refl}
use Rattle.spf_code_registers.specs.Registers.{rooms}
use Rattle.spf_exec_instance.specs.Instance.{program_of}
use Rattle.spf_exec_instance.specs.Frame.{main_slots}
use Rattle.spf_exec_memory.specs.Performs.{state}
use Rattle.spf_exec_instructions.specs.Instructions.{setting}
use Rattle.spf_exec.specs.Sources.{wholly}
use Rattle.spf_exec_machine.specs.Machine.{whole_means}
use Rattle.spf_code.specs.NodeView.{code}
use Rattle.spf_exec.proofs.Sources.{answer-performed, runs-whole}
use Rattle.spf_exec.proofs.entry.run.Goals as goal

pub returns-clause-performs : goal.returns-clause-performs
returns-clause-performs g c = λ room form runs wide.
    let p = program_of c.args.instance.now in
    let registers = state c.args.registers.now (g.M.Memory.output c.args.memory.now) in
    let slots = state (main_slots p c.args.registers.now) (g.M.Memory.output c.args.memory.now) in
    let context = c.context_of-context.result in
    let here = setting context (length context.functions.now) in
    answer-performed (length p.slots) (length c.args.registers.now) (whole_means here (code c.args.code.now) registers) (wholly form slots)
    (runs-whole here (length p.slots) room (code c.args.code.now) form (runs here c.context_of-context.ensures.fits) registers slots (record { slots = refl; output = refl }) wide)
    c.perform.ensures.performs

pub perform-requires-clause-fits : goal.perform-requires-clause-fits
perform-requires-clause-fits g c = record {
  calls = rooms (program_of c.args.instance.now);
  functions = c.context_of-context.ensures.functions;
  fits = c.requires.fits;
}

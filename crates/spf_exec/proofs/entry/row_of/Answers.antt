use Rattle.std.proofs.Common.{◌≡◌, ◌+◌, ◌-◌, length, refl, arith}
use Rattle.spf_ast.specs.Interaction.{◌>>◌}
use Rattle.spf_exec.specs.Sources.{reads_row}
use Rattle.spf_code_registers.specs.Registers.{rooms}
use Rattle.spf_exec_instance.specs.Instance.{program_of}
use Rattle.spf_exec_instance.specs.Frame.{main_slots}
use Rattle.spf_exec_memory.specs.Performs.{state}
use Rattle.spf_exec_memory.proofs.Steps.{at_once, then_value, exit_halt}
use Rattle.spf_exec_instructions.specs.Instructions.{setting}
use Rattle.spf_exec_machine.specs.Machine.{whole_means}
use Rattle.spf_code.specs.NodeView.{code}
use Rattle.spf_exec.proofs.Growing.{row-adds}
use Rattle.spf_exec.proofs.Sources.{answer-performed}
use Rattle.spf_exec.proofs.entry.row_of.Goals as goal

pub returns-in_err-perform-clause-performs : goal.returns-in_err-perform-clause-performs
returns-in_err-perform-clause-performs g c = λ room form gives wide.
    let p = program_of c.args.instance.now in
    let registers = state c.args.registers.now (g.M.Memory.output c.args.memory.now) in
    let slots = state (main_slots p c.args.registers.now) (g.M.Memory.output c.args.memory.now) in
    let context = c.context_of-context.result in
    let here = setting context (length context.functions.now) in
    answer-performed (length p.slots) (length c.args.registers.now) ((whole_means here (code c.args.code.now.nodes.items) >> reads_row c.args.code.now.register c.args.code.now.width) registers) (form slots)
    (gives here c.context_of-context.ensures.fits registers slots (record { slots = refl; output = refl }) wide)
    (exit_halt (λ _. reads_row c.args.code.now.register c.args.code.now.width) (λ u. row-adds c.args.code.now.register c.args.code.now.width) c.from_residual.ensures.1 (rw c.deref.ensures.value at c.in_err-perform.ensures.performs))

pub returns-clause-performs : goal.returns-clause-performs
returns-clause-performs g c = λ room form gives wide.
    let p = program_of c.args.instance.now in
    let registers = state c.args.registers.now (g.M.Memory.output c.args.memory.now) in
    let slots = state (main_slots p c.args.registers.now) (g.M.Memory.output c.args.memory.now) in
    let context = c.context_of-context.result in
    let here = setting context (length context.functions.now) in
    answer-performed (length p.slots) (length c.args.registers.now) ((whole_means here (code c.args.code.now.nodes.items) >> reads_row c.args.code.now.register c.args.code.now.width) registers) (form slots)
    (gives here c.context_of-context.ensures.fits registers slots (record { slots = refl; output = refl }) wide)
    (then_value (λ _. reads_row c.args.code.now.register c.args.code.now.width) g.met.M.Memory.laws (rw c.deref.ensures.value at c.in_ok-perform.ensures.performs)
    (let wide_is : (c.args.code.now.register + c.args.code.now.width) - c.args.code.now.register ≡ c.args.code.now.width = omega arith in rw (c.of.ensures, wide_is) (at_once g.met.M.Memory.laws _ _ _)))

pub perform-requires-clause-fits : goal.perform-requires-clause-fits
perform-requires-clause-fits g c = record {
  calls = rooms (program_of c.args.instance.now);
  functions = c.context_of-context.ensures.functions;
  fits = rw c.deref.ensures.value c.requires.fits;
}

use Rattle.std.proofs.Common.{rules, w64, FitsSigned, length, refl}
use Rattle.std.proofs.lemmas.Int.{to_z-of_z}
use Rattle.spf_ast.specs.Interaction.{◌>>◌}
use Rattle.spf_ast.specs.Meaning.{reads}
use Rattle.spf_code_registers.specs.Registers.{rooms}
use Rattle.spf_exec_instance.specs.Instance.{program_of}
use Rattle.spf_exec_instance.specs.Frame.{main_slots}
use Rattle.spf_exec_memory.specs.Performs.{state}
use Rattle.spf_exec_memory.proofs.Growing.{reads-add}
use Rattle.spf_exec_memory.proofs.Steps.{at_once, then_value, exit_halt}
use Rattle.spf_exec_instructions.specs.Instructions.{setting}
use Rattle.spf_exec_machine.specs.Machine.{whole_means}
use Rattle.spf_code.specs.NodeView.{code}
use Rattle.spf_exec.proofs.Sources.{answer-performed}
use Rattle.spf_exec.proofs.entry.value_of.Goals as goal

pub returns-in_err-perform-clause-performs : goal.returns-in_err-perform-clause-performs
returns-in_err-perform-clause-performs g c = λ room form gives wide.
    let p = program_of c.args.instance.now in
    let registers = state c.args.registers.now (g.M.Memory.output c.args.memory.now) in
    let slots = state (main_slots p c.args.registers.now) (g.M.Memory.output c.args.memory.now) in
    let context = c.context_of-context.result in
    let here = setting context (length context.functions.now) in
    answer-performed (length p.slots) (length c.args.registers.now) ((whole_means here (code c.args.code.now.nodes.items) >> reads c.args.code.now.register) registers) (form slots)
    (gives here c.context_of-context.ensures.fits registers slots (record { slots = refl; output = refl }) wide)
    (exit_halt (λ _. reads c.args.code.now.register) (λ u. reads-add c.args.code.now.register) c.from_residual.ensures.1 (rw c.deref.ensures.value at c.in_err-perform.ensures.performs))

pub returns-clause-performs : goal.returns-clause-performs
returns-clause-performs g c = λ room form gives wide.
    let p = program_of c.args.instance.now in
    let registers = state c.args.registers.now (g.M.Memory.output c.args.memory.now) in
    let slots = state (main_slots p c.args.registers.now) (g.M.Memory.output c.args.memory.now) in
    let context = c.context_of-context.result in
    let fits : FitsSigned w64 c.read.result = search rules in
    let here = setting context (length context.functions.now) in
    answer-performed (length p.slots) (length c.args.registers.now) ((whole_means here (code c.args.code.now.nodes.items) >> reads c.args.code.now.register) registers) (form slots)
    (gives here c.context_of-context.ensures.fits registers slots (record { slots = refl; output = refl }) wide)
    (then_value (λ _. reads c.args.code.now.register) g.met.M.Memory.laws (rw c.deref.ensures.value at c.in_ok-perform.ensures.performs) (rw (to_z-of_z w64 c.read.result fits, c.read.ensures) (at_once g.met.M.Memory.laws _ _ _)))

pub perform-requires-clause-fits : goal.perform-requires-clause-fits
perform-requires-clause-fits g c = record {
  calls = rooms (program_of c.args.instance.now);
  functions = c.context_of-context.ensures.functions;
  fits = rw c.deref.ensures.value c.requires.fits;
}

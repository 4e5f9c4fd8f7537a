use Rattle.std.proofs.Common.{◌+◌, length}
use Rattle.spf_ast.specs.Meaning.{expression_means}
use Rattle.spf_ast.specs.Program.{environment_of}
use Rattle.spf_ast.specs.View.{expression}
use Rattle.spf_code_registers.specs.Registers.{rooms, needs}
use Rattle.spf_code.specs.NodeView.{code}
use Rattle.spf_exec_instance.specs.Instance.{program_of}
use Rattle.spf_exec.proofs.Fitting.{expression_fits}
use Rattle.spf_exec.proofs.Sources.{gives_expression, no_slot_set, at_slots}
use Rattle.spf_exec.proofs.entry.expression.Goals as goal

pub returns-clause-kept : goal.returns-clause-kept
returns-clause-kept g c =
    no_slot_set (length (program_of c.args.instance.now).slots) (code c.args.code.now.nodes.items) c.args.registers.now c.value_of.new.registers c.requires.sets c.value_of.ensures.others

pub returns-clause-performs : goal.returns-clause-performs
returns-clause-performs g c =
    let p = program_of c.args.instance.now in
    let e = expression c.args.value.now in
    at_slots (returns-clause-kept g c)
    (c.value_of.ensures.performs (length p.slots + (1 + needs (rooms p) e)) (expression_means (environment_of p c.args.instance.now.input) c.args.line e)
    (gives_expression p c.args.instance.now.input c.args.line e c.args.code.now c.requires.code) c.requires.room)

pub value_of-requires-clause-fits : goal.value_of-requires-clause-fits
value_of-requires-clause-fits g c =
    expression_fits (program_of c.args.instance.now) c.args.line (length c.args.registers.now) (expression c.args.value.now) c.args.code.now c.requires.code c.requires.room

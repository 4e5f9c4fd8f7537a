use Rattle.std.proofs.Common.{◌+◌, max, length, refl, sym, subst, arith}
use Rattle.spf_ast.specs.Carried.{IsWidth}
use Rattle.spf_ast.specs.Syntax.{end}
use Rattle.spf_ast.specs.Meaning.{arguments_mean}
use Rattle.spf_ast.specs.Program.{environment_of}
use Rattle.spf_ast.specs.View.{arguments}
use Rattle.spf_code_registers.specs.Registers.{rooms, arguments_need}
use Rattle.spf_code.specs.NodeView.{code}
use Rattle.spf_exec_instance.specs.Instance.{program_of}
use Rattle.spf_exec.proofs.Fitting.{row_fits}
use Rattle.spf_exec.proofs.Sources.{gives_block, words_need, no_slot_set, at_slots}
use Rattle.spf_exec.proofs.entry.row.Goals as goal

pub returns-clause-kept : goal.returns-clause-kept
returns-clause-kept g c =
    no_slot_set (length (program_of c.args.instance.now).slots) (code c.args.code.now.nodes.items) c.args.registers.now c.row_of.new.registers c.requires.sets c.row_of.ensures.others

pub returns-clause-performs : goal.returns-clause-performs
returns-clause-performs g c =
    let p = program_of c.args.instance.now in
    let words = arguments c.args.words.now in
    at_slots (returns-clause-kept g c)
    (c.row_of.ensures.performs (length p.slots + max 0 (arguments_need (rooms p) words)) (arguments_mean (environment_of p c.args.instance.now.input) c.args.line words)
    (gives_block p c.args.instance.now.input end c.args.line words c.args.code.now refl tt c.requires.code) (omega (arith, c.requires.room)))

pub row_of-requires-clause-fits : goal.row_of-requires-clause-fits
row_of-requires-clause-fits g c =
    row_fits (program_of c.args.instance.now) end c.args.line (length c.args.registers.now) (arguments c.args.words.now) c.args.code.now c.requires.code (omega (arith, c.requires.room))

pub row_of-requires-clause-width : goal.row_of-requires-clause-width
row_of-requires-clause-width g c = subst IsWidth (sym c.requires.code.width) c.requires.width

pub row_of-requires-clause-room : goal.row_of-requires-clause-room
row_of-requires-clause-room g c =
    let p = program_of c.args.instance.now in
    let wide = words_need (rooms p) (arguments c.args.words.now) in
    let from = c.requires.code.register in
    let width = c.requires.code.width in
    omega (arith, c.requires.room, wide, from, width)

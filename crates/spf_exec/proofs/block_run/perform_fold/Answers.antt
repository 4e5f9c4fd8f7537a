use Rattle.std.proofs.Common.{rules, ◌+◌, max, length, w64, sym, subst, arith, ap, ◌∙◌}
use Rattle.std.proofs.lemmas.Int.{to_z-of_z}
use mir.Val.{SFits}
use Rattle.spf_ast.specs.declared.syntax.Fold.{out-Fold}
use Rattle.spf_ast.specs.Carried.{IsWidth, with_carried}
use Rattle.spf_ast.specs.View.{fold_head, block}
use Rattle.spf_ast.specs.Program.{environment_of}
use Rattle.spf_code_registers.specs.Registers.{rooms, arguments_need, block_needs}
use Rattle.spf_code.specs.Code.{code_sets}
use Rattle.spf_code.specs.NodeView.{code}
use Rattle.spf_code_lowering.specs.Lowering.{block_changes}
use Rattle.spf_exec_instance.specs.Frame.{main_slots}
use Rattle.spf_exec_instance.specs.Instance.{program_of}
use Rattle.spf_exec.specs.Sources.{block_row}
use Rattle.spf_exec.proofs.Fitting.{row_fits}
use Rattle.spf_exec.proofs.Leaving.{body-leaves}
use Rattle.spf_exec.proofs.Prefixes.{take_set, take_carried}
use Rattle.spf_exec.proofs.Sources.{gives_block, words_need, leaves_slots, from_slots}
use Rattle.spf_exec.proofs.block_run.perform_fold.Goals as goal

pub returns-in-Body-clause-performs : goal.returns-in-Body-clause-performs
returns-in-Body-clause-performs g c =
    let p = program_of c.args.instance.now in
    let head = fold_head c.args.fold.now in
    let body = block (out-Fold c.args.fold.now).body.items in
    let own = length p.slots in
    let env = environment_of p c.args.instance.now.input in
    let form = block_row env body head.next_line head.next in
    let fits : SFits w64 c.args.block.now.number = search rules in
    let written = rw (to_z-of_z w64 c.args.block.now.number fits) at c.write.ensures in
    let carried = rw (c.deref.ensures.value, c.words.ensures) at c.set_carried.ensures in
    let first = ap (main_slots p) written ∙ take_set own c.args.registers.now head.block c.args.block.now.number in
    let slots = ap (main_slots p) carried ∙ take_carried own head.carried c.args.block.now.value c.write.new.registers ∙ ap (with_carried head.carried c.args.block.now.value) first in
    let room = own + max (block_needs (rooms p) body) (arguments_need (rooms p) head.next) in
    rw c.in-Body.is
    (from_slots form slots
    (c.row_of.ensures.performs room form (gives_block p c.args.instance.now.input body head.next_line head.next c.args.code.now.first c.requires.orderly.1 c.requires.orderly.2 c.requires.code.blocks)
    (omega (arith, c.requires.room, c.write.auto.registers, c.set_carried.auto.slots))))

pub returns-in-Body-clause-kept : goal.returns-in-Body-clause-kept
returns-in-Body-clause-kept g c =
    let p = program_of c.args.instance.now in
    let head = fold_head c.args.fold.now in
    let body = block (out-Fold c.args.fold.now).body.items in
    let own = length p.slots in
    let fits : SFits w64 c.args.block.now.number = search rules in
    let written = rw (to_z-of_z w64 c.args.block.now.number fits) at c.write.ensures in
    let carried = rw (c.deref.ensures.value, c.words.ensures) at c.set_carried.ensures in
    let made = code c.args.code.now.first.nodes.items in
    rw c.in-Body.is
    (body-leaves c.args.block.now.construct.line head body (main_slots p c.args.registers.now) c.args.block.now.number c.args.block.now.value
    (ap (main_slots p) written ∙ take_set own c.args.registers.now head.block c.args.block.now.number)
    (ap (main_slots p) carried ∙ take_carried own head.carried c.args.block.now.value c.write.new.registers)
    (leaves_slots own (λ r. code_sets r made) (block_changes body) c.set_carried.new.slots c.row_of.new.registers c.row_of.ensures.others (λ r l e. c.requires.code.blocks_set r (l, e))))

pub row_of-requires-clause-fits : goal.row_of-requires-clause-fits
row_of-requires-clause-fits g c =
    let head = fold_head c.args.fold.now in
    let body = block (out-Fold c.args.fold.now).body.items in
    row_fits (program_of c.args.instance.now) body head.next_line (length c.set_carried.new.slots) head.next c.args.code.now.first c.requires.code.blocks
    (omega (arith, c.requires.room, c.write.auto.registers, c.set_carried.auto.slots))

pub row_of-requires-clause-width : goal.row_of-requires-clause-width
row_of-requires-clause-width g c = subst IsWidth (sym (c.requires.code.blocks.width ∙ c.requires.orderly.0.next)) c.requires.orderly.0.width

pub row_of-requires-clause-room : goal.row_of-requires-clause-room
row_of-requires-clause-room g c =
    let p = program_of c.args.instance.now in
    let head = fold_head c.args.fold.now in
    let wide = words_need (rooms p) head.next in
    let from = c.requires.code.blocks.register in
    let width = c.requires.code.blocks.width in
    omega (arith, c.requires.room, wide, from, width, c.write.auto.registers, c.set_carried.auto.slots)

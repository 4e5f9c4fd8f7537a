use Rattle.std.proofs.Common.{rules, ◌≡◌, length, sym, ap, subst, ◌∙◌, arith}
use Rattle.std.proofs.Math.ListN.{length-map}
use Rattle.spf_ast.specs.View.{block, name, program}
use Rattle.spf_code_registers.specs.Registers.{block_needs, rooms}
use Rattle.spf_code_registers.specs.Counted.{IsTable, all_rooms}
use Rattle.spf_code_registers.proofs.program.program_needs.Goals as goal

pub returns : goal.returns
returns c =
    let p = program c.args.program.now in
    let calls = all_rooms p.functions in
    let table = rw c.deref.ensures.value at (c.in_ok-rooms.ensures {u = tt}) in
    let has = c.block-most.ensures calls (subst (IsTable calls) (sym c.deref-2.ensures.value) table) in
    let main = ap (λ ss. block_needs calls (block ss)) c.deref-3.ensures.value in
    let most : c.block-most.result ≡ block_needs (rooms p) p.main = omega (arith, has, main, c.if-most.false) in
    let slots : c.len-slots.result ≡ length c.args.program.now.slots.items = search rules in
    let own : c.len-slots.result ≡ length p.slots = slots ∙ sym (length-map c.args.program.now.slots.items name) in
    grind (arith, most, own)

use Rattle.std.proofs.Common.{map, sym, subst}
use Rattle.spf_ast.specs.View.{function}
use Rattle.spf_code_registers.specs.Registers.{rooms_before}
use Rattle.spf_code_registers.specs.Counted.{IsTable}
use Rattle.spf_code_registers.proofs.Tables.{none_counted, one_counted, all_counted}
use Rattle.spf_code_registers.proofs.program.rooms.Goals as goal

pub loop-function-init : goal.loop-function-init
loop-function-init c = rw c.new-rooms.ensures.items (none_counted c.args.functions.now)

pub loop-function-preserved : goal.loop-function-preserved
loop-function-preserved c =
    let raw = c.args.functions.now in
    let i = c.loop-function.function-index in
    let calls = rooms_before (map function raw) i in
    let has = c.function_needs-room.ensures calls (subst (IsTable calls) (sym c.deref.ensures.value) c.loop-function.invariant.table) in
    one_counted raw c.loop-function.rooms.items i c.function-item.result c.function_needs-room.result c.push.new.self.items c.loop-function-test.true c.function-item.is c.loop-function.invariant has (c.in_ok-push.ensures {u = tt}).items

pub returns : goal.returns
returns c = all_counted c.args.functions.now c.loop-function.rooms.items c.loop-function.function-index c.loop-function-test.false c.loop-function.auto.function-index-end c.loop-function.invariant

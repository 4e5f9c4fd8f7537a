use Rattle.std.proofs.Common.{◌≡◌, ℕ, ◌+◌, ◌-◌, suc, Ok, Err, sym, ◌∙◌, subst, arith, add-one}
use Rattle.spf_ast.specs.Carried.{Carried}
use Rattle.spf_speculation.specs.Prefixes.{plain_from}
use Rattle.spf_replay.specs.Plainly.{entry_from}
use Rattle.spf_replay.proofs.PlainBlocks.{IsRest, rest-grows, rest-traps, gives-at}
use Rattle.spf_replay.proofs.plain.run_blocks.Goals as goal

pub returns-in-Err-clause-plain : goal.returns-in-Err-clause-plain
returns-in-Err-clause-plain c =
    let e = entry_from c.args.instance.now c.args.construct c.args.header.now c.args.frame.now c.args.memory.now.cells.items in
    let n = c.loop-n.n in
    let b = c.block_at-block in
    let v : Carried = c.loop-n.row in
    let less = c.args.header.now.blocks - (n + 1) in
    let size : c.args.header.now.blocks - n ≡ suc less = omega arith in
    rest-traps e c.loop-n.reals.items c.push.new.self.items n (c.args.header.now.blocks - n) less v c.in-Err.trap c.loop-n.memory.cells.items c.run_block.new.memory.cells.items size
    c.in_ok-push.ensures.items c.loop-n.invariant.rest
    (gives-at c.args.instance.now c.args.construct c.args.header.now c.args.frame.now c.args.memory.now.cells.items n v b.result c.loop-n.memory.cells.items c.run_block.new.memory.cells.items
    (Err c.in-Err.trap) b.ensures.same_construct b.ensures.part b.ensures.number b.ensures.row c.in-Err.ensures.gives)

pub loop-n-preserved : goal.loop-n-preserved
loop-n-preserved c =
    let e = entry_from c.args.instance.now c.args.construct c.args.header.now c.args.frame.now c.args.memory.now.cells.items in
    let n = c.loop-n.n in
    let b = c.block_at-block in
    let v : Carried = c.loop-n.row in
    let less = c.args.header.now.blocks - (n + 1) in
    let size : c.args.header.now.blocks - n ≡ suc less = omega arith in
    record {
      work = c.run_block.ensures.work ∙ c.loop-n.invariant.work;
      cells = c.run_block.ensures.cells ∙ c.loop-n.invariant.cells;
      rest = subst (λ (x : ℕ). IsRest e c.push.new.self.items (plain_from e x less c.in-Ok.next c.run_block.new.memory.cells.items)) (sym (add-one n)) (rest-grows e c.loop-n.reals.items c.push.new.self.items n (c.args.header.now.blocks - n) less v c.in-Ok.next c.loop-n.memory.cells.items c.run_block.new.memory.cells.items size
          c.in_ok-push.ensures.items c.loop-n.invariant.rest
          (gives-at c.args.instance.now c.args.construct c.args.header.now c.args.frame.now c.args.memory.now.cells.items n v b.result c.loop-n.memory.cells.items c.run_block.new.memory.cells.items
          (Ok c.in-Ok.next) b.ensures.same_construct b.ensures.part b.ensures.number b.ensures.row c.in-Ok.ensures.gives));
    }

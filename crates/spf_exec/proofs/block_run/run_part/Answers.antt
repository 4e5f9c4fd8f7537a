use Rattle.std.proofs.Common.{rules, ◌≡◌, length, ap, ◌∙◌, arith}
use Rattle.spf_ast.specs.Construct.{constructs_in}
use Rattle.spf_ast.specs.ConstructView.{construct}
use Rattle.spf_code_registers.specs.Registers.{rooms}
use Rattle.spf_exec_instance.specs.Instance.{program_of}
use Rattle.spf_exec.specs.Sources.{callees_of}
use Rattle.spf_exec.proofs.Rooms.{room_at}
use Rattle.spf_exec.proofs.Sources.{construct_at, orderly_construct}
use Rattle.spf_exec.proofs.block_run.run_part.Goals as goal

pub index-code-requires : goal.index-code-requires
index-code-requires g c =
    let p = program_of c.args.instance.now in
    let found = construct_at (callees_of p) (rooms p) (length p.slots) (constructs_in p.main) c.code.result.now.constructs.items c.args.block.now.index (construct c.args.block.now.construct) (c.code.ensures.code.constructs (rooms p)) c.requires.construct in
    let long : c.code.result.now.constructs.len ≡ length c.code.result.now.constructs.items = search rules in
    let inside = found.0 in
    omega (arith, inside, long)

pub perform_part-requires-clause-code : goal.perform_part-requires-clause-code
perform_part-requires-clause-code g c =
    let p = program_of c.args.instance.now in
    let found = construct_at (callees_of p) (rooms p) (length p.slots) (constructs_in p.main) c.code.result.now.constructs.items c.args.block.now.index (construct c.args.block.now.construct) (c.code.ensures.code.constructs (rooms p)) c.requires.construct in
    found.1 _ c.index-code.ensures

pub perform_part-requires-clause-orderly : goal.perform_part-requires-clause-orderly
perform_part-requires-clause-orderly g c =
    orderly_construct (program_of c.args.instance.now).main c.args.block.now.index (construct c.args.block.now.construct) c.requires.construct c.code.ensures.orderly.main

pub perform_part-requires-clause-room : goal.perform_part-requires-clause-room
perform_part-requires-clause-room g c =
    let p = program_of c.args.instance.now in
    let room = room_at (rooms p) p.main c.args.block.now.index (construct c.args.block.now.construct) c.requires.construct in
    let whole = ap length (c.deref_mut.ensures.value ∙ c.frame.view_is) in
    omega (arith, room, whole, c.requires.frame)

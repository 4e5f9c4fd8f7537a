use Rattle.std.proofs.Common.{rules, ◌≡◌, ◌≤◌, length, sym, subst, arith}
use Rattle.spf_ast.specs.Carried.{IsWidth}
use Rattle.spf_ast.specs.Construct.{constructs_in}
use Rattle.spf_ast.specs.ConstructView.{construct, construct_on}
use Rattle.spf_ast.specs.View.{pair_head}
use Rattle.spf_code_registers.specs.Registers.{rooms, block_needs}
use Rattle.spf_code_lowering.specs.Lowering.{IsConstructCode}
use Rattle.spf_exec_instance.specs.Instance.{program_of}
use Rattle.spf_exec.specs.Sources.{callees_of, construct_needs, ConstructIsOrderly}
use Rattle.spf_exec.proofs.Rooms.{room_at}
use Rattle.spf_exec.proofs.Sources.{construct_at, orderly_construct}
use Rattle.spf_exec.proofs.pieces.header_of.Goals as goal

pub index-code-requires : goal.index-code-requires
index-code-requires c =
    let p = program_of c.args.instance.now in
    let found = construct_at (callees_of p) (rooms p) (length p.slots) (constructs_in p.main) c.code.result.now.constructs.items c.args.index (construct c.args.construct) (c.code.ensures.code.constructs (rooms p)) c.requires.construct in
    let long : c.code.result.now.constructs.len ≡ length c.code.result.now.constructs.items = search rules in
    let inside = found.0 in
    omega (arith, inside, long)

pub fold_header-requires-clause-code : goal.fold_header-requires-clause-code
fold_header-requires-clause-code c =
    let p = program_of c.args.instance.now in
    let found = construct_at (callees_of p) (rooms p) (length p.slots) (constructs_in p.main) c.code.result.now.constructs.items c.args.index (construct c.args.construct) (c.code.ensures.code.constructs (rooms p)) c.requires.construct in
    subst (λ k. IsConstructCode (callees_of p) (rooms p) (length p.slots) (construct_on c.args.construct.line k) c.index-code.result.now) c.in-Fold.is (found.1 _ c.index-code.ensures)

pub fold_header-requires-clause-width : goal.fold_header-requires-clause-width
fold_header-requires-clause-width c =
    let p = program_of c.args.instance.now in
    let orderly = orderly_construct p.main c.args.index (construct c.args.construct) c.requires.construct c.code.ensures.orderly.main in
    let here = subst (λ k. ConstructIsOrderly (construct_on c.args.construct.line k)) c.in-Fold.is orderly in
    subst IsWidth (sym here.0.start) here.0.width

pub fold_header-requires-clause-room : goal.fold_header-requires-clause-room
fold_header-requires-clause-room c =
    let p = program_of c.args.instance.now in
    let room = room_at (rooms p) p.main c.args.index (construct c.args.construct) c.requires.construct in
    let here = subst (λ k. construct_needs (rooms p) (construct_on c.args.construct.line k) ≤ block_needs (rooms p) p.main) c.in-Fold.is room in
    omega (arith, here)

pub overflow_cast-len : goal.overflow_cast-len
overflow_cast-len c =
    let p = program_of c.args.instance.now in
    let orderly = orderly_construct p.main c.args.index (construct c.args.construct) c.requires.construct c.code.ensures.orderly.main in
    let here = subst (λ k. ConstructIsOrderly (construct_on c.args.construct.line k)) c.in-Pair.is orderly in
    let width = here.0.width in
    let some = width.0 in
    let few = width.1 in
    let long : c.len.result ≡ length (pair_head c.in-Pair.pair.now).carried = search rules in
    omega (arith, few, long)

pub zeros-requires : goal.zeros-requires
zeros-requires c =
    let p = program_of c.args.instance.now in
    let orderly = orderly_construct p.main c.args.index (construct c.args.construct) c.requires.construct c.code.ensures.orderly.main in
    let here = subst (λ k. ConstructIsOrderly (construct_on c.args.construct.line k)) c.in-Pair.is orderly in
    let width = here.0.width in
    let some = width.0 in
    let few = width.1 in
    let long : c.len.result ≡ length (pair_head c.in-Pair.pair.now).carried = search rules in
    (omega (arith, some, long), omega (arith, few, long))

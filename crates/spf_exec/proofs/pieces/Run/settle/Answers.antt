use Rattle.std.proofs.Common.{rules, ◌≡◌, ◌∙◌, arith, refl, length, ap}
use Rattle.spf_ast.specs.ConstructView.{construct}
use Rattle.spf_ast.specs.Construct.{carried_of}
use Rattle.spf_exec_instance.specs.Frame.{main_slots}
use Rattle.spf_exec_instance.specs.Instance.{program_of}
use Rattle.spf_exec.proofs.Constructs.{within, one_less, few_constructs}
use Rattle.spf_exec.proofs.Prefixes.{take_carried, same_length, count_is}
use Rattle.spf_exec.proofs.pieces.Run.settle.Goals as goal

pub prove-unreachable-requires : goal.prove-unreachable-requires
prove-unreachable-requires c =
    let p = program_of c.args.instance.now in
    let xs = c.args.instance.now.source.main.items in
    let w = within p.main c.self.inside.place (construct c.args.construct) (rw (← c.self.view_is) at c.requires.construct) in
    let long : c.len-statements.result ≡ length xs = search rules in
    omega (arith, w, long, count_is xs, c.if-prove.true)

pub overflow_add-self-2 : goal.overflow_add-self-2
overflow_add-self-2 c =
    let p = program_of c.args.instance.now in
    let xs = c.args.instance.now.source.main.items in
    let r = rw (← c.self.view_is) at c.requires.run in
    let less = one_less p.main c.self.inside.place (construct c.args.construct) (rw (← c.self.view_is) at c.requires.construct) in
    let long : c.len-statements.result ≡ length xs = search rules in
    omega (arith, r.passed, less, few_constructs p.main, count_is xs, long, c.len-statements.type_inv)

pub returns-clause-settled : goal.returns-clause-settled
returns-clause-settled c =
    let p = program_of c.args.instance.now in
    let frame = rw c.carried_slots.ensures at c.set_carried.ensures in
    rw (← c.self.view_is)
    (record {
      slots = ap (main_slots p) frame ∙ take_carried (length p.slots) (carried_of (construct c.args.construct)) _ c.self.inside.frame;
      cells = refl;
      output = refl;
      place = refl;
      passed = refl;
    })

pub returns-clause-run : goal.returns-clause-run
returns-clause-run c =
    let p = program_of c.args.instance.now in
    let k = rw (← c.self.view_is) at c.requires.construct in
    let r = rw (← c.self.view_is) at c.requires.run in
    let w = within p.main c.self.inside.place (construct c.args.construct) k in
    let less = one_less p.main c.self.inside.place (construct c.args.construct) k in
    record {
      frame = same_length c.carried_slots.result.now c.args.value c.self.inside.frame _ c.set_carried.ensures ∙ r.frame;
      cells = r.cells;
      place = omega (arith, w);
      passed = omega (arith, r.passed, less);
    }

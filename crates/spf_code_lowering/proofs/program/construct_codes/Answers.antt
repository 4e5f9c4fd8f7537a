use Rattle.std.proofs.Common.{◌+◌, drop, subst, sym, ap, ◌∙◌}
use Rattle.std.specs.declared.vec.Vec.{Vec}
use Rattle.std.specs.declared.alloc.Global.{Global}
use Rattle.spf_code.specs.declared.program.ConstructCode.{ConstructCode}
use Rattle.spf_ast.specs.Construct.{constructs_in}
use Rattle.spf_ast.specs.ConstructView.{construct}
use Rattle.spf_ast.specs.View.{statement, block}
use Rattle.spf_code_lowering.specs.Lowering.{callees_in}
use Rattle.spf_code_lowering.proofs.Parts.{ConstructsSoFar, next_statement, one_construct, no_construct, all_constructs}
use Rattle.spf_code_lowering.proofs.program.construct_codes.Goals.{in-Some+in_ok-code+in_ok-push, in_default}
use Rattle.spf_code_lowering.proofs.program.construct_codes.Goals as goal

pub loop-stmt-preserved : goal.loop-stmt-preserved
loop-stmt-preserved c = record {
  codes = λ calls.
      let s = c.args.scope.now in
      let xs = c.args.main.now in
      let i = c.loop-stmt.stmt-index in
      let x = c.stmt-item.result in
      let all = constructs_in (block xs) in
      let rest = block (drop (i + 1) xs) in
      let next = next_statement xs i x c.loop-stmt-test.true c.stmt-item.is in
      elim c.match-as_construct.branch [
        | in-Some+in_ok-code+in_ok-push w ↦
            one_construct (callees_in s) calls s.own x.line all (block (drop i xs)) rest (statement x.kind) (construct w.in-Some.construct) c.loop-stmt.codes.items c.match-as_construct.codes.items w.in_ok-code.code next
            (w.in-Some.ensures {u = tt}) (ap (λ (z : Vec ConstructCode Global). z.items) w.codes-is ∙ (w.in_ok-push.ensures {u = tt}).items) (w.in_ok-code.ensures.code calls) (c.loop-stmt.invariant.codes calls)
        | in_default w ↦
            subst (λ (z : Vec ConstructCode Global). ConstructsSoFar (callees_in s) calls s.own all (constructs_in rest) z.items) (sym w.codes-is)
            (no_construct (callees_in s) calls s.own x.line all (block (drop i xs)) rest (statement x.kind) c.loop-stmt.codes.items next (w.in_default.ensures {u = tt}) (c.loop-stmt.invariant.codes calls))
      ];
}

pub returns : goal.returns
returns c = record {
  codes = λ calls. all_constructs (callees_in c.args.scope.now) calls c.args.scope.now.own c.args.main.now c.loop-stmt.stmt-index c.loop-stmt.codes.items c.loop-stmt-test.false (c.loop-stmt.invariant.codes calls);
}

use Rattle.std.proofs.Common.{◌≡◌, ◌<◌, arith, rules, sym, subst, [], ◌∷◌, refl}
use Rattle.std.specs.Prelude.{IfOk, ◌++◌}
use Rattle.spf_ast.specs.View.{expression}
use Rattle.spf_ast.specs.Syntax.{Compare, Number}
use Rattle.spf_code.specs.declared.node.Node.TheVariants as v
use Rattle.spf_code.specs.Code.{only, ◌then◌}
use Rattle.spf_code.specs.NodeView.{node}
use Rattle.spf_code_lowering.proofs.Lowering.{then-then, more, finish}
use Rattle.spf_code_lowering.specs.Lowering.{callees_in, HeldIn, ToldIn}
use Rattle.spf_code_lowering.proofs.Telling.{comparison_told, number_comparison_told}
use Rattle.spf_code_lowering.proofs.Spared.{fewer, both-spared, finished, less-differs}
use Rattle.spf_code_lowering.proofs.condition.compare.Goals as goal

pub returns-in-Number-clause-wrote : goal.returns-in-Number-clause-wrote
returns-in-Number-clause-wrote c = λ calls.
    let s = c.args.scope.now in
    let a = expression c.args.left.now in
    let r = c.in_ok-first.first.register in
    let next = c.in_ok-first.first.next in
    let Q = ToldIn s calls c.args.line c.args.free (Compare c.args.test a (Number c.in-Number.n)) in
    let e : IfOk c.add.result (λ u. c.add.new.out.items ≡ c.hold.new.out.items ++ v.CompareWith c.args.test c.args.free r c.in-Number.n ∷ []) = search rules in
    rw c.in-Number.is
    (finish c.add.result _ _ _ (v.CompareWith c.args.test c.args.free r c.in-Number.n) (HeldIn s calls c.args.line c.args.free next r a) Q refl (c.in_ok-first.ensures.wrote calls) e
    (λ made p. number_comparison_told (callees_in s) calls c.args.line s.own c.args.free next r c.args.test a c.in-Number.n made p))

pub returns-clause-wrote : goal.returns-clause-wrote
returns-clause-wrote c = λ calls.
    let s = c.args.scope.now in
    let a = expression c.args.left.now in
    let b = expression c.args.right.now in
    let r = c.in_ok-first.first.register in
    let between = c.in_ok-first.first.next in
    let q = c.in_ok-second.second.register in
    let next = c.in_ok-second.second.next in
    let x = v.Compare c.args.test c.args.free r q in
    let made_so_far = more (λ made. ToldIn s calls c.args.line c.args.free (Compare c.args.test a b) (made then only (node x)))
    (c.in_ok-first.ensures.wrote calls) (c.in_ok-second.ensures.wrote calls)
    (λ m k p w. subst (ToldIn s calls c.args.line c.args.free (Compare c.args.test a b)) (sym (then-then m k (only (node x))))
    (comparison_told (callees_in s) calls c.args.line s.own c.args.free between next r q c.args.test a b m k c.in_ok-first.ensures.next.1 p w)) in
    finish c.add-2.result _ _ _ x (λ made. ToldIn s calls c.args.line c.args.free (Compare c.args.test a b) (made then only (node x))) (ToldIn s calls c.args.line c.args.free (Compare c.args.test a b)) refl made_so_far c.add-2.ensures.appended (λ made p. p)

pub returns-in-Number-clause-spares : goal.returns-in-Number-clause-spares
returns-in-Number-clause-spares c =
    let e : IfOk c.add.result (λ u. c.add.new.out.items ≡ c.hold.new.out.items ++ v.CompareWith c.args.test c.args.free c.in_ok-first.first.register c.in-Number.n ∷ []) = search rules in
    finished c.add.result _ _ _ (v.CompareWith c.args.test c.args.free c.in_ok-first.first.register c.in-Number.n) refl c.in_ok-first.ensures.spares e (λ r l. less-differs r c.args.free l)

pub returns-clause-spares : goal.returns-clause-spares
returns-clause-spares c =
    let wider = c.in_ok-first.ensures.next.0 in
    finished c.add-2.result _ _ _ (v.Compare c.args.test c.args.free c.in_ok-first.first.register c.in_ok-second.second.register) refl
    (both-spared c.in_ok-first.ensures.spares (fewer (λ r. r < c.args.free) c.in_ok-second.ensures.spares (λ r l. omega (arith, l, wider)))) c.add-2.ensures.appended (λ r l. less-differs r c.args.free l)

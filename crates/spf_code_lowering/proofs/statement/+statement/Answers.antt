use Rattle.std.specs.Prelude.{◌==◌}
use Rattle.std.proofs.Common.{◌≡◌, ℕ, ◌+◌, ◌*◌, ◌<◌, ◌≤◌, suc, false, ◌⊎◌, [], ◌∷◌, length, drop, refl, sym, ap, ◌∙◌, subst, arith}
use Rattle.std.proofs.lemmas.List.{drop_all}
use Rattle.std.proofs.Math.Seq.{drop-cons}
use Rattle.spf_ast.specs.declared.syntax.Fold.{out-Fold}
use Rattle.spf_ast.specs.declared.syntax.Pair.{out-Pair}
use Rattle.spf_ast.specs.View.{expression, condition, statement, block, fold_head, pair_head}
use Rattle.spf_ast.specs.Syntax.{Let, Assign, Fail, If, For, While, Fold, Pair, Break, on_line}
use Rattle.spf_ast.proofs.Views.{statement-if, statement-for, statement-while, statement-fold, statement-pair}
use Rattle.spf_code.specs.declared.node.Node.TheVariants as v
use Rattle.spf_code.specs.Code.{Code, stop, only, ◌then◌, node_sets, code_sets}
use Rattle.spf_code.specs.NodeView.{node, code}
use Rattle.spf_code_lowering.specs.Computes.{copies}
use Rattle.spf_code_lowering.specs.Lowering.{SetsNone, IsLeft, AreLeft, callees_in, HeldIn, ToldIn, RunIn, BlockIn}
use Rattle.spf_code_lowering.proofs.Lowering.{nothing, then-then, more, mapped, as_well, finish, alone}
use Rattle.spf_code.proofs.NodeViews.{node-while, node-fold}
use Rattle.spf_code_lowering.proofs.Flat.{ended-sets}
use Rattle.spf_code_lowering.proofs.Same.{block-too, told-too, whole}
use Rattle.spf_code_lowering.proofs.Folds.{BlocksIn, fold_made}
use Rattle.spf_code_lowering.proofs.Running.{then-stop, no_block, block_run, assign_run, loop_run, while_run, pair_run, fail_run, break_run}
use Rattle.spf_code_lowering.proofs.Weight.{statement_weight, stmts_weight, weight_at}
use Rattle.spf_code_lowering.proofs.Spared.{same-spared, fewer, both-spared, one-more, finished, alone-spared, none-set, either, let-changes, assign-changes, if-changes, written-elsewhere, for-changes, fold-changes, pair-changes, in-statement}
use Rattle.spf_code_lowering.proofs.statement.+statement.Goals as goal

pub append-loop-stmt-init : goal.append-loop-stmt-init
append-loop-stmt-init t c = record { wrote = λ calls. nothing _ _ (λ rest r. r); spares = same-spared }

pub append-loop-stmt-preserved : goal.append-loop-stmt-preserved
append-loop-stmt-preserved t c = record {
  wrote = λ calls.
      let s = c.args.scope.now in
      let xs = c.args.statements.now in
      let i = c.loop-stmt.stmt-index in
      let x = c.stmt-item.result in
      let next : block (drop i xs) ≡ on_line x.line (statement x.kind) (block (drop (i + 1) xs)) =
      ap block (drop-cons xs i x c.loop-stmt-test.true ∙ ap (λ z. z ∷ drop (suc i) xs) (sym c.stmt-item.is)) ∙ ap (λ k. on_line x.line (statement x.kind) (block (drop k xs))) (let e : suc i ≡ i + 1 = omega arith in e) in
      more (λ made. (rest : Code) → BlockIn s calls (block (drop (i + 1) xs)) rest → BlockIn s calls (block xs) (made then rest))
      (c.loop-stmt.invariant.wrote calls) (c.in_ok-statement.ensures.wrote calls)
      (λ m k p w. λ rest r. subst (BlockIn s calls (block xs)) (sym (then-then m k rest)) (p (k then rest) (subst (λ b. BlockIn s calls b (k then rest)) (sym next) (block_run s calls x.line (statement x.kind) (block (drop (i + 1) xs)) k rest w r))));
  spares =
      let xs = c.args.statements.now in
      both-spared c.loop-stmt.invariant.spares
      (fewer (AreLeft c.args.scope.now.own (block xs)) c.in_ok-statement.ensures.spares (λ r p. (p.0, in-statement xs c.loop-stmt.stmt-index c.stmt-item.result c.loop-stmt-test.true c.stmt-item.is r p.1)));
}

pub append-returns-clause-wrote : goal.append-returns-clause-wrote
append-returns-clause-wrote t c = λ calls.
    let s = c.args.scope.now in
    let xs = c.args.statements.now in
    as_well (BlockIn s calls (block xs)) (c.loop-stmt.invariant.wrote calls)
    (λ made p. subst (BlockIn s calls (block xs)) (then-stop made) (p stop (subst (λ l. BlockIn s calls (block l) stop) (sym (drop_all c.loop-stmt.stmt-index xs c.loop-stmt-test.false)) (no_block s calls))))

pub block-returns-clause-runs : goal.block-returns-clause-runs
block-returns-clause-runs t c = λ calls.
    rw c.new-made.ensures.items at c.in_ok-append.ensures.wrote calls

pub choose-returns-clause-wrote : goal.choose-returns-clause-wrote
choose-returns-clause-wrote t c = λ calls.
    c.choose_where.ensures.wrote calls (block c.args.first.now) (block c.args.second.now) (c.in_ok-one.ensures.runs calls) (c.in_ok-other.ensures.runs calls)

pub fold-returns-clause-wrote : goal.fold-returns-clause-wrote
fold-returns-clause-wrote t c = λ calls.
    let s = c.args.scope.now in
    let head = fold_head c.args.fold.now in
    let all = block (out-Fold c.args.fold.now).body.items in
    let row = copies s.own head.carried s.own in
    let between = c.in_ok-low.low.next in
    let r = c.in_ok-low.low.register in
    let counter = c.counter_of-counter.result in
    let wide : c.in_ok-free.free ≡ s.own + length head.carried = c.in_ok-free.ensures {u = tt} ∙ ap (λ n. s.own + n) (c.in_ok-count_of.ensures {u = tt} ∙ ap length c.deref.ensures.value) in
    let few = c.in_ok-low.ensures.next.1 in
    let near : between ≤ s.own + length head.carried + 1 = omega (arith, few, wide) in
    let bodies = more (λ made. (body : Code) × (made ≡ (row then body)) × BlockIn s calls all body)
    (rw (c.new-one_block.ensures.items, c.deref-2.ensures.value) at c.in_ok-copy_row.ensures.wrote) (rw c.deref-3.ensures.value at c.in_ok-append.ensures.wrote calls)
    (λ m k e b. (k, ap (λ m. m then k) e, b)) in
    let blocks = more (BlocksIn s calls head all) bodies (rw c.deref-4.ensures.value at c.in_ok-pass.ensures.wrote calls)
    (λ m k p w. (p.0, k, ap (λ m. m then k) p.1 ∙ then-then row p.0 k, p.2, w)) in
    mapped c.copy_row-2.result (rw c.deref-6.ensures.value at c.copy_row-2.ensures.wrote) (λ u copied.
    fold_made s calls c.args.line between c.in_ok-high.high.next r c.in_ok-high.high.register counter head all c.pass.new.out.items c.in_ok-list.list _ _ _ _ _ _
    near c.counter_of-counter.ensures.written (subst (λ n. (counter < s.own) ⊎ (n ≤ counter)) wide c.counter_of-counter.ensures.apart) (subst (λ n. counter ≤ n) wide c.counter_of-counter.ensures.there)
    (c.in_ok-list.ensures {u = tt}) blocks
    (rw c.deref-5.ensures.value at c.in_ok-pass-2.ensures.wrote calls)
    (as_well (HeldIn s calls c.args.line (s.own + length head.carried) between r head.low) (c.in_ok-low.ensures.wrote calls) (λ made w. subst (λ n. HeldIn s calls c.args.line n between r head.low made) wide w))
    (c.in_ok-high.ensures.wrote calls) (c.in_ok-add.ensures {u = tt}).appended copied)

pub pair-returns-clause-wrote : goal.pair-returns-clause-wrote
pair-returns-clause-wrote t c = λ calls.
    let s = c.args.scope.now in
    let head = pair_head c.args.pair.now in
    let a = block (out-Pair c.args.pair.now).producer.items in
    let b = block (out-Pair c.args.pair.now).consumer.items in
    let row = copies s.own head.carried s.own in
    let R = RunIn s calls c.args.line (Pair head a b) in
    let two = more (λ made. (k : Code) → BlockIn s calls b k → R (made then (row then k))) (rw c.deref.ensures.value at c.in_ok-append.ensures.wrote calls) (rw c.deref-2.ensures.value at c.in_ok-pass.ensures.wrote calls)
    (λ m k p q. λ l z. subst R (sym (then-then m k (row then l))) (pair_run s calls c.args.line head a b m k l p q z)) in
    let three = more (λ made. (k : Code) → BlockIn s calls b k → R (made then k)) two (rw c.deref-3.ensures.value at c.in_ok-copy_row.ensures.wrote)
    (λ m k p e. λ l z. subst R (sym (then-then m k l)) (subst (λ y. R (m then (y then l))) (sym e) (p l z))) in
    mapped c.append-2.result (rw c.deref-4.ensures.value at (c.append-2.ensures.wrote calls)) (λ u w. more R three w (λ m k p z. p k z))

pub for_loop-returns-clause-wrote : goal.for_loop-returns-clause-wrote
for_loop-returns-clause-wrote t c = λ calls.
    let s = c.args.scope.now in
    let a = expression c.args.low.now in
    let b = expression c.args.high.now in
    let r = c.in_ok-first.first.register in
    let between = c.in_ok-first.first.next in
    let q = c.in_ok-last.last.register in
    let next = c.in_ok-last.last.next in
    let nodes = c.in_ok-nodes.nodes in
    let counter = c.register_of-counter.result in
    let x = c.iterations.result in
    let body = block c.args.body.now in
    let R = RunIn s calls c.args.line (For c.args.slot a b body) in
    let made_so_far = more (λ made. R (made then only (node x))) (c.in_ok-first.ensures.wrote calls) (c.in_ok-last.ensures.wrote calls)
    (λ m k p w. subst R (sym (then-then m k (only (node x)))) (subst (λ y. R (m then (k then only y))) (sym c.iterations.ensures.node)
    (loop_run s calls c.args.line between next r q c.args.slot counter a b body m k (code c.in_ok-list.list.items) c.in_ok-first.ensures.next.1 c.register_of-counter.ensures.written c.register_of-counter.ensures.there p w (whole nodes.items c.in_ok-list.list.items (BlockIn s calls body) (block-too (callees_in s) calls s.own body) (c.in_ok-list.ensures {u = tt}) (c.in_ok-nodes.ensures.runs calls))))) in
    finish c.add.result _ _ _ x (λ made. R (made then only (node x))) R c.iterations.ensures.way made_so_far c.add.ensures.appended (λ made p. p)

pub while_loop-returns-clause-wrote : goal.while_loop-returns-clause-wrote
while_loop-returns-clause-wrote t c = λ calls.
    let s = c.args.scope.now in
    let test = condition c.args.test.now in
    let body = block c.args.body.now in
    let nodes = c.in_ok-nodes.nodes in
    let asked = c.in_ok-asked.asked in
    let R = RunIn s calls c.args.line (While test c.args.most body) in
    alone c.add.result _ _ (v.While s.own c.args.most c.in_ok-test_list.test_list c.in_ok-list.list c.args.line) R refl c.add.ensures.appended
    (subst (λ y. R (only y)) (sym (node-while s.own c.args.most c.in_ok-test_list.test_list c.in_ok-list.list c.args.line))
    (while_run s calls c.args.line c.args.most test body (code c.in_ok-test_list.test_list.items) (code c.in_ok-list.list.items)
    (whole asked.items c.in_ok-test_list.test_list.items (ToldIn s calls c.args.line s.own test) (told-too (callees_in s) calls c.args.line s.own s.own test) (c.in_ok-test_list.ensures {u = tt}) (c.in_ok-asked.ensures.told calls))
    (whole nodes.items c.in_ok-list.list.items (BlockIn s calls body) (block-too (callees_in s) calls s.own body) (c.in_ok-list.ensures {u = tt}) (c.in_ok-nodes.ensures.runs calls))))

pub statement-returns-in-Assign-clause-wrote : goal.statement-returns-in-Assign-clause-wrote
statement-returns-in-Assign-clause-wrote t c = λ calls.
    let s = c.args.scope.now in
    let e = expression c.in-Assign.value in
    rw c.in-Assign.is
    (mapped c.assign-in-Assign.result (c.assign-in-Assign.ensures.wrote calls)
    (λ u w. as_well (RunIn s calls c.args.line (Assign c.in-Assign.slot e)) w (λ made p. assign_run s calls c.args.line c.in-Assign.slot e made p)))

pub statement-returns-in-Fail-clause-wrote : goal.statement-returns-in-Fail-clause-wrote
statement-returns-in-Fail-clause-wrote t c = λ calls.
    let s = c.args.scope.now in
    rw c.in-Fail.is (alone c.add.result _ _ (v.Fail c.in-Fail.number c.args.line) (RunIn s calls c.args.line (Fail c.in-Fail.number)) refl c.add.ensures.appended (fail_run s calls c.args.line c.in-Fail.number))

pub statement-returns-in-Break-clause-wrote : goal.statement-returns-in-Break-clause-wrote
statement-returns-in-Break-clause-wrote t c = λ calls.
    let s = c.args.scope.now in
    rw c.in-Break.is (alone c.add-in-Break.result _ _ v.Break (RunIn s calls c.args.line Break) refl c.add-in-Break.ensures.appended (break_run s calls c.args.line))

pub statement-returns-in-If-clause-wrote : goal.statement-returns-in-If-clause-wrote
statement-returns-in-If-clause-wrote t c = λ calls.
    rw (c.in-If.is, statement-if c.in-If.test c.in-If.first c.in-If.second, ← c.deref.ensures.value, ← c.deref-in-If.ensures.value) (c.choose.ensures.wrote calls)

pub statement-returns-in-For-clause-wrote : goal.statement-returns-in-For-clause-wrote
statement-returns-in-For-clause-wrote t c = λ calls.
    rw (c.in-For.is, statement-for c.in-For.slot c.in-For.low c.in-For.high c.in-For.body, ← c.deref-in-For.ensures.value) (c.for_loop.ensures.wrote calls)

pub statement-returns-in-While-clause-wrote : goal.statement-returns-in-While-clause-wrote
statement-returns-in-While-clause-wrote t c = λ calls.
    rw (c.in-While.is, statement-while c.in-While.test c.in-While.most c.in-While.body, ← c.deref-in-While.ensures.value) (c.while_loop.ensures.wrote calls)

pub statement-returns-in-Fold-clause-wrote : goal.statement-returns-in-Fold-clause-wrote
statement-returns-in-Fold-clause-wrote t c = λ calls.
    rw (c.in-Fold.is, statement-fold c.in-Fold.parts, ← c.deref-in-Fold.ensures) (c.fold.ensures.wrote calls)

pub statement-returns-in-Pair-clause-wrote : goal.statement-returns-in-Pair-clause-wrote
statement-returns-in-Pair-clause-wrote t c = λ calls.
    rw (c.in-Pair.is, statement-pair c.in-Pair.parts, ← c.deref-in-Pair.ensures) (c.pair.ensures.wrote calls)

-- ---- each call is of less syntax

pub append-statement-requires : goal.append-statement-requires
append-statement-requires t c =
    let m : t ≡ 3 * stmts_weight c.args.statements.now + 1 = sym c.decreases in
    let w = weight_at c.args.statements.now c.loop-stmt.stmt-index c.stmt-item.result c.loop-stmt-test.true c.stmt-item.is in
    let k : 3 * statement_weight (statement c.stmt-item.result.kind) + 3 < t = omega (arith, m, w) in
    (k, c.requires.codes)

pub statement-choose-requires : goal.statement-choose-requires
statement-choose-requires t c =
    let m : t ≡ 3 * statement_weight (statement c.args.kind.now) + 3 = sym c.decreases in
    let e = ap (λ k. statement_weight (statement k)) c.in-If.is ∙ ap statement_weight (statement-if c.in-If.test c.in-If.first c.in-If.second) in
    let d = ap stmts_weight c.deref.ensures.value in
    let f = ap stmts_weight c.deref-in-If.ensures.value in
    let k : 3 * (stmts_weight c.deref.result.now + stmts_weight c.deref-in-If.result.now) + 3 < t = omega (arith, m, e, d, f) in
    (k, c.requires.codes)

pub statement-for_loop-requires : goal.statement-for_loop-requires
statement-for_loop-requires t c =
    let m : t ≡ 3 * statement_weight (statement c.args.kind.now) + 3 = sym c.decreases in
    let e = ap (λ k. statement_weight (statement k)) c.in-For.is ∙ ap statement_weight (statement-for c.in-For.slot c.in-For.low c.in-For.high c.in-For.body) in
    let d = ap stmts_weight c.deref-in-For.ensures.value in
    let k : 3 * stmts_weight c.deref-in-For.result.now + 3 < t = omega (arith, m, e, d) in
    (k, c.requires.codes)

pub statement-while_loop-requires : goal.statement-while_loop-requires
statement-while_loop-requires t c =
    let m : t ≡ 3 * statement_weight (statement c.args.kind.now) + 3 = sym c.decreases in
    let e = ap (λ k. statement_weight (statement k)) c.in-While.is ∙ ap statement_weight (statement-while c.in-While.test c.in-While.most c.in-While.body) in
    let d = ap stmts_weight c.deref-in-While.ensures.value in
    let k : 3 * stmts_weight c.deref-in-While.result.now + 3 < t = omega (arith, m, e, d) in
    (k, c.requires.codes)

pub statement-fold-requires : goal.statement-fold-requires
statement-fold-requires t c =
    let m : t ≡ 3 * statement_weight (statement c.args.kind.now) + 3 = sym c.decreases in
    let e = ap (λ k. statement_weight (statement k)) c.in-Fold.is ∙ ap statement_weight (statement-fold c.in-Fold.parts) in
    let d = ap (λ f. stmts_weight (out-Fold f).body.items) c.deref-in-Fold.ensures in
    let k : 3 * stmts_weight (out-Fold c.deref-in-Fold.result.now).body.items + 3 < t = omega (arith, m, e, d) in
    (k, c.requires.codes)

pub statement-pair-requires : goal.statement-pair-requires
statement-pair-requires t c =
    let m : t ≡ 3 * statement_weight (statement c.args.kind.now) + 3 = sym c.decreases in
    let e = ap (λ k. statement_weight (statement k)) c.in-Pair.is ∙ ap statement_weight (statement-pair c.in-Pair.parts) in
    let d = ap (λ f. stmts_weight (out-Pair f).producer.items + stmts_weight (out-Pair f).consumer.items) c.deref-in-Pair.ensures in
    let k : 3 * (stmts_weight (out-Pair c.deref-in-Pair.result.now).producer.items + stmts_weight (out-Pair c.deref-in-Pair.result.now).consumer.items) + 3 < t = omega (arith, m, e, d) in
    (k, c.requires.codes)

-- ---- the registers that are set

pub append-returns-clause-spares : goal.append-returns-clause-spares
append-returns-clause-spares t c = c.loop-stmt.invariant.spares

pub block-returns-clause-spares : goal.block-returns-clause-spares
block-returns-clause-spares t c = λ r p. none-set (rw c.new-made.ensures.items at c.in_ok-append.ensures.spares) r p

pub choose-returns-clause-spares : goal.choose-returns-clause-spares
choose-returns-clause-spares t c =
    let test = condition c.args.test.now in
    let first = block c.args.first.now in
    let second = block c.args.second.now in
    mapped c.choose_where.result c.choose_where.ensures.spares (λ u w. fewer (IsLeft c.args.scope.now.own (If test first second)) w
    (λ r p. let parts = if-changes test first second r p.1 in (p.0, c.in_ok-one.ensures.spares r (p.0, parts.0), c.in_ok-other.ensures.spares r (p.0, parts.1))))

pub for_loop-returns-clause-spares : goal.for_loop-returns-clause-spares
for_loop-returns-clause-spares t c =
    let s = c.args.scope.now in
    let a = expression c.args.low.now in
    let b = expression c.args.high.now in
    let body = block c.args.body.now in
    let nodes = c.in_ok-nodes.nodes in
    let left = IsLeft s.own (For c.args.slot a b body) in
    let wider = c.in_ok-first.ensures.next.0 in
    let counter = c.register_of-counter.result in
    let x = c.iterations.result in
    finished c.add.result _ _ _ x c.iterations.ensures.way (both-spared (fewer left c.in_ok-first.ensures.spares (λ r p. p.0)) (fewer left c.in_ok-last.ensures.spares (λ r p. let l = p.0 in omega (arith, l, wider)))) c.add.ensures.appended
    (λ r p. let parts = for-changes c.args.slot a b body r p.1 in ap (node_sets r) c.iterations.ensures.node ∙ either (r == counter) _ (written-elsewhere s.own c.args.slot counter r c.register_of-counter.ensures.written p.0 parts.0) (ended-sets r nodes.items c.in_ok-list.list.items (c.in_ok-list.ensures {u = tt}) (c.in_ok-nodes.ensures.spares r (p.0, parts.1))))

pub while_loop-returns-clause-spares : goal.while_loop-returns-clause-spares
while_loop-returns-clause-spares t c =
    let s = c.args.scope.now in
    let test = condition c.args.test.now in
    let body = block c.args.body.now in
    let nodes = c.in_ok-nodes.nodes in
    let asked = c.in_ok-asked.asked in
    alone-spared c.add.result _ _ (v.While s.own c.args.most c.in_ok-test_list.test_list c.in_ok-list.list c.args.line) (IsLeft s.own (While test c.args.most body)) refl c.add.ensures.appended
    (λ r p. ap (node_sets r) (node-while s.own c.args.most c.in_ok-test_list.test_list c.in_ok-list.list c.args.line)
    ∙ either (code_sets r (code c.in_ok-test_list.test_list.items)) _ (ended-sets r asked.items c.in_ok-test_list.test_list.items (c.in_ok-test_list.ensures {u = tt}) (c.in_ok-asked.ensures.spares r p.0)) (ended-sets r nodes.items c.in_ok-list.list.items (c.in_ok-list.ensures {u = tt}) (c.in_ok-nodes.ensures.spares r p)))

pub fold-returns-clause-spares : goal.fold-returns-clause-spares
fold-returns-clause-spares t c =
    let s = c.args.scope.now in
    let head = fold_head c.args.fold.now in
    let all = block (out-Fold c.args.fold.now).body.items in
    let left = IsLeft s.own (Fold head all) in
    let r = c.in_ok-low.low.register in
    let q = c.in_ok-high.high.register in
    let whole_block = c.in_ok-list.list in
    let counter = c.counter_of-counter.result in
    let x = v.Fold counter r q whole_block c.args.line in
    let free_is : c.in_ok-free.free ≡ s.own + c.in_ok-count_of.field-0 = c.in_ok-free.ensures {u = tt} in
    let wide : s.own ≤ c.in_ok-free.free = omega (arith, free_is) in
    let wider = c.in_ok-low.ensures.next.0 in
    let inner : SetsNone left [] c.pass.new.out.items =
    both-spared (fewer left (rw (c.new-one_block.ensures.items, c.deref-2.ensures.value) at c.in_ok-copy_row.ensures.spares) (λ k p. (p.0, (fold-changes head all k p.1).0)))
    (both-spared (fewer left (rw c.deref-3.ensures.value at c.in_ok-append.ensures.spares) (λ k p. (p.0, (fold-changes head all k p.1).2)))
    (fewer left c.in_ok-pass.ensures.spares (λ k p. p.0))) in
    let set : (k : ℕ) → left k → node_sets k (node x) ≡ false
    = λ k p. ap (node_sets k) (node-fold counter r q whole_block c.args.line)
    ∙ either (k == counter) _ (written-elsewhere s.own head.block counter k c.counter_of-counter.ensures.written p.0 (fold-changes head all k p.1).1) (ended-sets k c.pass.new.out.items whole_block.items (c.in_ok-list.ensures {u = tt}) (none-set inner k p)) in
    let so_far = both-spared (fewer left c.in_ok-pass-2.ensures.spares (λ k p. p.0))
    (both-spared (fewer left c.in_ok-low.ensures.spares (λ k p. let l = p.0 in omega (arith, l, wide)))
    (fewer left c.in_ok-high.ensures.spares (λ k p. let l = p.0 in omega (arith, l, wide, wider)))) in
    mapped c.copy_row-2.result (rw c.deref-6.ensures.value at c.copy_row-2.ensures.spares) (λ u w.
    both-spared so_far (both-spared (one-more left x refl (c.in_ok-add.ensures {u = tt}).appended set) (fewer left w (λ k p. (p.0, (fold-changes head all k p.1).0)))))

pub pair-returns-clause-spares : goal.pair-returns-clause-spares
pair-returns-clause-spares t c =
    let s = c.args.scope.now in
    let head = pair_head c.args.pair.now in
    let a = block (out-Pair c.args.pair.now).producer.items in
    let b = block (out-Pair c.args.pair.now).consumer.items in
    let left = IsLeft s.own (Pair head a b) in
    mapped c.append-2.result (rw c.deref-4.ensures.value at c.append-2.ensures.spares) (λ u w.
    both-spared (fewer left (rw c.deref.ensures.value at c.in_ok-append.ensures.spares) (λ k p. (p.0, (pair-changes head a b k p.1).1)))
    (both-spared (fewer left c.in_ok-pass.ensures.spares (λ k p. p.0))
    (both-spared (fewer left (rw c.deref-3.ensures.value at c.in_ok-copy_row.ensures.spares) (λ k p. (p.0, (pair-changes head a b k p.1).0)))
    (fewer left w (λ k p. (p.0, (pair-changes head a b k p.1).2))))))

pub statement-returns-in-Let-clause-spares : goal.statement-returns-in-Let-clause-spares
statement-returns-in-Let-clause-spares t c =
    rw c.in-Let.is (mapped c.assign.result c.assign.ensures.spares (λ u w. fewer (IsLeft c.args.scope.now.own (Let c.in-Let.slot (expression c.in-Let.value))) w (λ k p. (p.0, let-changes c.in-Let.slot (expression c.in-Let.value) k p.1))))

pub statement-returns-in-Assign-clause-spares : goal.statement-returns-in-Assign-clause-spares
statement-returns-in-Assign-clause-spares t c =
    rw c.in-Assign.is (mapped c.assign-in-Assign.result c.assign-in-Assign.ensures.spares (λ u w. fewer (IsLeft c.args.scope.now.own (Assign c.in-Assign.slot (expression c.in-Assign.value))) w (λ k p. (p.0, assign-changes c.in-Assign.slot (expression c.in-Assign.value) k p.1))))

pub statement-returns-in-Fail-clause-spares : goal.statement-returns-in-Fail-clause-spares
statement-returns-in-Fail-clause-spares t c =
    rw c.in-Fail.is (alone-spared c.add.result _ _ (v.Fail c.in-Fail.number c.args.line) (IsLeft c.args.scope.now.own (Fail c.in-Fail.number)) refl c.add.ensures.appended (λ r p. refl))

pub statement-returns-in-Break-clause-spares : goal.statement-returns-in-Break-clause-spares
statement-returns-in-Break-clause-spares t c =
    rw c.in-Break.is (alone-spared c.add-in-Break.result _ _ v.Break (IsLeft c.args.scope.now.own Break) refl c.add-in-Break.ensures.appended (λ r p. refl))

pub statement-returns-in-If-clause-spares : goal.statement-returns-in-If-clause-spares
statement-returns-in-If-clause-spares t c =
    rw (c.in-If.is, statement-if c.in-If.test c.in-If.first c.in-If.second, ← c.deref.ensures.value, ← c.deref-in-If.ensures.value) c.choose.ensures.spares

pub statement-returns-in-For-clause-spares : goal.statement-returns-in-For-clause-spares
statement-returns-in-For-clause-spares t c =
    rw (c.in-For.is, statement-for c.in-For.slot c.in-For.low c.in-For.high c.in-For.body, ← c.deref-in-For.ensures.value) c.for_loop.ensures.spares

pub statement-returns-in-While-clause-spares : goal.statement-returns-in-While-clause-spares
statement-returns-in-While-clause-spares t c =
    rw (c.in-While.is, statement-while c.in-While.test c.in-While.most c.in-While.body, ← c.deref-in-While.ensures.value) c.while_loop.ensures.spares

pub statement-returns-in-Fold-clause-spares : goal.statement-returns-in-Fold-clause-spares
statement-returns-in-Fold-clause-spares t c =
    rw (c.in-Fold.is, statement-fold c.in-Fold.parts, ← c.deref-in-Fold.ensures) c.fold.ensures.spares

pub statement-returns-in-Pair-clause-spares : goal.statement-returns-in-Pair-clause-spares
statement-returns-in-Pair-clause-spares t c =
    rw (c.in-Pair.is, statement-pair c.in-Pair.parts, ← c.deref-in-Pair.ensures) c.pair.ensures.spares

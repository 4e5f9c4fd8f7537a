use Rattle.std.proofs.Common.{rules, ◌≡◌, arith, sym, subst, length, add-one}
use Rattle.spf_ast.specs.View.{statement}
use Rattle.spf_ast.specs.ConstructView.{construct}
use Rattle.spf_exec.proofs.Prefixes.{IsPlainPrefix, prefix_grows, none_is, some_is, split_at, split_end, construct_at, end_of}
use Rattle.spf_exec.proofs.pieces.plain_prefix.Goals as goal

pub returns-in-Some-clause-before : goal.returns-in-Some-clause-before
returns-in-Some-clause-before c =
    rw c.loop-statement.invariant.count
    ((split_at c.args.statements.now c.loop-statement.statement-index c.statement-item.result c.loop-statement-test.true c.statement-item.is (some_is c.statement-item.result.line (statement c.statement-item.result.kind) (construct c.in-Some.construct) c.in-Some.ensures) c.loop-statement.invariant.plain).before)

pub returns-in-Some-clause-rest : goal.returns-in-Some-clause-rest
returns-in-Some-clause-rest c =
    rw c.loop-statement.invariant.count
    ((split_at c.args.statements.now c.loop-statement.statement-index c.statement-item.result c.loop-statement-test.true c.statement-item.is (some_is c.statement-item.result.line (statement c.statement-item.result.kind) (construct c.in-Some.construct) c.in-Some.ensures) c.loop-statement.invariant.plain).rest)

pub returns-in-Some-clause-construct : goal.returns-in-Some-clause-construct
returns-in-Some-clause-construct c =
    construct_at c.args.statements.now c.loop-statement.statement-index c.statement-item.result (construct c.in-Some.construct) c.loop-statement-test.true c.statement-item.is c.in-Some.ensures c.loop-statement.invariant.plain

pub loop-statement-preserved : goal.loop-statement-preserved
loop-statement-preserved c = record {
  count = search rules;
  plain = subst (IsPlainPrefix c.args.statements.now) (sym (add-one c.loop-statement.statement-index)) (prefix_grows c.args.statements.now c.loop-statement.statement-index c.statement-item.result c.loop-statement-test.true c.statement-item.is (none_is c.statement-item.result.line (statement c.statement-item.result.kind) c.in_default.ensures) c.loop-statement.invariant.plain);
}

pub returns-clause-before : goal.returns-clause-before
returns-clause-before c =
    let whole : c.loop-statement.statement-index ≡ length c.args.statements.now = omega (arith, c.loop-statement-test.false, c.loop-statement.auto.statement-index-end) in
    rw (c.loop-statement.invariant.count, whole) ((split_end c.args.statements.now (subst (IsPlainPrefix c.args.statements.now) whole c.loop-statement.invariant.plain)).before)

pub returns-clause-rest : goal.returns-clause-rest
returns-clause-rest c =
    let whole : c.loop-statement.statement-index ≡ length c.args.statements.now = omega (arith, c.loop-statement-test.false, c.loop-statement.auto.statement-index-end) in
    rw (c.loop-statement.invariant.count, whole) ((split_end c.args.statements.now (subst (IsPlainPrefix c.args.statements.now) whole c.loop-statement.invariant.plain)).rest)

pub returns-clause-construct : goal.returns-clause-construct
returns-clause-construct c =
    let whole : c.loop-statement.statement-index ≡ length c.args.statements.now = omega (arith, c.loop-statement-test.false, c.loop-statement.auto.statement-index-end) in
    end_of c.args.statements.now (subst (IsPlainPrefix c.args.statements.now) whole c.loop-statement.invariant.plain)

use Rattle.std.proofs.Common.{arith, ◌≡◌, ◌<◌, ◌+◌, ap, ◌∙◌, sym, subst, length, map, Some}
use Rattle.std.specs.Prelude.{slice_get}
use Rattle.spf_ast.specs.View.{block, program}
use Rattle.spf_ast.specs.Construct.{Construct, constructs_in}
use Rattle.spf_ast.specs.ConstructView.{construct}
use Rattle.spf_check.specs.Verdicts.{AreWritesBefore, IsExamined}
use Rattle.spf_check.specs.declared.check.Examined.TheVariants as examined
use Rattle.spf_ast_lemmas.proofs.Indices.{one-longer}
use Rattle.spf_check.proofs.Examining.{KeptBefore, one-more-kept, one-more-written, all-kept, first-refused, of-this, as-many}
use Rattle.spf_check.proofs.check.examine.Goals as goal

pub returns-in-Refused : goal.returns-in-Refused
returns-in-Refused c =
    let p = program c.args.program.now in
    let all : map construct c.deref-construct-items.result.now ≡ constructs_in p.main = ap (map construct) c.deref-construct-items.ensures.value ∙ c.in_ok-found.ensures ∙ ap (λ b. constructs_in (block b)) c.deref.ensures.value in
    let within : c.loop-construct.construct-index < length (constructs_in p.main) = subst (λ n. c.loop-construct.construct-index < n) (as-many _ _ all) c.loop-construct-test.true in
    first-refused p c.loop-construct.construct-index c.in-Refused.refusal.rule c.in-Refused.refusal.line c.in-Refused.refusal.range within c.loop-construct.invariant.kept
    (of-this (λ k. IsExamined p k (examined.Refused c.in-Refused.refusal)) (constructs_in p.main) _ c.loop-construct.construct-index c.construct-item.result all c.loop-construct-test.true c.construct-item.is
    (subst (IsExamined p (construct c.construct-item.result)) c.in-Refused.is c.in_ok-kept.ensures))

pub loop-construct-preserved : goal.loop-construct-preserved
loop-construct-preserved c =
    let p = program c.args.program.now in
    let all : map construct c.deref-construct-items.result.now ≡ constructs_in p.main = ap (map construct) c.deref-construct-items.ensures.value ∙ c.in_ok-found.ensures ∙ ap (λ b. constructs_in (block b)) c.deref.ensures.value in
    let this : (k : Construct) → slice_get (constructs_in p.main) c.loop-construct.construct-index ≡ Some k → IsExamined p k (examined.Accepted c.in-Accepted.kept) =
    of-this (λ k. IsExamined p k (examined.Accepted c.in-Accepted.kept)) (constructs_in p.main) _ c.loop-construct.construct-index c.construct-item.result all c.loop-construct-test.true c.construct-item.is
    (subst (IsExamined p (construct c.construct-item.result)) c.in-Accepted.is c.in_ok-kept.ensures) in
    record {
      kept = one-more-kept p c.loop-construct.construct-index c.in-Accepted.kept c.loop-construct.invariant.kept this;
      count = ap length c.in_ok-push-in-Accepted.ensures.items ∙ one-longer _ _ _ c.loop-construct.invariant.count;
      written = subst (AreWritesBefore p (c.loop-construct.construct-index + 1)) (sym c.in_ok-push-in-Accepted.ensures.items) (one-more-written p c.loop-construct.construct-index c.loop-construct.writes.items c.in-Accepted.kept c.loop-construct.invariant.count c.loop-construct.invariant.written this);
    }

pub returns : goal.returns
returns c =
    let p = program c.args.program.now in
    let all : map construct c.deref-construct-items.result.now ≡ constructs_in p.main = ap (map construct) c.deref-construct-items.ensures.value ∙ c.in_ok-found.ensures ∙ ap (λ b. constructs_in (block b)) c.deref.ensures.value in
    let same : c.loop-construct.construct-index ≡ length (constructs_in p.main) = omega (arith, c.loop-construct-test.false, c.loop-construct.auto.construct-index-end, as-many _ _ all) in (
      all-kept p (subst (KeptBefore p) same c.loop-construct.invariant.kept),
      subst (λ n. AreWritesBefore p n c.loop-construct.writes.items) same c.loop-construct.invariant.written,
    )

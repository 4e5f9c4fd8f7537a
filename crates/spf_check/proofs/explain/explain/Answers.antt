use Rattle.std.proofs.Common.{arith, ◌≡◌, ◌<◌, length, map, subst, ap, ◌∙◌, take}
use Rattle.std.specs.Prelude.{◌++◌}
use Rattle.std.proofs.Math.Seq.{take-length}
use Rattle.spf_ast.specs.View.{block, program}
use Rattle.spf_ast.specs.Construct.{constructs_in}
use Rattle.spf_ast.specs.ConstructView.{construct}
use Rattle.spf_check.specs.Text.{AreConstructTexts, IsConstructText}
use Rattle.spf_ast_lemmas.proofs.Indices.{at-index}
use Rattle.spf_check.proofs.Examining.{of-this, as-many}
use Rattle.spf_check.proofs.Explained.{texts-grow}
use Rattle.spf_check.proofs.explain.explain.Goals as goal

pub loop-construct-preserved : goal.loop-construct-preserved
loop-construct-preserved c =
    let p = program c.args.program.now in
    let all : map construct c.deref-construct-items.result.now ≡ constructs_in p.main = ap (map construct) c.deref-construct-items.ensures.value ∙ c.in_ok-found.ensures ∙ ap (λ b. constructs_in (block b)) c.deref.ensures.value in
    let within : c.loop-construct.construct-index < length (constructs_in p.main) = subst (λ n. c.loop-construct.construct-index < n) (as-many _ _ all) c.loop-construct-test.true in
    let k = at-index (constructs_in p.main) c.loop-construct.construct-index within in
    record {
      lines = texts-grow p c.loop-construct.construct-index k.0 c.loop-construct.text.items _ k.1 c.loop-construct.invariant.lines
          (of-this (λ x. (lines : _) × IsConstructText p x lines × (c.push_construct.new.text.items ≡ c.loop-construct.text.items ++ lines)) (constructs_in p.main) _ c.loop-construct.construct-index c.construct-item.result all c.loop-construct-test.true c.construct-item.is c.in_ok-push_construct.ensures k.0 k.1);
    }

pub returns : goal.returns
returns c =
    let p = program c.args.program.now in
    let found : map construct c.deref-construct-items.result.now ≡ constructs_in p.main = ap (map construct) c.deref-construct-items.ensures.value ∙ c.in_ok-found.ensures ∙ ap (λ b. constructs_in (block b)) c.deref.ensures.value in
    let all : c.loop-construct.construct-index ≡ length (constructs_in p.main) = omega (arith, c.loop-construct-test.false, c.loop-construct.auto.construct-index-end, as-many _ _ found) in
    subst (λ ks. AreConstructTexts p ks c.loop-construct.text.items) (ap (λ n. take n (constructs_in p.main)) all ∙ take-length _) c.loop-construct.invariant.lines

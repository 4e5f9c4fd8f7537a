use Rattle.std.proofs.Common.{sym, ◌∙◌, ap, subst, w64}
use Rattle.std.proofs.lemmas.Int.{to_z-of_z}
use Rattle.std.specs.Prelude.{slice_index_or}
use Rattle.spf_ast.specs.View.{program}
use Rattle.spf_check.specs.Verdicts.{IsKept}
use Rattle.spf_check.specs.Plans.{AreBlocksOf}
use Rattle.spf_check.proofs.Planning.{plan-is, list-within, extents-fit, kept-writes, same-construct}
use Rattle.spf_check.proofs.checked.Checked.plan.Goals as goal

pub spans_of-requires-clause-inside : goal.spans_of-requires-clause-inside
spans_of-requires-clause-inside c = λ block array has.
    let kept = subst (λ q. IsKept (program q) c.self.inside.writes.items) c.self.view_is c.self.invariant in
    let chosen = c.requires.construct in
    let layout = c.requires.layout in
    let found = λ (d : _). c.in-Some.ensures.lookup.3.1 d ∙ ap (λ l. slice_index_or l c.args.construct d) c.deref.ensures.value in
    let are = kept-writes (program c.args.self.now) c.self.inside.writes.items c.args.construct chosen.0 c.in-Some.writes.now kept chosen.1 found in
    rw (c.extents.ensures ∙ layout.1.extents) (list-within (program c.args.self.now) c.args.construct chosen.0 c.in-Some.writes.now block layout.0 kept.lawful chosen.1 are array has)

pub spans_of-requires-clause-fits : goal.spans_of-requires-clause-fits
spans_of-requires-clause-fits c =
    let layout = c.requires.layout in
    rw (c.extents.ensures ∙ layout.1.extents) (extents-fit (program c.args.self.now) layout.0 layout.1.few)

pub returns : goal.returns
returns c = λ k is.
    let kept = subst (λ q. IsKept (program q) c.self.inside.writes.items) c.self.view_is c.self.invariant in
    let layout = c.requires.layout in
    let found = λ (d : _). c.in-Some.ensures.lookup.3.1 d ∙ ap (λ l. slice_index_or l c.args.construct d) c.deref.ensures.value in
    let are = kept-writes (program c.args.self.now) c.self.inside.writes.items c.args.construct k c.in-Some.writes.now kept is found in
    plan-is c.the_rules_set_free.ensures (program c.args.self.now) c.args.construct k c.in-Some.writes.now layout.0 c.args.layout.now.extents c.args.layout.now.cells c.args.low c.args.blocks _ kept.lawful is (kept.accepted c.args.construct k is) are layout.1.extents layout.1.cells
    (subst (λ j. AreBlocksOf j c.args.blocks) (same-construct _ k (sym c.requires.construct.1 ∙ is)) c.requires.construct.2)
    (rw (c.extents.ensures, to_z-of_z w64 c.args.low record { sfits = c.ranges.low.sfits }) at c.in_ok-spans_of.ensures)

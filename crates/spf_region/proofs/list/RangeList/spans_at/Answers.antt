use Rattle.std.proofs.Common.{◌∙◌, ap, sym, get_or}
use Rattle.spf_region.specs.Ranges.{has_array, array_of}
use Rattle.spf_region.proofs.Spans.{has-own-array}
use Rattle.spf_region.proofs.list.RangeList.spans_at.Goals as goal

pub spans_at-requires-clause-inside : goal.spans_at-requires-clause-inside
spans_at-requires-clause-inside c = λ i d below.
    let is = c.deref.ensures.value in
    c.requires.inside (array_of (get_or c.deref.result.now i d)) (ap (λ l. has_array l (array_of (get_or c.deref.result.now i d))) (sym c.self.view_is ∙ sym is) ∙ has-own-array c.deref.result.now i d below)

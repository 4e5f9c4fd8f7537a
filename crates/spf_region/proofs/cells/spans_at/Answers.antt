use Rattle.std.proofs.Common.{rules, ◌≡◌, ap, sym, subst, ◌∙◌, w64, ℕ, false}
use Rattle.std.specs.List.{list_any}
use Rattle.std.specs.List.Sorted.{IsNonDecreasingBy}
use Rattle.std.proofs.lemmas.Int.{to_z-of_z}
use Rattle.std.proofs.lemmas.List.Sorted.{list_any-IsPermutation, IsNonDecreasingBy-from_sort_by_key}
use Rattle.spf_region.specs.declared.span.Span.{Span}
use Rattle.spf_region.specs.Cells.{in_span, in_spans, cells_at, AreAscending}
use Rattle.spf_region.specs.Joining.{joined_spans}
use Rattle.spf_region.proofs.Spans.{is_no_span, joined-all-cells, joined-all-ascending}
use Rattle.spf_region.proofs.Results.{given-spans}
use Rattle.spf_region.proofs.cells.spans_at.Goals as goal

pub returns-clause-cells : goal.returns-clause-cells
returns-clause-cells c =
    let was = c.in_ok-spans.spans.items in
    let now = c.sort_unstable_by_key.new.self.items in
    let moved = c.sort_unstable_by_key.ensures.permutation in
    let sorted : IsNonDecreasingBy (λ (s : Span). s.from) now = IsNonDecreasingBy-from_sort_by_key (λ (s : Span). s.from) _ c.sort_unstable_by_key.ensures.sorted (λ a r q k. search rules) in
    let filled : list_any is_no_span now ≡ false = sym (list_any-IsPermutation is_no_span was now moved) ∙ c.in_ok-spans.ensures.filled in
    given-spans (λ v. v.items) (λ l. (cell : ℕ) → in_spans l cell ≡ cells_at c.args.extents.now c.args.k c.args.ranges.now cell) c.joined_spans.result (joined_spans c.deref.result.now)
    (λ cell. ap (λ l. in_spans (joined_spans l) cell) c.deref.ensures.value ∙ joined-all-cells now cell sorted filled ∙ sym (list_any-IsPermutation (λ s. in_span s cell) was now moved) ∙ rw (to_z-of_z w64 _ c.ranges.k) at (c.in_ok-spans.ensures.cells cell))
    c.joined_spans.ensures

pub returns-clause-ascending : goal.returns-clause-ascending
returns-clause-ascending c =
    let was = c.in_ok-spans.spans.items in
    let now = c.sort_unstable_by_key.new.self.items in
    let moved = c.sort_unstable_by_key.ensures.permutation in
    let sorted : IsNonDecreasingBy (λ (s : Span). s.from) now = IsNonDecreasingBy-from_sort_by_key (λ (s : Span). s.from) _ c.sort_unstable_by_key.ensures.sorted (λ a r q k. search rules) in
    let filled : list_any is_no_span now ≡ false = sym (list_any-IsPermutation is_no_span was now moved) ∙ c.in_ok-spans.ensures.filled in
    given-spans (λ v. v.items) AreAscending c.joined_spans.result (joined_spans c.deref.result.now)
    (subst (λ l. AreAscending (joined_spans l)) (sym c.deref.ensures.value) (joined-all-ascending now sorted filled))
    c.joined_spans.ensures

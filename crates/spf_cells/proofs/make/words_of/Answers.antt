use Rattle.std.proofs.Common.{◌≡◌, ℕ, length, ap, sym, ◌∙◌, List, [], ◌++◌, map, append_assoc, take, get_or, replicate, Vec, Global}
use Rattle.std.proofs.lemmas.List.{map-append}
use lib.ListN.{get_elem?}
use Rattle.spf_region.specs.declared.span.Span.{Span}
use Rattle.spf_cells.specs.Spans.{entry_word, cells_of, cells_of_plan}
use Rattle.spf_cells.specs.Made.{spans_in}
use Rattle.spf_cells.proofs.Plans.{block_in, plan_snoc, reached}
use Rattle.spf_cells.proofs.make.words_of.Goals as goal

pub push_block-requires : goal.push_block-requires
push_block-requires c = λ j k at.
    let r = reached {V = Vec Span Global} (λ v. v.items) c.args.plan.now.blocks.items c.deref-spans-items.result.now c.loop-spans.spans-index c.spans-item.result c.as_slice.result.now c.deref-spans-items.ensures.value c.loop-spans-test.true c.spans-item.is c.as_slice.ensures.value in
    let b = block_in (spans_in c.args.plan.now) c.loop-spans.spans-index r.0 j k (ap (λ (l : List Span). get_elem? (cells_of l) j) (sym r.1) ∙ at) in
    c.requires b.0 k b.1

pub loop-spans-preserved : goal.loop-spans-preserved
loop-spans-preserved c =
    let r = reached {V = Vec Span Global} (λ v. v.items) c.args.plan.now.blocks.items c.deref-spans-items.result.now c.loop-spans.spans-index c.spans-item.result c.as_slice.result.now c.deref-spans-items.ensures.value c.loop-spans-test.true c.spans-item.is c.as_slice.ensures.value in
    let f : ℕ → ℕ = entry_word c.args.entry.now in
    let pl : List (List Span) = spans_in c.args.plan.now in
    let zeros : List ℕ = replicate (length pl) 0 in
    let front : List ℕ = cells_of_plan (take c.loop-spans.spans-index pl) in
    let block : List ℕ = cells_of (get_or pl c.loop-spans.spans-index []) in
    let was : c.loop-spans.words.items ≡ zeros ++ map f front = c.loop-spans.invariant in
    let mine : c.as_slice.result.now ≡ get_or pl c.loop-spans.spans-index [] = r.1 in
    c.in_ok-push_block.ensures ∙ ((λ t. was t ++ map f (cells_of (mine t))) ∙ (append_assoc zeros (map f front) (map f block)
    ∙ ap (λ l. zeros ++ l) (sym (map-append f front block) ∙ ap (map f) (sym (plan_snoc pl c.loop-spans.spans-index r.0)))))

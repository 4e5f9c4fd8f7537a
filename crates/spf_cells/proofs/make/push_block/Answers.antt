use Rattle.std.proofs.Common.{ℕ, ◌-◌, ap, sym, ◌∙◌, List, ◌++◌, map, append_assoc, take, get_or}
use Rattle.std.proofs.lemmas.List.{map-append}
use Rattle.spf_region.specs.declared.span.Span.{Span}
use Rattle.spf_cells.specs.Spans.{consecutive, entry_word, cells_of}
use Rattle.spf_cells.proofs.Spans.{cells_snoc}
use Rattle.spf_cells.proofs.Plans.{span_in}
use Rattle.spf_cells.proofs.make.push_block.Goals as goal

pub push_span-requires : goal.push_span-requires
push_span-requires c = λ j k at. let s = span_in c.args.spans.now c.loop-span.span-index record { from = 0; to = 0 } c.loop-span-test.true j k at in c.requires s.0 k s.1

pub loop-span-preserved : goal.loop-span-preserved
loop-span-preserved c =
    let i : ℕ = c.loop-span.span-index in
    let d : Span = record { from = 0; to = 0 } in
    let s : Span = get_or c.args.spans.now i d in
    let f : ℕ → ℕ = entry_word c.args.entry.now in
    let front : List ℕ = cells_of (take i c.args.spans.now) in
    c.in_ok-push_span.ensures ∙ (ap (λ l. l ++ map f (consecutive s.from (s.to - s.from))) c.loop-span.invariant ∙ (append_assoc c.args.words.now.items (map f front) (map f (consecutive s.from (s.to - s.from)))
    ∙ ap (λ l. c.args.words.now.items ++ l) (sym (map-append f front (consecutive s.from (s.to - s.from))) ∙ ap (map f) (sym (cells_snoc c.args.spans.now i d c.loop-span-test.true)))))

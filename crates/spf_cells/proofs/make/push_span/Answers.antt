use Rattle.std.proofs.Common.{rules, ◌≡◌, ℕ, ◌+◌, ◌-◌, ◌<◌, ◌≤◌, length, arith, ap, sym, ◌∙◌, List, [], ◌∷◌, ◌++◌, map, append_assoc, pos, get_or, w64, of_z}
use Rattle.std.proofs.lemmas.List.{map-append}
use Rattle.std.proofs.lemmas.Int.{to_z-of_z}
use mir.Val.{SFits}
use mathlib.Core.Logic.{dite}
use native.Mathlib.Decide.{dec_le}
use mathlib.Core.Option.{some}
use lib.ListN.{get_elem?}
use Rattle.spf_cells.specs.Spans.{consecutive, entry_word}
use Rattle.spf_cells.proofs.Spans.{consecutive_at}
use Rattle.spf_cells.proofs.Plans.{consecutive-snoc}
use Rattle.spf_cells.proofs.make.push_span.Goals as goal

inside : (from to cell n : ℕ) → from ≤ cell → cell < to → ((j c : ℕ) → get_elem? (consecutive from (to - from)) j ≡ some c → c < n) → cell < n
inside from to cell n low high req = req (cell - from) cell (let e : from + (cell - from) ≡ cell = omega arith in consecutive_at from (to - from) (cell - from) (omega arith) ∙ ap some e)

pub bounds-entry-cell : goal.bounds-entry-cell
bounds-entry-cell c = inside c.args.span.from c.args.span.to c.loop-cell.cell (length c.args.entry.now) c.loop-cell.auto.cell c.loop-cell-test.true c.requires

pub offset_bounds-entry-cell : goal.offset_bounds-entry-cell
offset_bounds-entry-cell c = let h : c.loop-cell.cell < length c.args.entry.now = inside c.args.span.from c.args.span.to c.loop-cell.cell (length c.args.entry.now) c.loop-cell.auto.cell c.loop-cell-test.true c.requires in search rules

longer : (f : ℕ → ℕ) (was now init : List ℕ) (x from cell : ℕ) → from ≤ cell → now ≡ was ++ x ∷ [] → was ≡ init ++ map f (consecutive from (cell - from)) → x ≡ f cell → now ≡ init ++ map f (consecutive from (cell + 1 - from))
longer f was now init x from cell low grew is same =
    let e : cell + 1 - from ≡ (cell - from) + 1 = omega arith in
    let g : from + (cell - from) ≡ cell = omega arith in
    grew ∙ (λ t. is t ++ same t ∷ []) ∙ (append_assoc init (map f (consecutive from (cell - from))) (f cell ∷ [])
    ∙ ap (λ l. init ++ l) (ap (λ k. map f (consecutive from (cell - from)) ++ f k ∷ []) (sym g) ∙ (sym (map-append f (consecutive from (cell - from)) ((from + (cell - from)) ∷ [])) ∙ (ap (map f) (sym (consecutive-snoc from (cell - from))) ∙ ap (λ n. map f (consecutive from n)) (sym e)))))

pub loop-cell-preserved : goal.loop-cell-preserved
loop-cell-preserved c =
    let low = c.loop-cell.auto.cell in let high = c.loop-cell-test.true in
    let fits : SFits w64 (get_or c.args.entry.now c.loop-cell.cell (pos 0)) = search rules in
    let word : c.cast_unsigned.result ≡ entry_word c.args.entry.now c.loop-cell.cell = c.cast_unsigned.ensures ∙ ap (of_z w64) (to_z-of_z w64 _ fits) in (
      longer (entry_word c.args.entry.now) _ _ _ _ c.args.span.from c.loop-cell.cell low (c.in_ok-push.ensures.items) c.loop-cell.invariant.0 word,
      (λ h. absurd (omega arith)),
    )

pub returns : goal.returns
returns c = let low = c.loop-cell.auto.cell in let high = c.loop-cell-test.false in
    let same : c.loop-cell.cell - c.args.span.from ≡ c.args.span.to - c.args.span.from = dite (dec_le c.args.span.to c.args.span.from) (λ h. let e = c.loop-cell.invariant.1 h in omega arith) (λ h. let e = c.loop-cell.auto.cell-end (omega arith) in omega arith) in
    c.loop-cell.invariant.0 ∙ ap (λ n. c.args.words.now.items ++ map (entry_word c.args.entry.now) (consecutive c.args.span.from n)) same

use Rattle.std.proofs.Common.{◌≡◌, ℤ, pos, length, refl, sym, ap, ◌∙◌, arith}
use Rattle.std.specs.Prelude.{◌+ℤ◌}
use Rattle.std.proofs.lemmas.Int.{to_z-of_z}
use mir.Syntax.{w64}
use mir.Val.{to_z, of_z}
use Rattle.spf_ast_lemmas.proofs.Members.{cases}
use Rattle.spf_ast.specs.Event.{word_at}
use Rattle.spf_region.specs.Cells.{in_spans}
use Rattle.spf_speculation.proofs.Within.{true-or-false}
use Rattle.spf_replay.specs.Entered.{entry_of}
use Rattle.spf_replay.proofs.Copies.{copied-in, copied-out, whole-slice}
use Rattle.spf_replay.proofs.EnteredBlocks.{can-run, context-of}
use Rattle.spf_replay.proofs.runner.record_block.Goals as goal

pub record_attempt-record-requires-clause-can : goal.record_attempt-record-requires-clause-can
record_attempt-record-requires-clause-can c =
    let s = c.context_of-context.ensures in
    can-run c.args.entered.now c.args.n c.context_of-context.result _ c.requires.is s.instance s.frame s.entry refl refl c.part_of.ensures

pub record_attempt-record-requires-clause-cells : goal.record_attempt-record-requires-clause-cells
record_attempt-record-requires-clause-cells c = c.requires.cells ∙ ap length (sym c.context_of-context.ensures.entry)

pub record_attempt-record-requires-clause-words : goal.record_attempt-record-requires-clause-words
record_attempt-record-requires-clause-words c =
    let s = c.context_of-context.ensures in
    λ cell inside. c.requires.words c.args.n cell c.requires.block (sym (s.spans cell) ∙ inside) ∙ ap (λ m. word_at m cell) (sym s.entry)

pub returns-clause-record : goal.returns-clause-record
returns-clause-record c =
    let s = c.context_of-context.ensures in
    let e = entry_of c.args.entered.now in
    let number : to_z w64 (of_z w64 c.number_at.result) ≡ c.number_at.result = grind (arith, to_z-of_z) in
    let low : to_z w64 (of_z w64 e.header.low) ≡ e.header.low = grind (arith, to_z-of_z) in
    c.record_attempt-record.ensures.record e c.args.n c.requires.is.is_entry
    (context-of c.args.entered.now c.args.n c.context_of-context.result _ s.instance s.frame s.entry s.spans refl c.part_of.ensures (number ∙ c.number_at.ensures ∙ ap (λ (l : ℤ). l +ℤ pos c.args.n) low))

pub returns-clause-words : goal.returns-clause-words
returns-clause-words c n cell low mine =
    let s = c.context_of-context.ensures in
    let e = entry_of c.args.entered.now in
    let number : to_z w64 (of_z w64 c.number_at.result) ≡ c.number_at.result = grind (arith, to_z-of_z) in
    let start : to_z w64 (of_z w64 e.header.low) ≡ e.header.low = grind (arith, to_z-of_z) in
    let spans = c.context_of-context.result.spans.now in
    let entry = c.args.entered.now.cells.now in
    let before = c.deref_mut.result.now in
    let after = c.copy_spans.new.to in
    let made = c.record_attempt-record.result.cells in
    let whole = whole-slice made.len after made.items (c.copy_spans.ensures.same ∙ ap length c.deref_mut.ensures.value ∙ sym made.ok.0) (sym made.ok.0) in
    ap (λ m. word_at m cell) whole
    ∙ cases (true-or-false (in_spans spans cell))
    (λ inside. copied-in (in_spans spans) entry before after cell c.copy_spans.ensures.copied inside)
    (λ out. copied-out (in_spans spans) entry before after cell c.copy_spans.ensures.copied out
    ∙ ap (λ m. word_at m cell) c.deref_mut.ensures.value
    ∙ c.record_attempt-record.ensures.outside e c.args.n c.requires.is.is_entry
    (context-of c.args.entered.now c.args.n c.context_of-context.result _ s.instance s.frame s.entry s.spans refl c.part_of.ensures (number ∙ c.number_at.ensures ∙ ap (λ (l : ℤ). l +ℤ pos c.args.n) start))
    cell out
    ∙ c.requires.words n cell low mine)

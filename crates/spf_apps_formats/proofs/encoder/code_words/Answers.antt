use Rattle.std.proofs.Common.{◌≡◌, ◌++◌, ◌<◌, take, get_or, sym, ap, ◌∙◌, subst, arith, ◌+◌}
use Rattle.std.proofs.lemmas.List.{take_all}
use Rattle.std.proofs.lemmas.Result.{IfOk-weaker}
use Rattle.std.proofs.lemmas.List.FromFn.{get_or-map-range_with_len}
use Rattle.spf_apps_formats.specs.Huffman.{bits, word_number, code_words}
use Rattle.spf_apps_formats.specs.Huf1.{Holds}
use Rattle.spf_apps_formats.proofs.Encoding.{code_words_more}
use Rattle.spf_apps_formats.proofs.encoder.code_words.Goals as goal

pub loop-symbol-preserved : goal.loop-symbol-preserved
loop-symbol-preserved c =
    let symbol = get_or c.args.symbols.now c.loop-symbol.symbol-index 0 in
    let few : symbol < 256 = omega (arith, c.type_inv.symbols c.loop-symbol.symbol-index) in
    let offset : 0 + symbol ≡ symbol = omega arith in
    let number = c.index.ensures ∙ ap (λ l. get_or l symbol c.index.result.now) c.in_ok-words.ensures.words ∙ get_or-map-range_with_len (word_number c.args.lengths.now) 0 256 symbol symbol c.index.result.now few offset in
    c.in_ok-push_bits.ensures
    ∙ (λ i. c.loop-symbol.invariant i ++ bits (c.from.ensures i) (number i))
    ∙ sym (code_words_more c.args.lengths.now c.args.symbols.now c.loop-symbol.symbol-index c.loop-symbol-test.true)

pub returns : goal.returns
returns c =
    let whole : code_words c.args.lengths.now (take c.loop-symbol.symbol-index c.args.symbols.now) ≡ code_words c.args.lengths.now c.args.symbols.now =
    ap (code_words c.args.lengths.now) (take_all c.loop-symbol.symbol-index c.args.symbols.now c.loop-symbol-test.false) in
    IfOk-weaker c.finish.result _ _ (λ bytes h. subst (λ b. Holds b bytes.items) (c.loop-symbol.invariant ∙ whole) h) c.finish.ensures

use Rattle.std.proofs.Common.{arith, ◌≡◌, ◌+◌, ◌++◌, ◌∷◌, [], ◌∙◌, ap, sym, subst, map, length}
use Rattle.std.specs.List.{range_with_len}
use Rattle.std.proofs.lemmas.List.FromFn.{map-range_with_len_more, length-map-range_with_len}
use Rattle.spf_apps_formats.specs.Huffman.{word_number}
use Rattle.spf_apps_formats.proofs.encoder.code_table.Goals as goal

pub loop-symbol-preserved : goal.loop-symbol-preserved
loop-symbol-preserved c =
    let offset : 0 + c.loop-symbol.symbol ≡ c.loop-symbol.symbol = omega arith in
    c.in_ok-push.ensures.items
    ∙ (λ i. c.loop-symbol.invariant i ++ c.word_number.ensures i ∷ [])
    ∙ sym (map-range_with_len_more (word_number c.args.lengths.now) 0 c.loop-symbol.symbol c.loop-symbol.symbol offset)

pub returns-clause-words : goal.returns-clause-words
returns-clause-words c =
    let all : c.loop-symbol.symbol ≡ 256 = omega arith in
    subst (λ n. c.loop-symbol.words.items ≡ map (word_number c.args.lengths.now) (range_with_len 0 n)) all c.loop-symbol.invariant

pub returns-clause-count : goal.returns-clause-count
returns-clause-count c =
    let all : c.loop-symbol.symbol ≡ 256 = omega arith in
    ap length c.loop-symbol.invariant ∙ length-map-range_with_len (word_number c.args.lengths.now) 0 c.loop-symbol.symbol ∙ all

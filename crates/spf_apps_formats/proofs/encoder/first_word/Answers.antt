use Rattle.std.proofs.Common.{◌≡◌, suc, ◌+◌, ◌*◌, ◌∙◌, ap, arith}
use Rattle.std.proofs.lemmas.Nat.{pow-add}
use Rattle.spf_apps_formats.specs.Huffman.{first_word}
use Rattle.spf_apps_formats.proofs.encoder.first_word.Goals as goal

pub loop-shorter-preserved : goal.loop-shorter-preserved
loop-shorter-preserved c =
    let next : suc c.loop-shorter.shorter ≡ c.loop-shorter.shorter + 1 = omega arith in (
      (λ i. 2 * (c.loop-shorter.invariant.0 i + c.words_of_length.ensures.count i)) ∙ ap (first_word c.args.lengths.now) next,
      omega (arith, c.loop-shorter.invariant.1, c.words_of_length.ensures.few, pow-add 2 c.loop-shorter.shorter 1),
    )

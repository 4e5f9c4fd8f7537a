use Rattle.std.proofs.Common.{List, ℕ, length, sym, ap, ◌∙◌, subst, arith}
use Rattle.spf_apps_formats.specs.Huffman.{AreCodeLengths, HaveWords}
use Rattle.spf_apps_formats.specs.Draws.{five_symbols, picked_bytes}
use Rattle.spf_apps_formats.proofs.Five.{five_are_lengths, picked_have_words}
use Rattle.spf_apps_formats.proofs.generate.huffman_coded.Goals as goal

pub encode-requires-clause-few : goal.encode-requires-clause-few
encode-requires-clause-few c = omega (arith, ap length c.deref.ensures.value, c.in_ok-symbols.ensures.count, c.requires)

pub encode-requires-clause-lengths : goal.encode-requires-clause-lengths
encode-requires-clause-lengths c = subst AreCodeLengths (sym c.five_lengths_array.ensures) five_are_lengths

pub encode-requires-clause-words : goal.encode-requires-clause-words
encode-requires-clause-words c =
    let symbols = sym (c.deref.ensures.value ∙ c.in_ok-symbols.ensures.bytes) in
    subst (λ (x : List ℕ × List ℕ). HaveWords x.0 (length x.1) x.1) (λ i. (sym c.five_lengths_array.ensures i, symbols i))
    (picked_have_words (length (picked_bytes five_symbols c.args.size c.args.seed)) c.args.size c.args.seed)

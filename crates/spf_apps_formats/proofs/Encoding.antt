-- Code words of symbols, one after another.
use Rattle.std.proofs.Common.{◌≡◌, ℕ, ◌+◌, ◌<◌, List, [], ◌∷◌, ◌++◌, length, take, get_or, ap, ◌∙◌, append-nil}
use Rattle.std.proofs.lemmas.List.{take_more}
use Rattle.std.proofs.lemmas.Grind.{flat_map-append}
use Rattle.spf_apps_formats.specs.Huffman.{code_word, code_words}

pub code_words_more : (lengths symbols : List ℕ) (i : ℕ) → i < length symbols → code_words lengths (take (i + 1) symbols) ≡ code_words lengths (take i symbols) ++ code_word lengths (get_or symbols i 0)
code_words_more lengths symbols i h =
    ap (code_words lengths) (take_more symbols i 0 h)
    ∙ flat_map-append (code_word lengths) (take i symbols) (get_or symbols i 0 ∷ [])
    ∙ ap (λ r. code_words lengths (take i symbols) ++ r) (append-nil (code_word lengths (get_or symbols i 0)))

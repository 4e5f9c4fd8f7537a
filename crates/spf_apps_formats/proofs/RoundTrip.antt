-- What is decoded of an encoded file.
use Rattle.std.proofs.Common.{◌≡◌, ◌⊎◌, inl, inr, ℕ, zero, suc, ◌+◌, ◌<◌, ◌≤◌, ◌^◌, Bool, false, List, [], ◌∷◌, ◌++◌, length, take, drop, replicate, refl, ap, sym, ◌∙◌, subst, arith, append_assoc, length-append}
use Rattle.std.specs.Prelude.{slice_index}
use Rattle.std.specs.Int.{to_be_bytes, from_be_bytes, w32}
use Rattle.std.proofs.lemmas.Nat.{from_be_bytes-to_be_bytes_4}
use Rattle.spf_apps_formats.specs.Huffman.{AreCodeLengths, HaveWords, bits, word_number, code_word, code_words, bits_of}
use Rattle.spf_apps_formats.specs.Huf1.{Encodes, header, lengths_of}
use Rattle.spf_apps_formats.specs.Decoded.{Decodes, count_of, IsDecoded, IsShort}
use Rattle.spf_apps_formats.proofs.PrefixFree.{HasWord, one_symbol, begin_alike}

-- ---- code words

pub within : (xs : List ℕ) (y : ℕ) → 0 < slice_index xs y → y < length xs
within [] y h = absurd (omega (arith, h))
within (x ∷ xs) zero h = omega arith
within (x ∷ xs) (suc y) h = omega (arith, within xs y h)

pub prefix_free : (lengths : List ℕ) (symbol other : ℕ) (rest more : List Bool) → AreCodeLengths lengths → 0 < slice_index lengths symbol → 0 < slice_index lengths other → code_word lengths symbol ++ rest ≡ code_word lengths other ++ more → symbol ≡ other
prefix_free lengths symbol other rest more a h k e =
    one_symbol lengths symbol other rest more a (record { inside = within lengths symbol h; some = h }) (record { inside = within lengths other k; some = k }) e

-- symbols whose code words the same bits begin with
pub parsed_once : (lengths a b : List ℕ) (x y : List Bool) → AreCodeLengths lengths → HaveWords lengths (length a) a → HaveWords lengths (length b) b → length a ≤ length b → code_words lengths a ++ x ≡ code_words lengths b ++ y → take (length a) b ≡ a
parsed_once lengths [] b x y code h k few e = refl
parsed_once lengths (s ∷ a) [] x y code h k few e = absurd (omega (arith, few))
parsed_once lengths (s ∷ a) (t ∷ b) x y code h k few e =
    let whole = sym (append_assoc (code_word lengths s) (code_words lengths a) x) ∙ e ∙ append_assoc (code_word lengths t) (code_words lengths b) y in
    let same = prefix_free lengths s t (code_words lengths a ++ x) (code_words lengths b ++ y) code (h 0 (omega arith)) (k 0 (omega arith)) whole in
    let alike = begin_alike (code_word lengths s) (code_word lengths t) (code_words lengths a ++ x) (code_words lengths b ++ y) (ap (λ n. length (code_word lengths n)) same) whole in
    let rest = parsed_once lengths a b x y code (λ n less. h (suc n) (omega (arith, less))) (λ n less. k (suc n) (omega (arith, less))) (omega (arith, few)) alike.1 in
    (λ i. sym same i ∷ rest i)

-- ---- the header

take_front : (a b : List ℕ) (n : ℕ) → length a ≡ n → take n (a ++ b) ≡ a
take_front [] b zero h = refl
take_front [] b (suc n) h = absurd (omega (arith, h))
take_front (x ∷ a) b zero h = absurd (omega (arith, h))
take_front (x ∷ a) b (suc n) h = ap (λ l. x ∷ l) (take_front a b n (omega (arith, h)))

drop_front : (a b : List ℕ) (n : ℕ) → length a ≡ n → drop n (a ++ b) ≡ b
drop_front [] b zero h = refl
drop_front [] b (suc n) h = absurd (omega (arith, h))
drop_front (x ∷ a) b zero h = absurd (omega (arith, h))
drop_front (x ∷ a) b (suc n) h = drop_front a b n (omega (arith, h))

pub lengths_back : (lengths words : List ℕ) (n : ℕ) → length lengths ≡ 256 → lengths_of (header lengths n ++ words) ≡ lengths
lengths_back lengths words n h =
    ap (take 256) (append_assoc lengths (to_be_bytes w32 n) words) ∙ take_front lengths (to_be_bytes w32 n ++ words) 256 h

count_back : (lengths words : List ℕ) (n : ℕ) → length lengths ≡ 256 → n < 2 ^ 32 → count_of (header lengths n ++ words) ≡ n
count_back lengths words n h small =
    ap (λ l. from_be_bytes w32 (take 4 (drop 256 l))) (append_assoc lengths (to_be_bytes w32 n) words)
    ∙ ap (λ l. from_be_bytes w32 (take 4 l)) (drop_front lengths (to_be_bytes w32 n ++ words) 256 h)
    ∙ from_be_bytes-to_be_bytes_4 n small

words_back : (lengths words : List ℕ) (n : ℕ) → length lengths ≡ 256 → drop 264 (header lengths n ++ words) ≡ words
words_back lengths words n h =
    drop_front (lengths ++ to_be_bytes w32 n) words 260 (length-append lengths (to_be_bytes w32 n) ∙ (let e : length lengths + 4 ≡ 260 = omega (arith, h) in e))

-- ---- files

-- two facts about what is decoded
abbrev AreAll : (symbols file output : List ℕ) → Type 0
AreAll symbols file output = (output ≡ symbols) × (IsShort file output → ⊥)

decoded_back : (lengths symbols words output : List ℕ) → length lengths ≡ 256 → length symbols < 2 ^ 32 → Encodes lengths symbols (header lengths (length symbols) ++ words) → (padding : ℕ) → bits_of words ≡ code_words lengths symbols ++ replicate padding false → IsDecoded (header lengths (length symbols) ++ words) output → AreAll symbols (header lengths (length symbols) ++ words) output
decoded_back lengths symbols words output size few h padding held d =
    let n = length symbols in
    let decodes : Decodes lengths (bits_of words) d.symbols = subst (λ (x : List ℕ × List ℕ). Decodes x.0 (bits_of x.1) d.symbols) (λ i. (lengths_back lengths words n size i, words_back lengths words n size i)) d.decodes in
    let count = count_back lengths words n size few in
    let long = decodes.longest symbols (replicate padding false) h.have_words held in
    let first = parsed_once lengths symbols d.symbols (replicate padding false) decodes.rest h.lengths_are h.have_words decodes.have_words long (sym held ∙ decodes.bits_are) in
    let all = d.output_is ∙ ap (λ k. take k d.symbols) count ∙ first in
    (all, λ short. omega (arith, short, count, ap (λ (l : List ℕ). length l) all))

pub decode_back : (lengths symbols file output : List ℕ) → length lengths ≡ 256 → length symbols < 2 ^ 32 → Encodes lengths symbols file → IsDecoded file output → AreAll symbols file output
decode_back lengths symbols file output size few h d =
    subst (λ f. AreAll symbols f output) (sym h.file_is)
    (decoded_back lengths symbols h.words output size few (subst (Encodes lengths symbols) h.file_is h) h.words_are.padding h.words_are.bits_are (subst (λ f. IsDecoded f output) h.file_is d))

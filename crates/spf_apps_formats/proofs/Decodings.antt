-- Each HUF1 file is decoded in one way.
use Rattle.std.proofs.Common.{◌≡◌, ◌⊎◌, inl, inr, ℕ, zero, suc, ◌+◌, ◌<◌, ◌≤◌, ◌^◌, Bool, true, false, List, [], ◌∷◌, ◌++◌, length, take, drop, replicate, refl, ap, sym, ◌∙◌, subst, arith, append_assoc, length-append}
use Rattle.std.specs.Prelude.{slice_index}
use Rattle.std.specs.Int.{to_be_bytes, w32}
use Rattle.std.proofs.lemmas.List.{take_all}
use Rattle.spf_apps_formats.specs.Huffman.{AreCodeLengths, HaveWords, word_number, code_word, code_words, bits_of}
use Rattle.spf_apps_formats.specs.Signatures.{BeginsWith}
use Rattle.spf_apps_formats.specs.Huf1.{IsHuf1, Encodes, header, signature, lengths_of}
use Rattle.spf_apps_formats.specs.Decoded.{Decodes, count_of, IsDecoded, IsShort, IsWhollyDecoded}
use Rattle.spf_apps_formats.proofs.PrefixFree.{begin_alike, bits_length}
use Rattle.spf_apps_formats.proofs.RoundTrip.{within, prefix_free, parsed_once, lengths_back, decode_back}

-- ---- the first code word

-- the bits begin with the first ones
abbrev Begins : List Bool → List Bool → Type 0
Begins first bits = (rest : List Bool) × (bits ≡ first ++ rest)

same_bit : (a b : Bool) → (a ≡ b) ⊎ (a ≡ b → ⊥)
same_bit true true = inl refl
same_bit false false = inl refl
same_bit true false = inr (λ e. cc)
same_bit false true = inr (λ e. cc)

begins_or_not : (first bits : List Bool) → Begins first bits ⊎ (Begins first bits → ⊥)
begins_or_not [] bits = inl (bits, refl)
begins_or_not (a ∷ first) [] = inr (λ (rest, e). cc)
begins_or_not (a ∷ first) (b ∷ bits) = by_bit (same_bit b a) (begins_or_not first bits)
  where
    behind : (rest : List Bool) → b ∷ bits ≡ a ∷ (first ++ rest) → bits ≡ first ++ rest
    behind rest e = cc

    front : (rest : List Bool) → b ∷ bits ≡ a ∷ (first ++ rest) → b ≡ a
    front rest e = cc

    by_bit : (b ≡ a) ⊎ (b ≡ a → ⊥) → Begins first bits ⊎ (Begins first bits → ⊥) → Begins (a ∷ first) (b ∷ bits) ⊎ (Begins (a ∷ first) (b ∷ bits) → ⊥)
    by_bit (inr other) later = inr (λ (rest, e). other (front rest e))
    by_bit (inl same) (inl (rest, e)) = inl (rest, (λ i. same i ∷ e i))
    by_bit (inl same) (inr none) = inr (λ (rest, e). none (rest, behind rest e))

-- the bits begin with the code word of a symbol
record BeginsWithWord (lengths : List ℕ) (bits : List Bool) (symbol : ℕ) : Type 0 where
  some : 0 < slice_index lengths symbol
  rest : List Bool
  bits_are : bits ≡ code_word lengths symbol ++ rest

some_or_not : (n : ℕ) → (0 < n) ⊎ (0 < n → ⊥)
some_or_not n = grind arith

word_or_not : (lengths : List ℕ) (bits : List Bool) (symbol : ℕ) → BeginsWithWord lengths bits symbol ⊎ (BeginsWithWord lengths bits symbol → ⊥)
word_or_not lengths bits symbol = by_both (some_or_not (slice_index lengths symbol)) (begins_or_not (code_word lengths symbol) bits)
  where
    by_both : (0 < slice_index lengths symbol) ⊎ (0 < slice_index lengths symbol → ⊥) → Begins (code_word lengths symbol) bits ⊎ (Begins (code_word lengths symbol) bits → ⊥)
        → BeginsWithWord lengths bits symbol ⊎ (BeginsWithWord lengths bits symbol → ⊥)
    by_both (inr none) begins = inr (λ w. none w.some)
    by_both (inl some) (inl (rest, e)) = inl (record { some = some; rest = rest; bits_are = e })
    by_both (inl some) (inr none) = inr (λ w. none (w.rest, w.bits_are))

below_or_last : (k n : ℕ) → k < suc n → (k < n) ⊎ (k ≡ n)
below_or_last k n h = grind (arith, h)

-- one of the first symbols has its code word there, or none of them
first_word_of : (lengths : List ℕ) (bits : List Bool) (n : ℕ)
    → ((symbol : ℕ) × BeginsWithWord lengths bits symbol) ⊎ ((symbol : ℕ) → symbol < n → BeginsWithWord lengths bits symbol → ⊥)
first_word_of lengths bits zero = inr (λ symbol less w. omega (arith, less))
first_word_of lengths bits (suc n) = by_last (first_word_of lengths bits n) (word_or_not lengths bits n)
  where
    by_last : ((symbol : ℕ) × BeginsWithWord lengths bits symbol) ⊎ ((symbol : ℕ) → symbol < n → BeginsWithWord lengths bits symbol → ⊥)
        → BeginsWithWord lengths bits n ⊎ (BeginsWithWord lengths bits n → ⊥)
        → ((symbol : ℕ) × BeginsWithWord lengths bits symbol) ⊎ ((symbol : ℕ) → symbol < suc n → BeginsWithWord lengths bits symbol → ⊥)
    by_last (inl found) last = inl found
    by_last (inr none) (inl w) = inl (n, w)
    by_last (inr none) (inr other) = inr (λ symbol less w.
        elim (below_or_last symbol n less) [
          | inl before ↦ none symbol before w
          | inr same ↦ other (subst (BeginsWithWord lengths bits) same w)
        ])

-- ---- all of them

abbrev Decoding : List ℕ → List Bool → Type 0
Decoding lengths bits = (symbols : List ℕ) × Decodes lengths bits symbols

-- where no code word stands, there are no symbols
no_word : (lengths : List ℕ) (bits : List Bool) → ((symbol : ℕ) → symbol < length lengths → BeginsWithWord lengths bits symbol → ⊥) → Decoding lengths bits
no_word lengths bits none = ([], record { have_words = λ k less. absurd (omega (arith, less)); rest = bits; bits_are = refl; longest = longest })
  where
    longest : (others : List ℕ) (more : List Bool) → HaveWords lengths (length others) others → bits ≡ code_words lengths others ++ more → length others ≤ 0
    longest [] more h e = omega arith
    longest (t ∷ others) more h e =
        let some = h 0 (omega arith) in
        absurd (none t (within lengths t some) (record {
          some = some;
          rest = code_words lengths others ++ more;
          bits_are = e ∙ append_assoc (code_word lengths t) (code_words lengths others) more;
        }))

-- a code word before bits that are decoded
one_more : (lengths : List ℕ) (bits rest : List Bool) (symbol : ℕ) → AreCodeLengths lengths → 0 < slice_index lengths symbol → bits ≡ code_word lengths symbol ++ rest → Decoding lengths rest → Decoding lengths bits
one_more lengths bits rest s code some e (symbols, d) = (
  s ∷ symbols,
  record {
    have_words = have;
    rest = d.rest;
    bits_are = e ∙ ap (λ r. code_word lengths s ++ r) d.bits_are ∙ sym (append_assoc (code_word lengths s) (code_words lengths symbols) d.rest);
    longest = longest;
  },
)
  where
    have : HaveWords lengths (suc (length symbols)) (s ∷ symbols)
    have zero less = some
    have (suc k) less = d.have_words k (omega (arith, less))

    longest : (others : List ℕ) (more : List Bool) → HaveWords lengths (length others) others → bits ≡ code_words lengths others ++ more → length others ≤ suc (length symbols)
    longest [] more h same = omega arith
    longest (t ∷ others) more h same =
        let whole : code_word lengths s ++ rest ≡ code_word lengths t ++ (code_words lengths others ++ more) = sym e ∙ same ∙ append_assoc (code_word lengths t) (code_words lengths others) more in
        let one = prefix_free lengths s t rest (code_words lengths others ++ more) code some (h 0 (omega arith)) whole in
        let alike = begin_alike (code_word lengths s) (code_word lengths t) rest (code_words lengths others ++ more) (ap (λ n. length (code_word lengths n)) one) whole in
        let fewer = d.longest others more (λ n less. h (suc n) (omega (arith, less))) alike.1 in
        omega (arith, fewer)

-- a code word and the bits after it
word_and_rest : (lengths : List ℕ) (bits : List Bool) (symbol : ℕ) (w : BeginsWithWord lengths bits symbol) → slice_index lengths symbol + length w.rest ≡ length bits
word_and_rest lengths bits symbol w =
    sym (ap (λ (l : List Bool). length l) w.bits_are ∙ length-append (code_word lengths symbol) w.rest
    ∙ ap (λ k. k + length w.rest) (bits_length (slice_index lengths symbol) (word_number lengths symbol)))

-- what is decoded of bits, where what comes after their first code word is decoded
by_word : (lengths : List ℕ) (bits : List Bool) → AreCodeLengths lengths
    → ((symbol : ℕ) × BeginsWithWord lengths bits symbol) ⊎ ((symbol : ℕ) → symbol < length lengths → BeginsWithWord lengths bits symbol → ⊥)
    → ((symbol : ℕ) (w : BeginsWithWord lengths bits symbol) → Decoding lengths w.rest) → Decoding lengths bits
by_word lengths bits code (inr none) later = no_word lengths bits none
by_word lengths bits code (inl (symbol, w)) later = one_more lengths bits w.rest symbol code w.some w.bits_are (later symbol w)

decoding_within : (n : ℕ) (lengths : List ℕ) (bits : List Bool) → AreCodeLengths lengths → length bits ≤ n → Decoding lengths bits
decoding_within zero lengths bits code few =
    by_word lengths bits code (first_word_of lengths bits (length lengths)) (λ symbol w. absurd (omega (arith, few, w.some, word_and_rest lengths bits symbol w)))
decoding_within (suc n) lengths bits code few =
    by_word lengths bits code (first_word_of lengths bits (length lengths)) (λ symbol w.
    decoding_within n lengths w.rest code (omega (arith, few, w.some, word_and_rest lengths bits symbol w)))

-- ---- files

pub is_decoded : (file : List ℕ) → IsHuf1 file → (output : List ℕ) × IsDecoded file output
is_decoded file h =
    let bits = bits_of (drop 264 file) in
    let found = decoding_within (length bits) (lengths_of file) bits h.lengths (omega arith) in
    (take (count_of file) found.0, record { symbols = found.0; decodes = found.1; output_is = refl })

-- two lists of symbols that are decoded
same_symbols : (lengths a b : List ℕ) (bits : List Bool) → AreCodeLengths lengths → Decodes lengths bits a → Decodes lengths bits b → a ≡ b
same_symbols lengths a b bits code d e =
    let few = e.longest a d.rest d.have_words d.bits_are in
    let many = d.longest b e.rest e.have_words e.bits_are in
    sym (parsed_once lengths a b d.rest e.rest code d.have_words e.have_words few (sym d.bits_are ∙ e.bits_are)) ∙ take_all (length a) b many

pub decoded_once : (file output other : List ℕ) → IsHuf1 file → IsDecoded file output → IsDecoded file other → output ≡ other
decoded_once file output other h d e =
    d.output_is ∙ ap (take (count_of file)) (same_symbols (lengths_of file) d.symbols e.symbols (bits_of (drop 264 file)) h.lengths d.decodes e.decodes) ∙ sym e.output_is

-- ---- encoded files

-- a header and what comes after it
encoded_is_huf1 : (lengths words : List ℕ) (n : ℕ) → length lengths ≡ 256 → AreCodeLengths lengths → IsHuf1 (header lengths n ++ words)
encoded_is_huf1 lengths words n size code = record {
  begins = begins;
  header = omega (arith, size, length-append lengths (to_be_bytes w32 n), length-append (lengths ++ to_be_bytes w32 n) words);
  lengths = subst AreCodeLengths (sym (lengths_back lengths words n size)) code;
}
  where
    begins : BeginsWith signature (header lengths n ++ words)
    begins zero less = refl
    begins (suc zero) less = refl
    begins (suc (suc zero)) less = refl
    begins (suc (suc (suc zero))) less = refl
    begins (suc (suc (suc (suc k)))) less = absurd (omega (arith, less))

-- a file that encodes symbols is decoded to them, all of them
pub encoded_decodes : (lengths symbols file : List ℕ) → length lengths ≡ 256 → length symbols < 2 ^ 32 → Encodes lengths symbols file → IsWhollyDecoded file symbols
encoded_decodes lengths symbols file size few h =
    let huf1 = subst IsHuf1 (sym h.file_is) (encoded_is_huf1 lengths h.words (length symbols) size h.lengths_are) in
    let found = is_decoded file huf1 in
    let all = decode_back lengths symbols file found.0 size few h found.1 in
    (subst (IsDecoded file) all.0 found.1, λ short. all.1 (subst (IsShort file) (sym all.0) short))

-- Prefix codes by the lengths of their code words, at most 15 bits each; a symbol of length 0 has none.
use Rattle.std.specs.Prelude.{◌≡◌, ◌⊎◌, ℕ, zero, suc, ◌+◌, ◌-◌, ◌*◌, ◌/◌, ◌%◌, ◌<◌, ◌≤◌, ◌^◌, Bool, ◌==◌, List, [], ◌∷◌, take, length, slice_index}
use Rattle.std.specs.List.{sum_by, count_by, flat_map}

-- ---- lengths that a code can have

-- of the strings of 15 bits, how many begin with a code word of this length
abbrev pub share : ℕ → ℕ
share zero = 0
share (suc n) = 2 ^ (15 - suc n)

-- how many begin with one of the code words (Kraft's sum, in units of 2^-15)
abbrev pub space : List ℕ → ℕ
space lengths = sum_by share lengths

-- none of the first `count` lengths is over 15
abbrev pub AreShort : ℕ → List ℕ → Type 0
AreShort count lengths = (k : ℕ) → k < count → slice_index lengths k ≤ 15

-- no length is over 15, and there is room for all code words
pub record AreCodeLengths (lengths : List ℕ) : Type 0 where
  pub short : AreShort (length lengths) lengths
  pub room : space lengths ≤ 2 ^ 15

-- the first length over 15 is that of this symbol
pub record IsTooLongAt (lengths : List ℕ) (symbol : ℕ) : Type 0 where
  pub inside : symbol < length lengths
  pub before : AreShort symbol lengths
  pub long : 15 < slice_index lengths symbol

-- no length is over 15, and the first symbol for whose code word there is no room left is this one
pub record IsOversubscribedAt (lengths : List ℕ) (symbol : ℕ) : Type 0 where
  pub short : AreShort (length lengths) lengths
  pub inside : symbol < length lengths
  pub before : space (take symbol lengths) ≤ 2 ^ 15
  pub full : 2 ^ 15 < space (take (symbol + 1) lengths)

-- the lengths are refused at this symbol
abbrev pub AreRefusedAt : List ℕ → ℕ → Type 0
AreRefusedAt lengths symbol = IsTooLongAt lengths symbol ⊎ IsOversubscribedAt lengths symbol

-- ---- code words

-- the lowest `count` bits of a number, the highest of them first
abbrev pub bits : ℕ → ℕ → List Bool
bits zero n = []
bits (suc count) n = ((n / 2 ^ count) % 2 == 1) ∷ bits count n

-- how many symbols have code words of this length; none has the empty one
abbrev pub words_of_length : List ℕ → ℕ → ℕ
words_of_length lengths zero = 0
words_of_length lengths (suc n) = count_by (λ length. length == suc n) lengths

-- the first code word of a length, as a number: the number after the last one that is shorter by a bit, followed by a zero (RFC 1951, section 3.2.2)
abbrev pub first_word : List ℕ → ℕ → ℕ
first_word lengths zero = 0
first_word lengths (suc n) = 2 * (first_word lengths n + words_of_length lengths n)

-- the code word of a symbol, as a number: within a length the code words ascend with the symbols
abbrev pub word_number : List ℕ → ℕ → ℕ
word_number lengths symbol =
    first_word lengths (slice_index lengths symbol) + count_by (λ length. length == slice_index lengths symbol) (take symbol lengths)

-- the code word of a symbol, as bits
abbrev pub code_word : List ℕ → ℕ → List Bool
code_word lengths symbol = bits (slice_index lengths symbol) (word_number lengths symbol)

-- the code words of symbols one after another
abbrev pub code_words : List ℕ → List ℕ → List Bool
code_words lengths symbols = flat_map (code_word lengths) symbols

-- the bits of bytes, the highest of each byte first
abbrev pub bits_of : List ℕ → List Bool
bits_of bytes = flat_map (bits 8) bytes

-- each of the first `count` symbols has a code word
abbrev pub HaveWords : List ℕ → ℕ → List ℕ → Type 0
HaveWords lengths count symbols = (k : ℕ) → k < count → 0 < slice_index lengths (slice_index symbols k)

-- the first symbol without a code word stands at this index
pub record LacksWordAt (lengths symbols : List ℕ) (index : ℕ) : Type 0 where
  pub inside : index < length symbols
  pub before : HaveWords lengths index symbols
  pub none : slice_index lengths (slice_index symbols index) ≡ 0

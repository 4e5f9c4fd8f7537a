-- Code words read bit by bit, by the table of a code.
use Rattle.std.proofs.Common.{◌≡◌, ℕ, zero, suc, ◌+◌, ◌*◌, ◌/◌, ◌%◌, ◌^◌, ◌<◌, ◌≤◌, Bool, true, false, List, [], ◌∷◌, ◌++◌, length, refl, ap, sym, ◌∙◌, arith, append_assoc, append-nil, length-append}
use Rattle.std.specs.Prelude.{◌==◌, nat_lt, if◌then◌else◌, slice_index}
use Rattle.std.proofs.lemmas.Bool.Decides.{nat_tests}
use Rattle.std.proofs.Math.Nat.{pow-suc, pow-le-pow_right}
use Rattle.std.proofs.lemmas.Grind.{flat_map-append}
use Rattle.spf_apps_formats.specs.Huffman.{AreCodeLengths, HaveWords, bits, word_number, code_word, code_words}
use Rattle.spf_apps_formats.specs.Decoded.{Decodes}
use Rattle.spf_apps_formats.proofs.BitStrings.{bits-more}
use Rattle.spf_apps_formats.proofs.PrefixFree.{HasWord, word_small, bits_length, one_symbol}
use Rattle.spf_apps_formats.proofs.RoundTrip.{within}

-- ---- bits since the last whole code word, the latest first

abbrev pub bit : Bool → ℕ
bit true = 1
bit false = 0

-- a 1 and then the bits, as a number
abbrev pub number_of : List Bool → ℕ
number_of [] = 1
number_of (b ∷ since) = number_of since * 2 + bit b

-- the bits in their order, and then others
abbrev pub onto : List Bool → List Bool → List Bool
onto [] more = more
onto (b ∷ since) more = onto since (b ∷ more)

-- the number that bits make of another
abbrev read_from : ℕ → List Bool → ℕ
read_from h [] = h
read_from h (b ∷ more) = read_from (h * 2 + bit b) more

onto_number : (since more : List Bool) → read_from 1 (onto since more) ≡ read_from (number_of since) more
onto_number [] more = refl
onto_number (b ∷ since) more = onto_number since (b ∷ more)

onto_append : (since more : List Bool) → onto since more ≡ onto since [] ++ more
onto_append [] more = refl
onto_append (b ∷ since) more =
    onto_append since (b ∷ more)
    ∙ sym (append_assoc (onto since []) (b ∷ []) more)
    ∙ ap (λ l. l ++ more) (sym (onto_append since (b ∷ [])))

onto_length : (since more : List Bool) → length (onto since more) ≡ length since + length more
onto_length [] more = omega arith
onto_length (b ∷ since) more = let e = onto_length since (b ∷ more) in omega (arith, e)

bit_small : (b : Bool) → bit b < 2
bit_small true = omega arith
bit_small false = omega arith

bit_once : (a b : Bool) → bit a ≡ bit b → a ≡ b
bit_once true true e = refl
bit_once true false e = absurd (omega (arith, e))
bit_once false true e = absurd (omega (arith, e))
bit_once false false e = refl

pub number_some : (since : List Bool) → 1 ≤ number_of since
number_some [] = omega arith
number_some (b ∷ since) = let e = number_some since in omega (arith, e)

number_high : (since : List Bool) → number_of since < 2 ^ length since * 2
number_high [] = omega arith
number_high (b ∷ since) = let e = number_high since in omega (arith, e, bit_small b, pow-suc 2 (length since))

-- bits with one number are the same
number_once : (a b : List Bool) → number_of a ≡ number_of b → a ≡ b
number_once [] [] e = refl
number_once [] (y ∷ b) e = absurd (omega (arith, e, number_some b))
number_once (x ∷ a) [] e = absurd (omega (arith, e, number_some a))
number_once (x ∷ a) (y ∷ b) e =
    let rest = number_once a b (omega (arith, e, bit_small x, bit_small y)) in
    let last = bit_once x y (omega (arith, e, bit_small x, bit_small y)) in
    (λ i. last i ∷ rest i)

-- ---- a code word, its last bit first

abbrev down : ℕ → ℕ → List Bool
down zero v = []
down (suc n) v = (v % 2 == 1) ∷ down n (v / 2)

pub bit_of : (v : ℕ) → bit (v % 2 == 1) ≡ v % 2
bit_of v = by_test (v % 2 == 1) refl
  where
    by_test : (b : Bool) → (v % 2 == 1) ≡ b → bit b ≡ v % 2
    by_test true e = grind (arith, nat_tests, e)
    by_test false e = grind (arith, nat_tests, e)

halves : (v : ℕ) → v / 2 * 2 + v % 2 ≡ v
halves v = omega arith

odd_small : (v : ℕ) → v % 2 < 2
odd_small v = omega arith

down_number : (n v : ℕ) → v < 2 ^ n → number_of (down n v) ≡ 2 ^ n + v
down_number zero v h = omega (arith, h)
down_number (suc n) v h =
    let power = pow-suc 2 n in
    let e = down_number n (v / 2) (omega (arith, h, power, halves v)) in
    omega (arith, e, power, halves v, bit_of v)

down_onto : (n v : ℕ) (more : List Bool) → onto (down n v) more ≡ bits n v ++ more
down_onto zero v more = refl
down_onto (suc n) v more =
    let last = v % 2 == 1 in
    down_onto n (v / 2) (last ∷ more)
    ∙ sym (append_assoc (bits n (v / 2)) (last ∷ []) more)
    ∙ ap (λ l. l ++ more) (sym (bits-more n (v / 2) (v % 2) (odd_small v)) ∙ ap (bits (suc n)) (halves v))

-- where the table has the symbol of a code word
abbrev pub index_of : List ℕ → ℕ → ℕ
index_of lengths y = 2 ^ slice_index lengths y + word_number lengths y

abbrev word_down : List ℕ → ℕ → List Bool
word_down lengths y = down (slice_index lengths y) (word_number lengths y)

index_number : (lengths : List ℕ) (y : ℕ) → AreCodeLengths lengths → HasWord lengths y → number_of (word_down lengths y) ≡ index_of lengths y
index_number lengths y a h = down_number (slice_index lengths y) (word_number lengths y) (word_small lengths y a h)

word_onto : (lengths : List ℕ) (y : ℕ) → onto (word_down lengths y) [] ≡ code_word lengths y
word_onto lengths y = down_onto (slice_index lengths y) (word_number lengths y) [] ∙ append-nil (code_word lengths y)

word_at_index : (lengths : List ℕ) (y : ℕ) (since : List Bool) → AreCodeLengths lengths → HasWord lengths y → number_of since ≡ index_of lengths y → onto since [] ≡ code_word lengths y
word_at_index lengths y since a h e =
    ap (λ l. onto l []) (number_once since (word_down lengths y) (e ∙ sym (index_number lengths y a h))) ∙ word_onto lengths y

index_of_word : (lengths : List ℕ) (y : ℕ) (since : List Bool) → AreCodeLengths lengths → HasWord lengths y → onto since [] ≡ code_word lengths y → number_of since ≡ index_of lengths y
index_of_word lengths y since a h e =
    sym (onto_number since []) ∙ ap (read_from 1) (e ∙ sym (word_onto lengths y)) ∙ onto_number (word_down lengths y) [] ∙ index_number lengths y a h

-- each index is that of one symbol
pub index_once : (lengths : List ℕ) (y z : ℕ) → AreCodeLengths lengths → HasWord lengths y → HasWord lengths z → index_of lengths y ≡ index_of lengths z → y ≡ z
index_once lengths y z a h k e =
    let same = number_once (word_down lengths y) (word_down lengths z) (index_number lengths y a h ∙ e ∙ sym (index_number lengths z a k)) in
    one_symbol lengths y z [] [] a h k (ap (λ l. l ++ []) (sym (word_onto lengths y) ∙ ap (λ l. onto l []) same ∙ word_onto lengths z))

two_some : 0 < 2
two_some = omega arith

-- the table has enough of them
pub index_small : (lengths : List ℕ) (y : ℕ) → AreCodeLengths lengths → HasWord lengths y → index_of lengths y < 65536
index_small lengths y a h =
    let n = slice_index lengths y in
    let power = pow-le-pow_right {n = 2} two_some {i = n} {j = 15} (a.short y h.inside) in
    omega (arith, power, word_small lengths y a h)

-- ---- a table

pub record IsTable (lengths code : List ℕ) : Type 0 where
  pub words : (y : ℕ) → HasWord lengths y → slice_index code (index_of lengths y) ≡ suc y
  pub only : (n y : ℕ) → slice_index code n ≡ suc y → HasWord lengths y × (n ≡ index_of lengths y)

-- with one more bit
abbrev pub grown : ℕ → Bool → ℕ
grown h b = h * 2 + bit b

-- the number goes on from 1 where a code word is whole
abbrev pub kept : ℕ → ℕ → ℕ
kept zero n = n
kept (suc y) n = 1

-- the number after a bit, or 0 where no code word has this many bits
abbrev pub next_number : List ℕ → ℕ → Bool → ℕ
next_number code zero b = 0
next_number code (suc h) b = if nat_lt 65535 (grown (suc h) b) then 0 else kept (slice_index code (grown (suc h) b)) (grown (suc h) b)

-- what the table has there
abbrev pub entry_at : List ℕ → ℕ → Bool → ℕ
entry_at code zero b = 0
entry_at code (suc h) b = if nat_lt 65535 (grown (suc h) b) then 0 else slice_index code (grown (suc h) b)

-- the symbol of an entry
abbrev pub symbol : ℕ → List ℕ
symbol zero = []
symbol (suc y) = y ∷ []

-- the symbols of bits
abbrev pub found_from : List ℕ → ℕ → List Bool → List ℕ
found_from code h [] = []
found_from code h (b ∷ more) = symbol (entry_at code h b) ++ found_from code (next_number code h b) more

pub next_some : (code : List ℕ) (h : ℕ) (b : Bool) → 1 ≤ h → next_number code h b ≡ (if nat_lt 65535 (grown h b) then 0 else kept (slice_index code (grown h b)) (grown h b))
next_some code zero b k = absurd (omega (arith, k))
next_some code (suc h) b k = refl

pub entry_some : (code : List ℕ) (h : ℕ) (b : Bool) → 1 ≤ h → entry_at code h b ≡ (if nat_lt 65535 (grown h b) then 0 else slice_index code (grown h b))
entry_some code zero b k = absurd (omega (arith, k))
entry_some code (suc h) b k = refl

within_table : (n : ℕ) → n < 65536 → nat_lt 65535 n ≡ false
within_table n h = grind (arith, nat_tests, h)

-- a bit after which the number is still one of the table
pub next_is : (code : List ℕ) (h e : ℕ) (b : Bool) → 1 ≤ h → grown h b < 65536 → slice_index code (grown h b) ≡ e → next_number code h b ≡ kept e (grown h b)
next_is code h e b k small is =
    next_some code h b k ∙ (λ i. if within_table (grown h b) small i then 0 else kept (is i) (grown h b))

pub entry_is : (code : List ℕ) (h e : ℕ) (b : Bool) → 1 ≤ h → grown h b < 65536 → slice_index code (grown h b) ≡ e → entry_at code h b ≡ e
entry_is code h e b k small is = entry_some code h b k ∙ (λ i. if within_table (grown h b) small i then 0 else is i)

found_zero : (code : List ℕ) (more : List Bool) → found_from code 0 more ≡ []
found_zero code [] = refl
found_zero code (b ∷ more) = found_zero code more

-- a symbol begins with its code word
found_word : (lengths code : List ℕ) (y : ℕ) (since word more : List Bool) → AreCodeLengths lengths → IsTable lengths code → HasWord lengths y → onto since word ≡ code_word lengths y → 1 ≤ length word → found_from code (number_of since) (word ++ more) ≡ y ∷ found_from code 1 more
found_word lengths code y since [] more a t h e some = absurd (omega (arith, some))
found_word lengths code y since (b ∷ []) more a t h e some =
    let there = index_of_word lengths y (b ∷ since) a h e in
    let small : grown (number_of since) b < 65536 = omega (arith, there, index_small lengths y a h) in
    let is : slice_index code (grown (number_of since) b) ≡ suc y = ap (slice_index code) there ∙ t.words y h in
    (λ i. symbol (entry_is code (number_of since) (suc y) b (number_some since) small is i) ++ found_from code (next_is code (number_of since) (suc y) b (number_some since) small is i) more)
found_word lengths code y since (b ∷ c ∷ word) more a t h e some =
    let g = grown (number_of since) b in
    let long = sym (onto_length (b ∷ since) (c ∷ word)) ∙ ap (λ (l : List Bool). length l) e ∙ bits_length (slice_index lengths y) (word_number lengths y) in
    let few : length (b ∷ since) ≤ 14 = omega (arith, long, a.short y h.inside) in
    let power = pow-le-pow_right {n = 2} two_some {i = length (b ∷ since)} {j = 14} few in
    let small : g < 65536 = omega (arith, power, number_high (b ∷ since)) in
    let is = by_entry (slice_index code g) refl in
    (λ i. symbol (entry_is code (number_of since) 0 b (number_some since) small is i) ++ found_from code (next_is code (number_of since) 0 b (number_some since) small is i) ((c ∷ word) ++ more))
    ∙ found_word lengths code y (b ∷ since) (c ∷ word) more a t h e (omega arith)
  where
    by_entry : (v : ℕ) → slice_index code (grown (number_of since) b) ≡ v → slice_index code (grown (number_of since) b) ≡ 0
    by_entry zero is = is
    by_entry (suc z) is =
        let known = t.only (grown (number_of since) b) z is in
        let begun = word_at_index lengths z (b ∷ since) a known.0 known.1 in
        let whole : code_word lengths z ++ (c ∷ word) ≡ code_word lengths y ++ [] = ap (λ l. l ++ (c ∷ word)) (sym begun) ∙ sym (onto_append (b ∷ since) (c ∷ word)) ∙ e ∙ sym (append-nil (code_word lengths y)) in
        let same = one_symbol lengths z y (c ∷ word) [] a known.0 h whole in
        absurd (omega (arith, ap (λ (l : List Bool). length l) whole, length-append (code_word lengths z) (c ∷ word), length-append (code_word lengths y) [], ap (λ n. length (code_word lengths n)) same))

-- bits that begin with no code word have no symbol
found_none : (lengths code : List ℕ) (since rest : List Bool) → AreCodeLengths lengths → IsTable lengths code → ((y : ℕ) (more : List Bool) → HasWord lengths y → onto since rest ≡ code_word lengths y ++ more → ⊥) → found_from code (number_of since) rest ≡ []
found_none lengths code since [] a t none = refl
found_none lengths code since (b ∷ rest) a t none =
    (λ i. symbol (entry_some code (number_of since) b (number_some since) i) ++ found_from code (next_some code (number_of since) b (number_some since) i) rest)
    ∙ by_size (found_none lengths code (b ∷ since) rest a t none) (nat_lt 65535 (grown (number_of since) b))
  where
    by_entry : (v : ℕ) → slice_index code (grown (number_of since) b) ≡ v → slice_index code (grown (number_of since) b) ≡ 0
    by_entry zero is = is
    by_entry (suc z) is =
        let known = t.only (grown (number_of since) b) z is in
        absurd (none z rest known.0 (onto_append (b ∷ since) rest ∙ ap (λ l. l ++ rest) (word_at_index lengths z (b ∷ since) a known.0 known.1)))

    by_size : found_from code (grown (number_of since) b) rest ≡ [] → (c : Bool) → symbol (if c then 0 else slice_index code (grown (number_of since) b)) ++ found_from code (if c then 0 else kept (slice_index code (grown (number_of since) b)) (grown (number_of since) b)) rest ≡ []
    by_size later true = found_zero code rest
    by_size later false =
        let is = by_entry (slice_index code (grown (number_of since) b)) refl in
        (λ i. symbol (is i) ++ found_from code (kept (is i) (grown (number_of since) b)) rest) ∙ later

found_words : (lengths code symbols : List ℕ) (rest : List Bool) → AreCodeLengths lengths → IsTable lengths code → HaveWords lengths (length symbols) symbols → found_from code 1 (code_words lengths symbols ++ rest) ≡ symbols ++ found_from code 1 rest
found_words lengths code [] rest a t h = refl
found_words lengths code (y ∷ symbols) rest a t h =
    let some = h 0 (omega arith) in
    let has : HasWord lengths y = record { inside = within lengths y some; some = some } in
    let long = bits_length (slice_index lengths y) (word_number lengths y) in
    ap (found_from code 1) (append_assoc (code_word lengths y) (code_words lengths symbols) rest)
    ∙ found_word lengths code y [] (code_word lengths y) (code_words lengths symbols ++ rest) a t has refl (omega (arith, some, long))
    ∙ ap (λ l. y ∷ l) (found_words lengths code symbols rest a t (λ k less. h (suc k) (omega (arith, less))))

-- one more symbol
more_words : (lengths symbols : List ℕ) (y : ℕ) → HaveWords lengths (length symbols) symbols → 0 < slice_index lengths y → HaveWords lengths (length (symbols ++ y ∷ [])) (symbols ++ y ∷ [])
more_words lengths [] y h some zero less = some
more_words lengths [] y h some (suc k) less = absurd (omega (arith, less))
more_words lengths (x ∷ symbols) y h some zero less = h 0 (omega arith)
more_words lengths (x ∷ symbols) y h some (suc k) less = more_words lengths symbols y (λ n l. h (suc n) (omega (arith, l))) some k (omega (arith, less))

-- the symbols of bits are those that the bits decode to
pub found_decoded : (lengths code symbols : List ℕ) (all : List Bool) → AreCodeLengths lengths → IsTable lengths code → Decodes lengths all symbols → found_from code 1 all ≡ symbols
found_decoded lengths code symbols all a t d =
    ap (found_from code 1) d.bits_are
    ∙ found_words lengths code symbols d.rest a t d.have_words
    ∙ ap (λ l. symbols ++ l) (found_none lengths code [] d.rest a t no_more)
    ∙ append-nil symbols
  where
    no_more : (y : ℕ) (more : List Bool) → HasWord lengths y → d.rest ≡ code_word lengths y ++ more → ⊥
    no_more y more h e =
        let whole : all ≡ code_words lengths (symbols ++ y ∷ []) ++ more =
        d.bits_are ∙ ap (λ l. code_words lengths symbols ++ l) e
        ∙ sym (append_assoc (code_words lengths symbols) (code_word lengths y) more)
        ∙ ap (λ l. l ++ more) (ap (λ l. code_words lengths symbols ++ l) (sym (append-nil (code_word lengths y))) ∙ sym (flat_map-append (code_word lengths) symbols (y ∷ []))) in
        let long = d.longest (symbols ++ y ∷ []) more (more_words lengths symbols y d.have_words h.some) whole in
        omega (arith, long, length-append symbols (y ∷ []))

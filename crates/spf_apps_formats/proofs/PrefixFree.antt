-- No code word begins another.
use Rattle.std.proofs.Common.{◌≡◌, ◌≢◌, ◌⊎◌, inl, inr, ℕ, zero, suc, ◌+◌, ◌-◌, ◌*◌, ◌/◌, ◌%◌, ◌^◌, ◌<◌, ◌≤◌, Bool, true, false, List, [], ◌∷◌, ◌++◌, length, take, get_or, refl, ap, sym, ◌∙◌, subst, arith, append_assoc}
use Rattle.std.specs.Prelude.{◌==◌, nat_le, if◌then◌else◌, slice_index}
use Rattle.std.specs.List.{sum_by, count_by}
use Rattle.std.proofs.lemmas.Bool.Decides.{nat_tests}
use Rattle.std.proofs.lemmas.Nat.{shr-shr, mod-pow-add, pow-add, pow_pos, mul-le, le-div, shr_below}
use Rattle.std.proofs.Math.Nat.{add-mul, mul_assoc, mul_comm, mod-eq_of_lt, mul-lt-mul_of_pos_right, div-mul-le_self}
use Rattle.std.proofs.lemmas.List.{take-take}
use Rattle.std.proofs.lemmas.List.Sums.{sum_by-cons, sum_by-le-sum_by, sum_by-take-le, count_by_more_yes}
use Rattle.spf_apps_formats.specs.Huffman.{share, space, AreCodeLengths, bits, words_of_length, first_word, word_number, code_word}

-- ---- the room of code words

-- the share of a code word of at most this length
abbrev share_upto : ℕ → ℕ → ℕ
share_upto n l = if nat_le l n then share l else 0

abbrev one_if : ℕ → ℕ → ℕ
one_if n l = if l == n then 1 else 0

share_step : (n l : ℕ) → share_upto (suc n) l ≡ share_upto n l + one_if (suc n) l * 2 ^ (15 - suc n)
share_step n l = by_test (nat_le l n) refl (l == suc n) refl
  where
    by_test : (a : Bool) → nat_le l n ≡ a → (b : Bool) → (l == suc n) ≡ b → (if nat_le l (suc n) then share l else 0) ≡ (if a then share l else 0) + (if b then 1 else 0) * 2 ^ (15 - suc n)
    by_test true p true q = absurd (let low : l ≤ n = grind (arith, nat_tests, p) in let same : l ≡ suc n = grind (arith, nat_tests, q) in omega (arith, low, same))
    by_test true p false q = let t : nat_le l (suc n) ≡ true = grind (arith, nat_tests, p) in ap (λ b. if b then share l else 0) t ∙ (let e : share l ≡ share l + 0 * 2 ^ (15 - suc n) = omega arith in e)
    by_test false p true q =
        let same : l ≡ suc n = grind (arith, nat_tests, q) in
        let t : nat_le l (suc n) ≡ true = grind (arith, nat_tests, q) in
        ap (λ b. if b then share l else 0) t ∙ ap share same ∙ (let e : 2 ^ (15 - suc n) ≡ 0 + 1 * 2 ^ (15 - suc n) = omega arith in e)
    by_test false p false q = let t : nat_le l (suc n) ≡ false = grind (arith, nat_tests, p, q) in ap (λ b. if b then share l else 0) t ∙ (let e : 0 ≡ 0 + 0 * 2 ^ (15 - suc n) = omega arith in e)

regroup : (f s g c t : ℕ) → (f + g * t) + (s + c * t) ≡ (f + s) + (g + c) * t
regroup f s g c t = let e = add-mul g c t in omega (arith, e)

space_step : (n : ℕ) (lengths : List ℕ) → sum_by (share_upto (suc n)) lengths ≡ sum_by (share_upto n) lengths + count_by (λ l. l == suc n) lengths * 2 ^ (15 - suc n)
space_step n [] = let e : 0 ≡ 0 + 0 * 2 ^ (15 - suc n) = omega arith in e
space_step n (l ∷ lengths) =
    sum_by-cons (share_upto (suc n)) l lengths
    ∙ (λ i. share_step n l i + space_step n lengths i)
    ∙ regroup (share_upto n l) (sum_by (share_upto n) lengths) (one_if (suc n) l) (count_by (λ x. x == suc n) lengths) (2 ^ (15 - suc n))
    ∙ (λ i. sym (sum_by-cons (share_upto n) l lengths) i + counted i * 2 ^ (15 - suc n))
  where
    counted : one_if (suc n) l + count_by (λ x. x == suc n) lengths ≡ count_by (λ x. x == suc n) (l ∷ lengths)
    counted = sym (sum_by-cons (λ x. if x == suc n then 1 else 0) l lengths)

doubled : (a w t : ℕ) → (2 * a + w) * t ≡ a * (2 * t) + w * t
doubled a w t = add-mul (2 * a) w t ∙ ap (λ n. n + w * t) (ap (λ n. n * t) (mul_comm 2 a) ∙ mul_assoc a 2 t)

-- the words of at most this length take no more room than their shares
room_upto : (n : ℕ) (lengths : List ℕ) → n ≤ 15 → (first_word lengths n + words_of_length lengths n) * 2 ^ (15 - n) ≤ sum_by (share_upto n) lengths
room_upto zero lengths h = omega arith
room_upto (suc n) lengths h =
    let a = first_word lengths n + words_of_length lengths n in
    let w = count_by (λ l. l == suc n) lengths in
    let half : 2 * 2 ^ (15 - suc n) ≡ 2 ^ (15 - n) = sym (pow-add 2 1 (15 - suc n)) ∙ ap (λ k. 2 ^ k) (let e : 1 + (15 - suc n) ≡ 15 - n = omega (arith, h) in e) in
    let whole = doubled a w (2 ^ (15 - suc n)) ∙ ap (λ t. a * t + w * 2 ^ (15 - suc n)) half in
    omega (arith, whole, room_upto n lengths (omega (arith, h)), space_step n lengths)

share_part : (n l : ℕ) → share_upto n l ≤ share l
share_part n l = by_test (nat_le l n)
  where
    by_test : (b : Bool) → (if b then share l else 0) ≤ share l
    by_test true = omega arith
    by_test false = omega arith

-- so each code word has no more bits than its length
pub words_fit : (lengths : List ℕ) (n : ℕ) → AreCodeLengths lengths → n ≤ 15 → first_word lengths n + words_of_length lengths n ≤ 2 ^ n
words_fit lengths n h small = not_above (first_word lengths n + words_of_length lengths n)
    (omega (arith, room_upto n lengths small, sum_by-le-sum_by (share_upto n) share lengths (share_part n), h.room))
  where
    whole : 2 ^ n * 2 ^ (15 - n) ≡ 2 ^ 15
    whole = sym (pow-add 2 n (15 - n)) ∙ ap (λ k. 2 ^ k) (let e : n + (15 - n) ≡ 15 = omega (arith, small) in e)

    not_above : (a : ℕ) → a * 2 ^ (15 - n) ≤ 2 ^ 15 → a ≤ 2 ^ n
    not_above a k = by_order (order a (2 ^ n))
      where
        order : (x y : ℕ) → (x ≤ y) ⊎ (y < x)
        order x y = grind arith

        by_order : (a ≤ 2 ^ n) ⊎ (2 ^ n < a) → a ≤ 2 ^ n
        by_order (inl le) = le
        by_order (inr lt) = absurd (omega (arith, mul-lt-mul_of_pos_right lt (pow_pos (15 - n)), whole, k))

-- ---- offsets of code words

-- how many symbols before this one have its length
abbrev rank : List ℕ → ℕ → ℕ
rank lengths y = count_by (λ l. l == slice_index lengths y) (take y lengths)

itself : (n : ℕ) → (n == n) ≡ true
itself n = grind (arith, nat_tests)

rank_next : (lengths : List ℕ) (y : ℕ) → y < length lengths → count_by (λ l. l == slice_index lengths y) (take (y + 1) lengths) ≡ rank lengths y + 1
rank_next lengths y h = count_by_more_yes (λ l. l == slice_index lengths y) lengths y 0 h (itself (slice_index lengths y))

pub rank_below : (lengths : List ℕ) (y : ℕ) → y < length lengths → rank lengths y < count_by (λ l. l == slice_index lengths y) lengths
rank_below lengths y h =
    omega (arith, rank_next lengths y h, sum_by-take-le (λ x. if x == slice_index lengths y then 1 else 0) lengths (y + 1))

-- a later symbol of the same length has a later word
pub rank_grows : (lengths : List ℕ) (y z : ℕ) → y < z → y < length lengths → slice_index lengths y ≡ slice_index lengths z → rank lengths y < rank lengths z
rank_grows lengths y z less h same =
    let f : ℕ → ℕ = λ x. if x == slice_index lengths y then 1 else 0 in
    let part = subst (λ l. sum_by f l ≤ sum_by f (take z lengths)) (take-take (y + 1) z lengths (omega (arith, less))) (sum_by-take-le f (take z lengths) (y + 1)) in
    let moved : count_by (λ l. l == slice_index lengths y) (take z lengths) ≡ count_by (λ l. l == slice_index lengths z) (take z lengths) = ap (λ n. count_by (λ l. l == n) (take z lengths)) same in
    omega (arith, rank_next lengths y h, part, moved)

-- ---- bits

pub bits_length : (n v : ℕ) → length (bits n v) ≡ n
bits_length zero v = refl
bits_length (suc n) v = ap suc (bits_length n v)

-- the number that bits are
abbrev value : List Bool → ℕ
value [] = 0
value (b ∷ bs) = (if b then 2 ^ length bs else 0) + value bs

bit_value : (v n : ℕ) (b : Bool) → (v / 2 ^ n % 2 == 1) ≡ b → (if b then 2 ^ n else 0) ≡ (v / 2 ^ n % 2) * 2 ^ n
bit_value v n true e =
    let one : v / 2 ^ n % 2 ≡ 1 = grind (arith, nat_tests, e) in
    (let t : 2 ^ n ≡ 1 * 2 ^ n = omega arith in t) ∙ ap (λ k. k * 2 ^ n) (sym one)
bit_value v n false e =
    let none : v / 2 ^ n % 2 ≡ 0 = not_one (v / 2 ^ n) e in
    (let t : 0 ≡ 0 * 2 ^ n = omega arith in t) ∙ ap (λ k. k * 2 ^ n) (sym none)
  where
    not_one : (k : ℕ) → (k % 2 == 1) ≡ false → k % 2 ≡ 0
    not_one k h = grind (arith, nat_tests, h)

value_of : (n v : ℕ) → value (bits n v) ≡ v % 2 ^ n
value_of zero v = let e : 0 ≡ v % 1 = omega arith in e
value_of (suc n) v =
    ap (λ k. (if v / 2 ^ n % 2 == 1 then 2 ^ k else 0) + value (bits n v)) (bits_length n v)
    ∙ (λ i. bit_value v n (v / 2 ^ n % 2 == 1) refl i + value_of n v i)
    ∙ sym (mod-pow-add v 1 n)
    ∙ ap (λ k. v % 2 ^ k) (let e : 1 + n ≡ suc n = omega arith in e)

-- numbers with the same bits are the same
pub same_bits : (n a b : ℕ) → a < 2 ^ n → b < 2 ^ n → bits n a ≡ bits n b → a ≡ b
same_bits n a b h k e = sym (mod-eq_of_lt h) ∙ sym (value_of n a) ∙ ap value e ∙ value_of n b ∙ mod-eq_of_lt k

-- the higher bits stand in front
bits_split : (n d w : ℕ) → bits (n + d) w ≡ bits n (w / 2 ^ d) ++ bits d w
bits_split zero d w = ap (λ k. bits k w) (let e : 0 + d ≡ d = omega arith in e)
bits_split (suc n) d w =
    ap (λ k. bits k w) (let e : suc n + d ≡ suc (n + d) = omega arith in e)
    ∙ (λ i. (high i % 2 == 1) ∷ bits_split n d w i)
  where
    high : w / 2 ^ (n + d) ≡ w / 2 ^ d / 2 ^ n
    high = ap (λ k. w / 2 ^ k) (let e : n + d ≡ d + n = omega arith in e) ∙ sym (shr-shr w d n)

-- two lists that begin with parts of one length begin alike
pub begin_alike : (a b x y : List Bool) → length a ≡ length b → a ++ x ≡ b ++ y → (a ≡ b) × (x ≡ y)
begin_alike [] [] x y h e = (refl, e)
begin_alike [] (n ∷ b) x y h e = absurd (omega (arith, h))
begin_alike (m ∷ a) [] x y h e = absurd (omega (arith, h))
begin_alike (m ∷ a) (n ∷ b) x y h e =
    let heads : m ≡ n = cc in
    let tails : a ++ x ≡ b ++ y = cc in
    let rest = begin_alike a b x y (omega (arith, h)) tails in
    ((λ i. heads i ∷ rest.0 i), rest.1)

-- ---- code words

-- the words of a length begin after the shorter ones
words_ascend : (lengths : List ℕ) (n d : ℕ) → (first_word lengths n + words_of_length lengths n) * 2 ^ suc d ≤ first_word lengths (n + suc d)
words_ascend lengths n zero =
    let a = first_word lengths n + words_of_length lengths n in
    let next : suc n ≡ n + 1 = omega arith in
    subst (λ k. a * 2 ^ 1 ≤ first_word lengths k) next (omega arith)
words_ascend lengths n (suc d) =
    let a = first_word lengths n + words_of_length lengths n in
    let far : suc (n + suc d) ≡ n + suc (suc d) = omega arith in
    let power : 2 ^ suc (suc d) ≡ 2 ^ suc d * 2 = ap (λ k. 2 ^ k) (let e : suc (suc d) ≡ suc d + 1 = omega arith in e) ∙ pow-add 2 (suc d) 1 in
    let whole : a * 2 ^ suc (suc d) ≡ (a * 2 ^ suc d) * 2 = ap (λ t. a * t) power ∙ sym (mul_assoc a (2 ^ suc d) 2) in
    subst (λ k. a * 2 ^ suc (suc d) ≤ first_word lengths k) far (omega (arith, whole, words_ascend lengths n d))

-- a symbol with a code word
pub record HasWord (lengths : List ℕ) (y : ℕ) : Type 0 where
  pub inside : y < length lengths
  pub some : 0 < slice_index lengths y

pub words_are : (lengths : List ℕ) (n : ℕ) → 0 < n → words_of_length lengths n ≡ count_by (λ l. l == n) lengths
words_are lengths zero h = absurd (omega (arith, h))
words_are lengths (suc n) h = refl

word_below : (lengths : List ℕ) (y : ℕ) → HasWord lengths y → word_number lengths y < first_word lengths (slice_index lengths y) + words_of_length lengths (slice_index lengths y)
word_below lengths y h = omega (arith, rank_below lengths y h.inside, words_are lengths (slice_index lengths y) h.some)

pub word_small : (lengths : List ℕ) (y : ℕ) → AreCodeLengths lengths → HasWord lengths y → word_number lengths y < 2 ^ slice_index lengths y
word_small lengths y a h = omega (arith, word_below lengths y h, words_fit lengths (slice_index lengths y) a (a.short y h.inside))

-- a shorter code word doesn't begin a longer one
shorter_apart : (lengths : List ℕ) (y z d : ℕ) (x w : List Bool) → AreCodeLengths lengths → HasWord lengths y → HasWord lengths z → slice_index lengths z ≡ slice_index lengths y + suc d → code_word lengths y ++ x ≡ code_word lengths z ++ w → ⊥
shorter_apart lengths y z d x w a h k longer e =
    let n = slice_index lengths y in
    let number = word_number lengths z in
    let split = ap (λ m. bits m number) longer ∙ bits_split n (suc d) number in
    let whole = e ∙ ap (λ l. l ++ w) split ∙ append_assoc (bits n (number / 2 ^ suc d)) (bits (suc d) number) w in
    let alike = begin_alike (bits n (word_number lengths y)) (bits n (number / 2 ^ suc d)) x (bits (suc d) number ++ w) (bits_length n (word_number lengths y) ∙ sym (bits_length n (number / 2 ^ suc d))) whole in
    let high : number / 2 ^ suc d < 2 ^ n = high_below number n (suc d) (subst (λ m. number < 2 ^ m) longer (word_small lengths z a k)) in
    let same = same_bits n (word_number lengths y) (number / 2 ^ suc d) (word_small lengths y a h) high alike.0 in
    let behind : first_word lengths n + words_of_length lengths n ≤ number / 2 ^ suc d =
    le-div (first_word lengths n + words_of_length lengths n) number (2 ^ suc d) (pow_pos (suc d)) (above n d longer) in
    omega (arith, same, behind, word_below lengths y h)
  where
    high_below : (v n k : ℕ) → v < 2 ^ (n + k) → v / 2 ^ k < 2 ^ n
    high_below v n k small = shr_below v n k small

    above : (n d : ℕ) → slice_index lengths z ≡ n + suc d → (first_word lengths n + words_of_length lengths n) * 2 ^ suc d ≤ word_number lengths z
    above n d longer = omega (arith, words_ascend lengths n d, ap (first_word lengths) longer)

compare : (a b : ℕ) → (a < b) ⊎ ((a ≡ b) ⊎ (b < a))
compare a b = grind arith

-- code words that begin alike are those of one symbol
pub one_symbol : (lengths : List ℕ) (y z : ℕ) (x w : List Bool) → AreCodeLengths lengths → HasWord lengths y → HasWord lengths z → code_word lengths y ++ x ≡ code_word lengths z ++ w → y ≡ z
one_symbol lengths y z x w a h k e = by_length (compare (slice_index lengths y) (slice_index lengths z))
  where
    far : (m n : ℕ) → m < n → n ≡ m + suc (n - suc m)
    far m n less = omega (arith, less)

    by_order : slice_index lengths y ≡ slice_index lengths z → word_number lengths y ≡ word_number lengths z → (y < z) ⊎ ((y ≡ z) ⊎ (z < y)) → y ≡ z
    by_order same words (inl less) = absurd (omega (arith, words, rank_grows lengths y z less h.inside same, ap (first_word lengths) same))
    by_order same words (inr (inl one)) = one
    by_order same words (inr (inr more)) = absurd (omega (arith, words, rank_grows lengths z y more k.inside (sym same), ap (first_word lengths) same))

    by_length : (slice_index lengths y < slice_index lengths z) ⊎ ((slice_index lengths y ≡ slice_index lengths z) ⊎ (slice_index lengths z < slice_index lengths y)) → y ≡ z
    by_length (inl less) = absurd (shorter_apart lengths y z (slice_index lengths z - suc (slice_index lengths y)) x w a h k (far (slice_index lengths y) (slice_index lengths z) less) e)
    by_length (inr (inr more)) = absurd (shorter_apart lengths z y (slice_index lengths y - suc (slice_index lengths z)) w x a k h (far (slice_index lengths z) (slice_index lengths y) more) (sym e))
    by_length (inr (inl same)) =
        let n = slice_index lengths z in
        let moved = ap (λ m. bits m (word_number lengths y)) same in
        let whole = ap (λ l. l ++ x) (sym moved) ∙ e in
        let alike = begin_alike (bits n (word_number lengths y)) (bits n (word_number lengths z)) x w (bits_length n (word_number lengths y) ∙ sym (bits_length n (word_number lengths z))) whole in
        by_order same (same_bits n (word_number lengths y) (word_number lengths z) (subst (λ m. word_number lengths y < 2 ^ m) same (word_small lengths y a h)) (word_small lengths z a k) alike.0) (compare y z)

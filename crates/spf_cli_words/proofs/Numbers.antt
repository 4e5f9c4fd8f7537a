-- Numbers, and the words that they are.
use Rattle.std.proofs.lemmas.Slice.Eq.{bytes_eq-Decides}
use Rattle.std.proofs.lemmas.Fmt.{decimal_is_IsNumeral, decimal-digits_value, first_decimal, decimal_digit}
use Rattle.std.proofs.lemmas.Str.Parse.{IsNumeralModel, digit_from_value}
use Rattle.std.specs.Char.{digit_value}
use Rattle.std.specs.Str.Parse.{AllDigits, IsNumeral, digits_value, without_leading_plus}
use Rattle.std.specs.Prelude.{bytes_eq, Option, None, Some, nat_le, ◌&&◌, ◌^◌}
use Rattle.std.specs.Fmt.{decimal}
use Rattle.std.proofs.Math.ListN.{get_or}
use Rattle.std.proofs.Common.{◌≡◌, ◌<◌, ◌≤◌, zero, suc, subst, arith, ℕ, Bool, true, false, List, [], ◌∷◌, refl, sym, ap, ◌∙◌, if◌then◌else◌}
use Rattle.spf_cli_words.specs.Command.{IsFileName}
use Rattle.spf_cli_words.specs.Matched.{checked, number_in}

-- ---- tests

le-true : (a b : ℕ) → nat_le a b ≡ true → a ≤ b
le-true a b e = grind (arith, e)

le-false : (a b : ℕ) → nat_le a b ≡ false → a ≤ b → ⊥
le-false a b e l = grind (arith, e, l)

true-le : (a b : ℕ) → a ≤ b → nat_le a b ≡ true
true-le a b l = by_test (nat_le a b) refl
  where
    by_test : (t : Bool) → nat_le a b ≡ t → nat_le a b ≡ true
    by_test true e = e
    by_test false e = absurd (le-false a b e l)

-- ---- words and their numbers

-- a word is this number, which is in its range
pub record IsNumberOf (least most : ℕ) (word : List ℕ) (n : ℕ) : Type 0 where
  pub word_is : word ≡ decimal n
  pub least_is : least ≤ n
  pub most_is : n ≤ most

-- a word that is read is that number
pub number-is : (least most : ℕ) (word : List ℕ) (n : ℕ) → number_in least most word ≡ Some n → IsNumberOf least most word n
unfolding number_in
number-is least most word n e = by_tests (digits_value 10 word) (nat_le least (digits_value 10 word)) refl (nat_le (digits_value 10 word) most) refl (bytes_eq word (decimal (digits_value 10 word))) refl e
  where
    some_same : (v : ℕ) → Some v ≡ Some n → v ≡ n
    some_same v e = cc

    by_tests : (v : ℕ) (a : Bool) → nat_le least v ≡ a → (b : Bool) → nat_le v most ≡ b → (c : Bool) → bytes_eq word (decimal v) ≡ c
        → (if a && (b && c) then Some v else None) ≡ Some n → IsNumberOf least most word n
    by_tests v true l true h true w e =
        subst (IsNumberOf least most word) (some_same v e) (record { word_is = (bytes_eq-Decides word (decimal v)).0 w; least_is = le-true least v l; most_is = le-true v most h })
    by_tests v true l true h false w e = absurd (cc)
    by_tests v true l false h c w e = absurd (cc)
    by_tests v false l b h c w e = absurd (cc)

-- the decimal text of a number is read
pub number-of : (least most n : ℕ) → least ≤ n → n ≤ most → n < 2 ^ 64 → number_in least most (decimal n) ≡ Some n
unfolding number_in
number-of least most n l h fits = ap (checked least most (decimal n)) ((decimal_is_IsNumeral n fits).1) ∙ by_tests (nat_le least n) (true-le least n l) (nat_le n most) (true-le n most h) (bytes_eq (decimal n) (decimal n)) ((bytes_eq-Decides (decimal n) (decimal n)).1 refl)
  where
    by_tests : (a : Bool) → a ≡ true → (b : Bool) → b ≡ true → (c : Bool) → c ≡ true → (if a && (b && c) then Some n else None) ≡ Some n
    by_tests true l true h true w = refl
    by_tests true l true h false w = absurd (cc)
    by_tests true l false h c w = absurd (cc)
    by_tests false l b h c w = absurd (cc)

-- a word that no number has is none
pub number-none : (least most : ℕ) (word : List ℕ) → ((n : ℕ) → least ≤ n → n ≤ most → decimal n ≡ word → ⊥) → number_in least most word ≡ None
number-none least most word never = go (number_in least most word) refl
  where
    go : (found : Option ℕ) → number_in least most word ≡ found → number_in least most word ≡ None
    go None e = e
    go (Some n) e = (let is = number-is least most word n e in absurd (never n is.least_is is.most_is (sym is.word_is)))

-- ---- words that are parsed

-- a text that begins above `0` has no plus
no_plus : (word : List ℕ) → 48 < get_or word 0 0 → without_leading_plus word ≡ word
no_plus [] low = refl
no_plus (b ∷ bytes) low = grind (arith, low)

-- a numeral begins with a digit
begins : (word : List ℕ) → IsNumeral 10 word → get_or word 0 0 ≤ 57
begins [] numeral = omega arith
begins (b ∷ bytes) numeral = at_most b numeral.1.0
  where
    at_most : (c : ℕ) → digit_value c < 10 → c ≤ 57
    at_most c digit = omega (arith, digit_from_value c digit)

-- the text of a number begins with a digit, and so with no minus
digit_first : (word : List ℕ) → IsNumeral 10 word → IsFileName word
digit_first [] numeral = omega (arith, numeral.0)
digit_first (b ∷ bytes) numeral = no_minus b numeral.1.0
  where
    no_minus : (c : ℕ) → digit_value c < 10 → c ≡ 45 → ⊥
    no_minus c digit same = omega (arith, digit_from_value c digit, same)

pub decimal-begins : (n : ℕ) → n < 2 ^ 64 → IsFileName (decimal n)
decimal-begins n small = digit_first (decimal n) (decimal_is_IsNumeral n small).0

-- a word that begins with another byte than 1 to 9
pub number-first : (most : ℕ) (word : List ℕ) → most < 2 ^ 64 → (48 < get_or word 0 0 → get_or word 0 0 ≤ 57 → ⊥) → number_in 1 most word ≡ None
number-first most word small never = number-none 1 most word (λ n low high e.
    never (subst (λ t. 48 < get_or t 0 0) e (first_decimal n low (omega (arith, high, small))))
    (subst (λ t. get_or t 0 0 ≤ 57) e (begins (decimal n) (decimal_is_IsNumeral n (omega (arith, high, small))).0)))

-- a word that is no numeral up to the most
pub number-beyond : (most : ℕ) (word : List ℕ) → most < 2 ^ 64 → 48 < get_or word 0 0
    → (IsNumeral 10 (without_leading_plus word) → digits_value 10 (without_leading_plus word) ≤ most → ⊥) → number_in 1 most word ≡ None
number-beyond most word small first never = number-none 1 most word (λ n low high e.
    let numeral = decimal_is_IsNumeral n (omega (arith, high, small)) in
    let same : decimal n ≡ without_leading_plus word = e ∙ sym (no_plus word first) in
    let value = numeral.1 in
    never (subst (λ t. IsNumeral 10 t) same numeral.0) (subst (λ t. digits_value 10 t ≤ most) same (omega (arith, value, high))))

-- numerals in the words of the library
own : IsNumeralModel (AllDigits 10) (digits_value 10)
own = record { to = λ ds d. d; from = λ ds d. d; same = λ ds d. refl }

-- a word that is a numeral up to the most, and begins above `0`
pub number-read : (most : ℕ) (word : List ℕ) (n : ℕ) → most < 2 ^ 64 → 48 < get_or word 0 0 → IsNumeral 10 (without_leading_plus word)
    → digits_value 10 (without_leading_plus word) ≡ n → n ≤ most → number_in 1 most word ≡ Some n
number-read most word n small first numeral value high = from n is high
  where
    numeral' : IsNumeral 10 word
    numeral' = subst (λ t. IsNumeral 10 t) (no_plus word first) numeral

    value' : digits_value 10 word ≡ n
    value' = subst (λ t. digits_value 10 t ≡ n) (no_plus word first) value

    is : decimal n ≡ word
    is = ap decimal (sym value') ∙ decimal-digits_value own word numeral'.1 numeral'.0 (λ z. absurd (omega (arith, z, first))) (omega (arith, value', high, small))

    below : (k : ℕ) → k < k → ⊥
    below k l = omega (arith, l)

    from : (k : ℕ) → decimal k ≡ word → k ≤ most → number_in 1 most word ≡ Some k
    from zero e h = absurd (below 48 (subst (λ t. 48 < get_or t 0 0) (sym e ∙ decimal_digit 0 (omega arith)) first))
    from (suc k) e h = subst (λ w. number_in 1 most w ≡ Some (suc k)) e (number-of 1 most (suc k) (omega arith) h (omega (arith, h, small)))

-- ---- numbers from 0 on

-- `0` is 0
pub zero-read : (most : ℕ) (word : List ℕ) → word ≡ 48 ∷ [] → number_in 0 most word ≡ Some 0
zero-read most word e = subst (λ w. number_in 0 most w ≡ Some 0) (decimal_digit 0 (omega arith) ∙ sym e) (number-of 0 most 0 (omega arith) (omega arith) (omega arith))

-- another word than `0` is the number from 1 on that it is
pub other-read : (most : ℕ) (word : List ℕ) → most < 2 ^ 64 → (word ≡ 48 ∷ [] → ⊥) → number_in 1 most word ≡ number_in 0 most word
other-read most word small differs = go (number_in 1 most word) refl
  where
    nothing : (n : ℕ) → None ≡ Some n → ⊥
    nothing n e = cc

    never : number_in 1 most word ≡ None → (n : ℕ) → n ≤ most → decimal n ≡ word → ⊥
    never e zero h is = differs (sym is ∙ decimal_digit 0 (omega arith))
    never e (suc k) h is = nothing (suc k) (sym e ∙ subst (λ w. number_in 1 most w ≡ Some (suc k)) is (number-of 1 most (suc k) (omega arith) h (omega (arith, h, small))))

    go : (found : Option ℕ) → number_in 1 most word ≡ found → number_in 1 most word ≡ number_in 0 most word
    go None e = e ∙ sym (number-none 0 most word (λ n l h is. never e n h is))
    go (Some n) e =
        (let is = number-is 1 most word n e in
        let most_is = is.most_is in
        e ∙ sym (subst (λ w. number_in 0 most w ≡ Some n) (sym is.word_is) (number-of 0 most n (omega arith) most_is (omega (arith, most_is, small)))))

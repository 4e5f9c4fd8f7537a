-- Bits of numbers and of bytes.
use Rattle.std.proofs.Common.{◌≡◌, ℕ, zero, suc, ◌+◌, ◌-◌, ◌*◌, ◌/◌, ◌%◌, ◌^◌, ◌<◌, Bool, true, false, List, [], ◌∷◌, ◌++◌, replicate, refl, ap, sym, ◌∙◌, subst, arith, append_assoc, append-nil}
use Rattle.std.specs.Prelude.{◌==◌, if◌then◌else◌}
use Rattle.std.proofs.Math.Nat.{div-one, mul-one, mod-eq_of_lt, mul-lt-mul_of_pos_right, pow-suc, mul_assoc, add-zero}
use Rattle.std.proofs.lemmas.Nat.{shr-shr, div-mul-add, pow-add, pow_pos}
use Rattle.std.proofs.lemmas.Grind.{flat_map-append}
use Rattle.spf_apps_formats.specs.Huffman.{bits, bits_of}
use Rattle.spf_apps_formats.specs.Huf1.{Holds}

-- without its lowest bit, a number has the others
high_bits : (count n b : ℕ) → b < 2 → (n * 2 + b) / 2 ^ suc count ≡ n / 2 ^ count
high_bits count n b h =
    let exponent : suc count ≡ 1 + count = omega arith in
    ap (λ k. (n * 2 + b) / 2 ^ k) exponent ∙ sym (shr-shr (n * 2 + b) 1 count) ∙ ap (λ m. m / 2 ^ count) (div-mul-add n 2 b h)

low_bit : (n b : ℕ) → b < 2 → (n * 2 + b) / 2 ^ 0 % 2 ≡ b
low_bit n b h = ap (λ m. m % 2) (div-one (n * 2 + b)) ∙ omega arith

-- a number with one more bit after it
pub bits-more : (count n b : ℕ) → b < 2 → bits (suc count) (n * 2 + b) ≡ bits count n ++ (b == 1) ∷ []
bits-more zero n b h = ap (λ m. (m == 1) ∷ []) (low_bit n b h)
bits-more (suc count) n b h = λ i. (high_bits count n b h i % 2 == 1) ∷ bits-more count n b h i

-- a byte at the end
pub bits_of-more : (bytes : List ℕ) (byte : ℕ) → bits_of (bytes ++ byte ∷ []) ≡ bits_of bytes ++ bits 8 byte
bits_of-more bytes byte = flat_map-append (bits 8) bytes (byte ∷ [])

zeros-more : (xs : List Bool) (k : ℕ) → (xs ++ replicate k false) ++ false ∷ [] ≡ xs ++ replicate (suc k) false
zeros-more xs k = append_assoc xs (replicate k false) (false ∷ []) ∙ ap (λ r. xs ++ r) (end k)
  where
    end : (m : ℕ) → replicate m false ++ false ∷ [] ≡ replicate (suc m) false
    end zero = refl
    end (suc m) = ap (λ r. false ∷ r) (end m)

zero_below : 0 < 2
zero_below = omega arith

-- a number that is shifted up
pub bits-zeros : (k count n : ℕ) → bits (k + count) (n * 2 ^ k) ≡ bits count n ++ replicate k false
bits-zeros zero count n = (λ i. bits (zero_add count i) (mul-one n i)) ∙ sym (append-nil (bits count n))
  where
    zero_add : (m : ℕ) → 0 + m ≡ m
    zero_add m = omega arith
bits-zeros (suc k) count n =
    let many : suc k + count ≡ suc (k + count) = omega arith in
    let moved : n * 2 ^ suc k ≡ n * 2 ^ k * 2 + 0 = ap (λ m. n * m) (pow-suc 2 k) ∙ sym (mul_assoc n (2 ^ k) 2) ∙ sym (add-zero (n * 2 ^ k * 2)) in
    (λ i. bits (many i) (moved i))
    ∙ bits-more (k + count) (n * 2 ^ k) 0 zero_below
    ∙ ap (λ r. r ++ false ∷ []) (bits-zeros k count n)
    ∙ zeros-more (bits count n) k

bit_is : (bit : Bool) (b : ℕ) → b ≡ (if bit then 1 else 0) → (b == 1) ≡ bit
bit_is true b e = ap (λ m. m == 1) e
bit_is false b e = ap (λ m. m == 1) e

bit_below : (bit : Bool) (b : ℕ) → b ≡ (if bit then 1 else 0) → b < 2
bit_below true b e = omega (arith, e)
bit_below false b e = omega (arith, e)

-- a bit after those of a partial byte
pub partial_more : (bytes : List ℕ) (count partial b : ℕ) (bit : Bool) → b ≡ (if bit then 1 else 0) → bits_of bytes ++ bits (suc count) (partial * 2 + b) ≡ (bits_of bytes ++ bits count partial) ++ bit ∷ []
partial_more bytes count partial b bit e =
    ap (λ r. bits_of bytes ++ r) (bits-more count partial b (bit_below bit b e) ∙ ap (λ x. bits count partial ++ x ∷ []) (bit_is bit b e))
    ∙ sym (append_assoc (bits_of bytes) (bits count partial) (bit ∷ []))

-- and so a byte becomes whole
pub whole_more : (bytes new : List ℕ) (count partial b : ℕ) (bit : Bool) → count ≡ 7 → b ≡ (if bit then 1 else 0) → new ≡ bytes ++ (partial * 2 + b) ∷ [] → bits_of new ++ [] ≡ (bits_of bytes ++ bits count partial) ++ bit ∷ []
whole_more bytes new count partial b bit full e pushed =
    append-nil (bits_of new)
    ∙ ap bits_of pushed
    ∙ bits_of-more bytes (partial * 2 + b)
    ∙ ap (λ k. bits_of bytes ++ bits (suc k) (partial * 2 + b)) (sym full)
    ∙ partial_more bytes count partial b bit e

-- shifted up, the bits of a partial byte fit in a byte
pub fits_byte : (count partial : ℕ) → count < 8 → partial < 2 ^ count → partial * 2 ^ (8 - count) < 2 ^ 8
fits_byte count partial few fits =
    let whole : 8 ≡ count + (8 - count) = omega arith in
    subst (λ m. partial * 2 ^ (8 - count) < m) (sym (ap (λ k. 2 ^ k) whole ∙ pow-add 2 count (8 - count))) (mul-lt-mul_of_pos_right fits (pow_pos (8 - count)))

-- so shifting them up in 32 bits loses none
pub moved_whole : (count partial : ℕ) → count < 8 → partial < 2 ^ count → partial * 2 ^ (8 - count) % 2 ^ 32 ≡ partial * 2 ^ (8 - count)
moved_whole count partial few fits = mod-eq_of_lt (omega (arith, fits_byte count partial few fits))

-- a bit of a number before the lower ones
pub bits_next : (old new : List Bool) (n m number : ℕ) (bit : Bool) → n ≡ suc m → bit ≡ (number / 2 ^ m % 2 == 1) → new ≡ old ++ bit ∷ [] → new ++ bits m number ≡ old ++ bits n number
bits_next old new n m number bit many is pushed =
    ap (λ r. r ++ bits m number) pushed
    ∙ append_assoc old (bit ∷ []) (bits m number)
    ∙ ap (λ b. old ++ b ∷ bits m number) is
    ∙ ap (λ k. old ++ bits k number) (sym many)

-- the last byte holds the bits that are left, and zeros
pub padded : (bytes new : List ℕ) (count partial : ℕ) → 0 < count → count < 8 → new ≡ bytes ++ (partial * 2 ^ (8 - count)) ∷ [] → Holds (bits_of bytes ++ bits count partial) new
padded bytes new count partial some few pushed =
    let whole : 8 ≡ (8 - count) + count = omega arith in
    record {
      padding = 8 - count;
      few = omega arith;
      bits_are =
          ap bits_of pushed
          ∙ bits_of-more bytes (partial * 2 ^ (8 - count))
          ∙ ap (λ k. bits_of bytes ++ bits k (partial * 2 ^ (8 - count))) whole
          ∙ ap (λ r. bits_of bytes ++ r) (bits-zeros (8 - count) count partial)
          ∙ sym (append_assoc (bits_of bytes) (bits count partial) (replicate (8 - count) false));
    }

-- without a partial byte, nothing is padded
pub unpadded : (bytes : List ℕ) (count partial : ℕ) → count ≡ 0 → Holds (bits_of bytes ++ bits count partial) bytes
unpadded bytes count partial none = record {
  padding = 0;
  few = omega arith;
  bits_are =
      sym (append-nil (bits_of bytes)) ∙ sym (append-nil (bits_of bytes ++ []))
      ∙ ap (λ k. (bits_of bytes ++ bits k partial) ++ []) (sym none);
}

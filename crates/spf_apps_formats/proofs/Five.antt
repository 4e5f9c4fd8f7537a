-- The code of five symbols.
use Rattle.std.proofs.Common.{◌≡◌, ℕ, zero, suc, ◌%◌, ◌<◌, ◌≤◌, List, [], ◌∷◌, replicate, refl, arith, rules}
use Rattle.std.specs.Prelude.{slice_index}
use Rattle.std.specs.List.{AllByRecursion}
use Rattle.spf_apps_formats.specs.Huffman.{AreCodeLengths, AreShort, HaveWords, space}
use Rattle.spf_apps_formats.specs.Draws.{five_lengths, five_symbols, picked_bytes, given_by, next_state}

no_more : (n k : ℕ) → slice_index (replicate n 0) k ≡ 0
no_more zero k = refl
no_more (suc n) zero = refl
no_more (suc n) (suc k) = no_more n k

five_short : AreShort 256 five_lengths
five_short zero h = omega arith
five_short (suc zero) h = omega arith
five_short (suc (suc zero)) h = omega arith
five_short (suc (suc (suc zero))) h = omega arith
five_short (suc (suc (suc (suc zero)))) h = omega arith
five_short (suc (suc (suc (suc (suc k))))) h = omega (arith, no_more 251 k)

pub five_are_lengths : AreCodeLengths five_lengths
five_are_lengths =
    let whole : space five_lengths ≡ 32768 = refl in
    record { short = five_short; room = omega (arith, whole) }

five_present : (symbol : ℕ) → symbol ≤ 4 → 0 < slice_index five_lengths symbol
five_present zero h = omega arith
five_present (suc zero) h = omega arith
five_present (suc (suc zero)) h = omega arith
five_present (suc (suc (suc zero))) h = omega arith
five_present (suc (suc (suc (suc zero)))) h = omega arith
five_present (suc (suc (suc (suc (suc k))))) h = omega arith

picked_among : (i : ℕ) → slice_index five_symbols i ≤ 4
picked_among i = below five_symbols low i
  where
    low : AllByRecursion (λ s. s ≤ 4) five_symbols
    low = search rules

    below : (xs : List ℕ) → AllByRecursion (λ s. s ≤ 4) xs → (k : ℕ) → slice_index xs k ≤ 4
    below [] h k = omega arith
    below (x ∷ xs) h zero = h.0
    below (x ∷ xs) h (suc k) = below xs h.1 k

among_five : (n x k : ℕ) → slice_index (picked_bytes five_symbols n x) k ≤ 4
among_five zero x k = omega arith
among_five (suc n) x zero = picked_among (given_by (next_state x) % 16)
among_five (suc n) x (suc k) = among_five n (next_state x) k

pub picked_have_words : (count n x : ℕ) → HaveWords five_lengths count (picked_bytes five_symbols n x)
picked_have_words count n x k h = five_present (slice_index (picked_bytes five_symbols n x) k) (among_five n x k)

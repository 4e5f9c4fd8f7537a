-- A number whose digits are the pairs that a predictor was told.
use Rattle.std.specs.Prelude.{List, [], ◌∷◌, ℤ, pos}
use Rattle.std.specs.Int.{w64, int_wrapping_add, int_wrapping_mul}
use Rattle.spf_guess_statistics.specs.Guess.{Told}

-- the number with two more digits, for one pair: 100 * n + 10 * block + real, wrapping
abbrev pub with_pair : ℤ → Told → ℤ
with_pair n t = int_wrapping_add w64 (int_wrapping_add w64 (int_wrapping_mul w64 n (pos 100)) (int_wrapping_mul w64 t.block (pos 10))) t.real

-- the number with the digits of all pairs, the oldest first
abbrev pub digits : ℤ → List Told → ℤ
digits n [] = n
digits n (t ∷ ts) = digits (with_pair n t) ts

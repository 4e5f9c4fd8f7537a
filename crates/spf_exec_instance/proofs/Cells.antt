-- Where arrays lie.
use Rattle.std.proofs.Common.{◌≡◌, ℕ, suc, ◌+◌, ◌-◌, ◌^◌, ◌<◌, ◌≤◌, List, ◌∷◌, length, get_or, drop, drop-cons, add-one, refl, sym, ap, ◌∙◌, ℤ, pos, negsuc, ◌+ℤ◌, arith, w64, FitsSigned, to_z, of_z, true, false}
use Rattle.std.specs.Int.{w128}
use lib.Signed.{lt_z}
use lib.IntN.{nat_abs}
use Rattle.std.specs.Prelude.{unsigned_abs}
use Rattle.std.proofs.lemmas.Int.{ints, unsigned_abs-mul, to_z-of_z, to_z_pos}
use Rattle.std.proofs.lemmas.Nat.{mul-le}
use Rattle.std.specs.Prelude.{map, ◌*ℤ◌, min}
use Rattle.std.proofs.Math.Nat.{add_assoc}
use Rattle.spf_exec_instance.specs.RunErrors.{counted}
use Rattle.spf_ast.specs.declared.syntax.Array as code
use Rattle.spf_ast.specs.View.{array}
use Rattle.spf_ast.specs.Program.{size_or_none, size_of, sizes, extents_from}

-- the arrays from one index on
pub next_array : (xs : List code.Array) (i : ℕ) (x : code.Array) → i < length xs → x ≡ get_or xs i x → drop i xs ≡ x ∷ drop (i + 1) xs
next_array xs i x h e = drop-cons xs i x h ∙ ap (λ y. y ∷ drop (suc i) xs) (sym e) ∙ ap (λ n. x ∷ drop n xs) (sym (add-one i))

pub next_sizes : (len : ℕ) (xs : List code.Array) (i : ℕ) (x : code.Array) → i < length xs → x ≡ get_or xs i x → sizes len (map array (drop i xs)) ≡ size_of len (array x) + sizes len (map array (drop (i + 1) xs))
next_sizes len xs i x h e = ap (λ l. sizes len (map array l)) (next_array xs i x h e)

pub next_extents : (len base : ℕ) (xs : List code.Array) (i : ℕ) (x : code.Array) → i < length xs → x ≡ get_or xs i x → extents_from len base (map array (drop i xs)) ≡ (base, size_of len (array x)) ∷ extents_from len (base + size_of len (array x)) (map array (drop (i + 1) xs))
next_extents len base xs i x h e = ap (λ l. extents_from len base (map array l)) (next_array xs i x h e)

-- a sum may be counted at once, or one number after another
counted_twice : (n rest : ℕ) → counted (n + rest) ≡ counted (min n (2 ^ 128 - 1) + rest)
counted_twice n rest = omega arith

-- a number that was counted, and one more
pub counted_sum : (count size rest whole next : ℕ) → counted (count + (size + rest)) ≡ whole → next ≡ min (count + size) (2 ^ 128 - 1) → counted (next + rest) ≡ whole
counted_sum count size rest whole next e p =
    ap (λ n. counted (n + rest)) p ∙ sym (counted_twice (count + size) rest) ∙ ap counted (add_assoc count size rest) ∙ e

-- ---- sizes

word_small : (a : ℤ) → FitsSigned w64 a → unsigned_abs a ≤ 2 ^ 63
word_small (pos n) f = omega (arith, ints)
word_small (negsuc n) f = omega (arith, ints)

product_small : (a : ℤ) (n : ℕ) → FitsSigned w64 a → n < 2 ^ 64 → unsigned_abs (a *ℤ pos n) ≤ 2 ^ 127 - 2 ^ 63
product_small a n f h =
    let le : n ≤ 2 ^ 64 - 1 = omega arith in
    let p = mul-le (unsigned_abs a) n (2 ^ 63) (2 ^ 64 - 1) (word_small a f) le in
    let e = unsigned_abs-mul a (pos n) in omega (arith, p, e)

small_fits : (p : ℤ) → unsigned_abs p ≤ 2 ^ 127 - 2 ^ 63 → FitsSigned w128 p
small_fits (pos n) h = omega (arith, ints)
small_fits (negsuc n) h = omega (arith, ints)

sum_fits : (p o : ℤ) → unsigned_abs p ≤ 2 ^ 127 - 2 ^ 63 → FitsSigned w64 o → FitsSigned w128 (p +ℤ o)
sum_fits (pos a) (pos b) h f = grind (arith, ints)
sum_fits (pos a) (negsuc b) h f = grind (arith, ints)
sum_fits (negsuc a) (pos b) h f = grind (arith, ints)
sum_fits (negsuc a) (negsuc b) h f = grind (arith, ints)

word_fits : (a : ℤ) → FitsSigned w64 a → FitsSigned w128 a
word_fits (pos n) f = omega (arith, ints)
word_fits (negsuc n) f = omega (arith, ints)

pub size_fits : (a o : ℤ) (n : ℕ) → FitsSigned w64 a → FitsSigned w64 o → n < 2 ^ 64 → FitsSigned w128 (a *ℤ pos n +ℤ o)
size_fits a o n f g h = sum_fits (a *ℤ pos n) o (product_small a n f h) g

-- a size as the code computes it, in 128 bits
abbrev pub coded_size : ℤ → ℤ → ℕ → ℤ
coded_size a o n =
    to_z w128 (of_z w128 (to_z w128 (of_z w128 (to_z w64 (of_z w64 a))) *ℤ to_z w128 n)) +ℤ to_z w128 (of_z w128 (to_z w64 (of_z w64 o)))

pub coded_size-is : (a o : ℤ) (n : ℕ) → FitsSigned w64 a → FitsSigned w64 o → n < 2 ^ 64 → coded_size a o n ≡ a *ℤ pos n +ℤ o
coded_size-is a o n f g h =
    let p = small_fits (a *ℤ pos n) (product_small a n f h) in
    rw (to_z-of_z w64 a f, to_z-of_z w64 o g, to_z-of_z w128 a (word_fits a f), to_z-of_z w128 o (word_fits o g), to_z_pos w128 n (omega arith), to_z-of_z w128 (a *ℤ pos n) p) refl

-- a size below 0 counts as 0
pub size_below : (z : ℤ) → lt_z z (pos 0) ≡ true → 0 ≡ size_or_none z
size_below (pos n) e = grind (arith, ints)
size_below (negsuc n) e = refl

pub size_above : (z : ℤ) → lt_z z (pos 0) ≡ false → nat_abs z ≡ size_or_none z
size_above (pos n) e = refl
size_above (negsuc n) e = grind (arith, ints)

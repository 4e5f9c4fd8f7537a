-- Products of integers.
use Rattle.std.proofs.Common.{◌≡◌, ℕ, zero, suc, ℤ, pos, negsuc, sym, ap, ◌∙◌, arith}
use Rattle.std.specs.Prelude.{◌+ℤ◌, ◌-ℤ◌, ◌*ℤ◌, neg_ℤ, ◌≤ℤ◌}
use Rattle.std.specs.Int.{int_min, int_max}
use lib.IntN.{suc_ℤ-*ℤ, pred_ℤ-*ℤ, *ℤ_comm, zero-*ℤ}
use Rattle.std.proofs.lemmas.Int.{ints, clamps}

left_distrib : (k a b : ℤ) → k *ℤ (a +ℤ b) ≡ (k *ℤ a) +ℤ (k *ℤ b)
left_distrib (pos zero) a b = omega (arith, ints, zero-*ℤ (a +ℤ b), zero-*ℤ a, zero-*ℤ b)
left_distrib (pos (suc n)) a b =
    omega (arith, ints, suc_ℤ-*ℤ (pos n) (a +ℤ b), suc_ℤ-*ℤ (pos n) a, suc_ℤ-*ℤ (pos n) b, left_distrib (pos n) a b)
left_distrib (negsuc zero) a b =
    omega (arith, ints, pred_ℤ-*ℤ (pos 0) (a +ℤ b), pred_ℤ-*ℤ (pos 0) a, pred_ℤ-*ℤ (pos 0) b, zero-*ℤ (a +ℤ b), zero-*ℤ a, zero-*ℤ b)
left_distrib (negsuc (suc n)) a b =
    omega (arith, ints, pred_ℤ-*ℤ (negsuc n) (a +ℤ b), pred_ℤ-*ℤ (negsuc n) a, pred_ℤ-*ℤ (negsuc n) b, left_distrib (negsuc n) a b)

pub add-mul : (a b k : ℤ) → (a +ℤ b) *ℤ k ≡ (a *ℤ k) +ℤ (b *ℤ k)
add-mul a b k = omega (arith, ints, *ℤ_comm (a +ℤ b) k, *ℤ_comm a k, *ℤ_comm b k, left_distrib k a b)

pub sub-mul : (a b k : ℤ) → (a -ℤ b) *ℤ k ≡ (a *ℤ k) -ℤ (b *ℤ k)
sub-mul a b k = omega (arith, ints, add-mul (a -ℤ b) b k, ap (λ x. x *ℤ k) same)
  where
    same : (a -ℤ b) +ℤ b ≡ a
    same = omega (arith, ints)

pub neg-mul : (a k : ℤ) → neg_ℤ a *ℤ k ≡ neg_ℤ (a *ℤ k)
neg-mul a k = omega (arith, ints, sub-mul (pos 0) a k, zero-*ℤ k, ap (λ x. x *ℤ k) same)
  where
    same : pos 0 -ℤ a ≡ neg_ℤ a
    same = omega (arith, ints)

pub zero-mul : (k : ℤ) → pos 0 *ℤ k ≡ pos 0
zero-mul k = zero-*ℤ k

-- ---- products by a constant

zero-assoc : (b c : ℤ) → (pos 0 *ℤ b) *ℤ c ≡ pos 0 *ℤ (b *ℤ c)
zero-assoc b c = ap (λ x. x *ℤ c) (zero-*ℤ b) ∙ zero-*ℤ c ∙ sym (zero-*ℤ (b *ℤ c))

assoc : (a b c : ℤ) → (a *ℤ b) *ℤ c ≡ a *ℤ (b *ℤ c)
assoc (pos zero) b c = zero-assoc b c
assoc (pos (suc n)) b c =
    ap (λ x. x *ℤ c) (suc_ℤ-*ℤ (pos n) b) ∙ add-mul (pos n *ℤ b) b c ∙ ap (λ x. x +ℤ (b *ℤ c)) (assoc (pos n) b c) ∙ sym (suc_ℤ-*ℤ (pos n) (b *ℤ c))
assoc (negsuc zero) b c =
    ap (λ x. x *ℤ c) (pred_ℤ-*ℤ (pos 0) b) ∙ sub-mul (pos 0 *ℤ b) b c ∙ ap (λ x. x -ℤ (b *ℤ c)) (zero-assoc b c) ∙ sym (pred_ℤ-*ℤ (pos 0) (b *ℤ c))
assoc (negsuc (suc n)) b c =
    ap (λ x. x *ℤ c) (pred_ℤ-*ℤ (negsuc n) b) ∙ sub-mul (negsuc n *ℤ b) b c ∙ ap (λ x. x -ℤ (b *ℤ c)) (assoc (negsuc n) b c) ∙ sym (pred_ℤ-*ℤ (negsuc n) (b *ℤ c))

-- (f k + o) c is (f c) k + o c
at-scaled : (f k o c : ℤ) → ((f *ℤ k) +ℤ o) *ℤ c ≡ ((f *ℤ c) *ℤ k) +ℤ (o *ℤ c)
at-scaled f k o c =
    add-mul (f *ℤ k) o c ∙ ap (λ x. x +ℤ (o *ℤ c)) (assoc f k c ∙ ap (λ x. f *ℤ x) (*ℤ_comm k c) ∙ sym (assoc f c k))

-- an order times a constant
rises : (x y : ℤ) (n : ℕ) → x ≤ℤ y → (x *ℤ pos n) ≤ℤ (y *ℤ pos n)
rises x y zero h = omega (arith, ints, *ℤ_comm x (pos 0), *ℤ_comm y (pos 0), zero-*ℤ x, zero-*ℤ y)
rises x y (suc n) h =
    omega (arith, ints, rises x y n h, *ℤ_comm x (pos (suc n)), *ℤ_comm y (pos (suc n)), *ℤ_comm x (pos n), *ℤ_comm y (pos n), suc_ℤ-*ℤ (pos n) x, suc_ℤ-*ℤ (pos n) y)

falls : (x y : ℤ) (n : ℕ) → x ≤ℤ y → (y *ℤ negsuc n) ≤ℤ (x *ℤ negsuc n)
falls x y n h = omega (arith, ints, rises x y (suc n) h, neg-mul (pos (suc n)) x, neg-mul (pos (suc n)) y, *ℤ_comm x (negsuc n), *ℤ_comm y (negsuc n), *ℤ_comm x (pos (suc n)), *ℤ_comm y (pos (suc n)))

-- what lies between f k + l and f k + h, times a constant
pub scaled-low : (f k l h x c : ℤ) → ((f *ℤ k) +ℤ l) ≤ℤ x → x ≤ℤ ((f *ℤ k) +ℤ h) → (((f *ℤ c) *ℤ k) +ℤ int_min (l *ℤ c) (h *ℤ c)) ≤ℤ (x *ℤ c)
scaled-low f k l h x (pos n) low high = omega (arith, ints, clamps, rises ((f *ℤ k) +ℤ l) x n low, at-scaled f k l (pos n))
scaled-low f k l h x (negsuc n) low high = omega (arith, ints, clamps, falls x ((f *ℤ k) +ℤ h) n high, at-scaled f k h (negsuc n))

pub scaled-high : (f k l h x c : ℤ) → ((f *ℤ k) +ℤ l) ≤ℤ x → x ≤ℤ ((f *ℤ k) +ℤ h) → (x *ℤ c) ≤ℤ (((f *ℤ c) *ℤ k) +ℤ int_max (l *ℤ c) (h *ℤ c))
scaled-high f k l h x (pos n) low high = omega (arith, ints, clamps, rises x ((f *ℤ k) +ℤ h) n high, at-scaled f k h (pos n))
scaled-high f k l h x (negsuc n) low high = omega (arith, ints, clamps, falls ((f *ℤ k) +ℤ l) x n low, at-scaled f k l (negsuc n))

pub mul-comm : (a b : ℤ) → a *ℤ b ≡ b *ℤ a
mul-comm a b = *ℤ_comm a b

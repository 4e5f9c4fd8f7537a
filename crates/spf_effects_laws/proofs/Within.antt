-- What an operator gives lies within its bound.
use Rattle.std.proofs.Common.{◌≡◌, ℕ, zero, suc, Bool, true, false, Option, Some, None, ℤ, pos, negsuc, refl, arith, of_z}
use Rattle.std.specs.Prelude.{◌+ℤ◌, ◌-ℤ◌, ◌*ℤ◌, neg_ℤ, ◌≤ℤ◌, Result, Ok, Err, if◌then◌else◌, ◌&&◌, ◌%◌, ◌<◌, ◌≤◌, ◌^◌, nat_le, int_le, int_lt, int_div, int_rem, bit_and}
use Rattle.std.specs.Ordering.{int_eq}
use Rattle.std.specs.Int.{int_bit_and, w64}
use Rattle.std.proofs.lemmas.Bool.Decides.{Decides-int_eq}
use Rattle.std.proofs.lemmas.Nat.{and_le_l, and_le_r}
use Rattle.std.proofs.lemmas.Int.{ints, to_z_pos}
use Rattle.spf_ast.specs.declared.outcome.TrapKind.{TrapKind}
use Rattle.spf_ast.specs.declared.syntax.Op.{Op}
use Rattle.spf_ast.specs.declared.syntax.Op.TheVariants.{Add, Sub, Mul, Div, Rem, And, Or, Xor, Shl, Shr}
use Rattle.spf_ast.specs.Word.{is_word, exact, binary_words, sub_words}
use Rattle.spf_region.specs.declared.bound.Bound.{Bound}
use Rattle.spf_region.specs.declared.bound.Bound.TheVariants.{Known, Unknown}
use Rattle.spf_region.specs.Bounds.{is_small, known, kept, plus, minus, negated, constant, scaled, times, times_constants, remainder, remainder_by, is_at_least_zero, masked, masked_by}
use Rattle.spf_region.proofs.Bools.{and-left, and-right}
use Rattle.spf_effects_findings.specs.Forms.{binary_bound}
use Rattle.spf_effects_laws.proofs.Meeting.{IsWithin}
use Rattle.spf_effects_laws.proofs.Products.{add-mul, sub-mul, neg-mul, zero-mul, mul-comm, scaled-low, scaled-high}

-- what is kept of a bound
pub kept-within : (k a l h z : ℤ) → IsWithin k (Known a l h) z → IsWithin k (kept a l h) z
kept-within k a l h z w = go (is_small a) (is_small l) (is_small h)
  where
    go : (x y u : Bool) → IsWithin k (known (if x then Some a else None) (if y then Some l else None) (if u then Some h else None)) z
    go true true true = w
    go true true false = tt
    go true false u = tt
    go false y u = tt

if-exact : (b : Bool) (z w : ℤ) (why : TrapKind) → (if b then Ok z else Err why) ≡ Ok w → w ≡ z
if-exact true z w why e = cc
if-exact false z w why e = cc

exact-is : (z w : ℤ) → exact z ≡ Ok w → w ≡ z
exact-is z w e = if-exact (is_word z) z w _ e

plus-within : (k : ℤ) (b c : Bound) (x y : ℤ) → IsWithin k b x → IsWithin k c y → IsWithin k (plus b c) (x +ℤ y)
plus-within k Unknown c x y p q = tt
plus-within k (Known a l h) Unknown x y p q = tt
plus-within k (Known a l h) (Known b m i) x y p q =
    kept-within k (a +ℤ b) (l +ℤ m) (h +ℤ i) (x +ℤ y) (omega (arith, ints, add-mul a b k, p.0, q.0), omega (arith, ints, add-mul a b k, p.1, q.1))

minus-within : (k : ℤ) (b c : Bound) (x y : ℤ) → IsWithin k b x → IsWithin k c y → IsWithin k (minus b c) (x -ℤ y)
minus-within k Unknown c x y p q = tt
minus-within k (Known a l h) Unknown x y p q = tt
minus-within k (Known a l h) (Known b m i) x y p q =
    kept-within k (a -ℤ b) (l -ℤ i) (h -ℤ m) (x -ℤ y) (omega (arith, ints, sub-mul a b k, p.0, q.1), omega (arith, ints, sub-mul a b k, p.1, q.0))

pub negated-within : (k : ℤ) (b : Bound) (x z : ℤ) → IsWithin k b x → sub_words (pos 0) x ≡ Ok z → IsWithin k (negated b) z
negated-within k Unknown x z p e = tt
negated-within k (Known a l h) x z p e =
    let is = exact-is (pos 0 -ℤ x) z e in
    let m = neg-mul a k in
    kept-within k (neg_ℤ a) (neg_ℤ h) (neg_ℤ l) z (omega (arith, ints, p.1), omega (arith, ints, p.0))

-- ---- constants

if-just : (b : Bool) (l c : ℤ) → (if◌then◌else◌ {A = Option ℤ} b (Some l) None) ≡ Some c → (b ≡ true) × (l ≡ c)
if-just true l c e = (refl, cc)
if-just false l c e = cc

constant-is : (k : ℤ) (b : Bound) (x c : ℤ) → constant b ≡ Some c → IsWithin k b x → x ≡ c
constant-is k Unknown x c e p = cc
constant-is k (Known a l h) x c e p =
    let i = if-just (int_eq a (pos 0) && int_eq l h) l c e in
    let za : a ≡ pos 0 = (Decides-int_eq a (pos 0)).0 (and-left _ _ i.0) in
    let lh : l ≡ h = (Decides-int_eq l h).0 (and-right (int_eq a (pos 0)) _ i.0) in
    let zk : a *ℤ k ≡ pos 0 = rw za (zero-mul k) in
    omega (arith, ints, p.0, p.1, i.1)

scaled-within : (k : ℤ) (b : Bound) (x c : ℤ) → IsWithin k b x → IsWithin k (scaled b c) (x *ℤ c)
scaled-within k Unknown x c p = tt
scaled-within k (Known a l h) x c p = kept-within k (a *ℤ c) _ _ (x *ℤ c) (scaled-low a k l h x c p.0 p.1, scaled-high a k l h x c p.0 p.1)

times-within : (k : ℤ) (b c : Bound) (x y : ℤ) → IsWithin k b x → IsWithin k c y → IsWithin k (times b c) (x *ℤ y)
times-within k b c x y p q = go (constant b) (constant c) refl refl
  where
    go : (d e : Option ℤ) → constant b ≡ d → constant c ≡ e → IsWithin k (times_constants b d c e) (x *ℤ y)
    go d (Some n) i j = rw (constant-is k c y n j q) (scaled-within k b x n p)
    go (Some m) None i j = rw (constant-is k b x m i p, mul-comm m y) (scaled-within k c y m q)
    go None None i j = tt

-- a bound that holds where a test is true
where-true : (k : ℤ) (t : Bool) (b c : Bound) (z : ℤ) → t ≡ true → IsWithin k b z → IsWithin k (if t then b else c) z
where-true k true b c z e p = p
where-true k false b c z e p = cc

is-over : (m : ℕ) → int_lt (pos 0) (pos (suc m)) ≡ true
is-over m = grind (arith, ints)

isnt-under : (m : ℕ) → int_le (pos 0) (pos m) ≡ true
isnt-under m = grind (arith, ints)

-- ---- remainders

if-rem : (b t : Bool) (w z : ℤ) (why why' : TrapKind) → (if b then Err why else (if t then Ok w else Err why')) ≡ Ok z → z ≡ w
if-rem true t w z why why' e = cc
if-rem false true w z why why' e = cc
if-rem false false w z why why' e = cc

rem-is : (x y z : ℤ) → binary_words Rem x y ≡ Ok z → z ≡ int_rem x y
rem-is x y z e = if-rem (int_eq y (pos 0)) (is_word (int_div x y)) (int_rem x y) z _ _ e

rem-any : (k x : ℤ) (c : ℕ) → IsWithin k (Known (pos 0) (neg_ℤ (pos c)) (pos c)) (int_rem x (pos (suc c)))
rem-any k (pos a) c =
    let below : a % suc c < suc c = omega arith in
    (omega (arith, ints, zero-mul k), omega (arith, ints, zero-mul k))
rem-any k (negsuc a) c =
    let below : suc a % suc c < suc c = omega arith in
    (omega (arith, ints, zero-mul k), omega (arith, ints, zero-mul k))

rem-up : (k x : ℤ) (c : ℕ) → pos 0 ≤ℤ x → IsWithin k (Known (pos 0) (pos 0) (pos c)) (int_rem x (pos (suc c)))
rem-up k (pos a) c up =
    let below : a % suc c < suc c = omega arith in
    (omega (arith, ints, zero-mul k), omega (arith, ints, zero-mul k))
rem-up k (negsuc a) c up = absurd (omega (arith, ints))

at-least-zero : (k : ℤ) (b : Bound) (x : ℤ) → is_at_least_zero b ≡ true → IsWithin k b x → pos 0 ≤ℤ x
at-least-zero k Unknown x e p = cc
at-least-zero k (Known a l h) x e p =
    let za : a ≡ pos 0 = (Decides-int_eq a (pos 0)).0 (and-left _ _ e) in
    let zl : int_le (pos 0) l ≡ true = and-right (int_eq a (pos 0)) _ e in
    let zk : a *ℤ k ≡ pos 0 = rw za (zero-mul k) in
    let low : pos 0 ≤ℤ l = grind (arith, ints, zl) in
    omega (arith, ints, p.0)

rem-within : (k : ℤ) (b c : Bound) (x y z : ℤ) → IsWithin k b x → IsWithin k c y → binary_words Rem x y ≡ Ok z → IsWithin k (remainder b c) z
rem-within k b c x y z p q e = go (constant c) refl
  where
    pick : (t : Bool) (m : ℕ) → is_at_least_zero b ≡ t → IsWithin k (if t then kept (pos 0) (pos 0) (pos m) else kept (pos 0) (neg_ℤ (pos m)) (pos m)) (int_rem x (pos (suc m)))
    pick true m t = kept-within k (pos 0) (pos 0) (pos m) _ (rem-up k x m (at-least-zero k b x t p))
    pick false m t = kept-within k (pos 0) (neg_ℤ (pos m)) (pos m) _ (rem-any k x m)

    less : (m : ℕ) → pos (suc m) -ℤ pos 1 ≡ pos m
    less m = omega (arith, ints)

    go : (d : Option ℤ) → constant c ≡ d → IsWithin k (remainder_by b d) z
    go None i = tt
    go (Some (negsuc m)) i = tt
    go (Some (pos zero)) i = tt
    go (Some (pos (suc m))) i =
        rw (rem-is x y z e, constant-is k c y (pos (suc m)) i q)
        (where-true k (int_lt (pos 0) (pos (suc m))) _ Unknown (int_rem x (pos (suc m))) (is-over m) (rw (less m) (pick (is_at_least_zero b) m refl)))

-- ---- masks

masked-by : (k x : ℤ) (m : ℕ) (other : Bound) (z : ℤ) → (m ≤ 2 ^ 40 → (pos 0 ≤ℤ z) × (z ≤ℤ pos m)) → IsWithin k (kept (pos 0) (pos 0) (pos m)) z
masked-by k x m other z h = go (nat_le m (2 ^ 40)) refl
  where
    go : (t : Bool) → nat_le m (2 ^ 40) ≡ t → IsWithin k (known (Some (pos 0)) (Some (pos 0)) (if t then Some (pos m) else None)) z
    go false e = tt
    go true e =
        let small : m ≤ 2 ^ 40 = grind (arith, e) in
        let i = h small in
        (omega (arith, ints, zero-mul k, i.0), omega (arith, ints, zero-mul k, i.1))

under-right : (x : ℤ) (m : ℕ) → m ≤ 2 ^ 40 → (pos 0 ≤ℤ int_bit_and w64 x (pos m)) × (int_bit_and w64 x (pos m) ≤ℤ pos m)
under-right x m small =
    let le = and_le_r (of_z w64 x) m in
    let e : int_bit_and w64 x (pos m) ≡ pos (bit_and (of_z w64 x) m) = to_z_pos w64 (bit_and (of_z w64 x) m) (omega arith) in
    (rw e (omega (arith, ints)), rw e (omega (arith, ints)))

under-left : (x : ℤ) (m : ℕ) → m ≤ 2 ^ 40 → (pos 0 ≤ℤ int_bit_and w64 (pos m) x) × (int_bit_and w64 (pos m) x ≤ℤ pos m)
under-left x m small =
    let le = and_le_l m (of_z w64 x) in
    let e : int_bit_and w64 (pos m) x ≡ pos (bit_and m (of_z w64 x)) = to_z_pos w64 (bit_and m (of_z w64 x)) (omega arith) in
    (rw e (omega (arith, ints)), rw e (omega (arith, ints)))

abbrev the_result : ℤ → Result ℤ TrapKind
the_result w = Ok w

if-ok : (w z : ℤ) → the_result w ≡ Ok z → z ≡ w
if-ok w z e = cc

masked-within : (k : ℤ) (b c : Bound) (x y : ℤ) → IsWithin k b x → IsWithin k c y → IsWithin k (masked b c) (int_bit_and w64 x y)
masked-within k b c x y p q = go (constant b) (constant c) refl refl
  where
    left : (d : Option ℤ) → constant b ≡ d → IsWithin k (masked_by d Unknown) (int_bit_and w64 x y)
    left None i = tt
    left (Some (negsuc m)) i = tt
    left (Some (pos m)) i = rw (constant-is k b x (pos m) i p) (where-true k (int_le (pos 0) (pos m)) _ Unknown _ (isnt-under m) (masked-by k x m Unknown _ (under-left y m)))

    go : (d e : Option ℤ) → constant b ≡ d → constant c ≡ e → IsWithin k (masked_by e (masked_by d Unknown)) (int_bit_and w64 x y)
    go d None i j = left d i
    go d (Some (negsuc m)) i j = left d i
    go d (Some (pos m)) i j = rw (constant-is k c y (pos m) j q) (where-true k (int_le (pos 0) (pos m)) _ (masked_by d Unknown) _ (isnt-under m) (masked-by k x m Unknown _ (under-right x m)))

-- ---- the operators

pub binary-within : (k : ℤ) (op : Op) (b c : Bound) (x y z : ℤ) → IsWithin k b x → IsWithin k c y → binary_words op x y ≡ Ok z → IsWithin k (binary_bound op b c) z
binary-within k Add b c x y z p q e = rw (exact-is (x +ℤ y) z e) (plus-within k b c x y p q)
binary-within k Sub b c x y z p q e = rw (exact-is (x -ℤ y) z e) (minus-within k b c x y p q)
binary-within k Mul b c x y z p q e = rw (exact-is (x *ℤ y) z e) (times-within k b c x y p q)
binary-within k Div b c x y z p q e = tt
binary-within k Rem b c x y z p q e = rem-within k b c x y z p q e
binary-within k And b c x y z p q e = rw (if-ok _ z e) (masked-within k b c x y p q)
binary-within k Or b c x y z p q e = tt
binary-within k Xor b c x y z p q e = tt
binary-within k Shl b c x y z p q e = tt
binary-within k Shr b c x y z p q e = tt

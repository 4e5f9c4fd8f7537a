-- What is joined and common of two ranges.
use Rattle.std.proofs.Common.{◌≡◌, ℕ, Bool, true, false, ℤ, pos, refl, ap, ◌∙◌, arith}
use Rattle.std.specs.Prelude.{◌≤ℤ◌, ◌+ℤ◌, Option, Some, None, if◌then◌else◌, ◌==◌, ◌&&◌, ◌||◌, int_le}
use Rattle.std.specs.Ordering.{int_eq}
use Rattle.std.specs.Int.{int_min, int_max}
use Rattle.std.proofs.lemmas.Int.{ints, clamps}
use Rattle.spf_region.specs.declared.range.Range.{Range}
use Rattle.spf_region.specs.declared.range.Range.TheVariants.{Whole, Affine}
use Rattle.spf_region.specs.Ranges.{IsBefore, IsFilled, has_offset, is_whole, is_between}
use Rattle.spf_region.specs.Merging.{hull, overlap, filled}
use Rattle.spf_region.proofs.Bools.{and-left, and-right, int-le-is, int-le-not, never}
use Rattle.spf_region.proofs.Order.{StartsBy, Joins}

between-joined : (l h m i o : ℤ) → l ≤ℤ m → m ≤ℤ (h +ℤ pos 1) → m ≤ℤ i → is_between l (int_max h i) o ≡ (is_between l h o || is_between m i o)
between-joined l h m i o p q r = grind (arith, ints, clamps)

between-common : (l h m i o : ℤ) → is_between (int_max l m) (int_min h i) o ≡ (is_between l h o && is_between m i o)
between-common l h m i o = grind (arith, ints, clamps)

if-some : {A : Type 0} (t : Bool) (x y : A) → (if t then Some x else None) ≡ Some y → (t ≡ true) × (y ≡ x)
if-some true x y e = (refl, cc)
if-some false x y e = cc

and-false : (x : Bool) → (x && false) ≡ false
and-false true = refl
and-false false = refl

if-filled : (t : Bool) (x : Option Range) (y : Range) → (if t then x else None) ≡ Some y → (t ≡ true) × (x ≡ Some y)
if-filled true x y e = (refl, e)
if-filled false x y e = cc

if-both : (s t : Bool) (x : Range) → (if s then (if t then Some x else None) else None) ≡ None → (s && t) ≡ false
if-both true true x e = cc
if-both true false x e = refl
if-both false t x e = refl

if-none : {A : Type 0} (t : Bool) (x : A) → (if t then Some x else None) ≡ None → t ≡ false
if-none true x e = cc
if-none false x e = refl

spread : (p q x y : Bool) → (p && (q && (x || y))) ≡ ((p && (q && x)) || (p && (q && y)))
spread true true x y = refl
spread true false x y = refl
spread false q x y = refl

spread-both : (p q x y : Bool) → (p && (q && (x && y))) ≡ ((p && (q && x)) && (p && (q && y)))
spread-both true true x y = refl
spread-both true false x y = refl
spread-both false q x y = refl

pub hull-some : (r s q : Range) → IsFilled r → IsFilled s → StartsBy r s → hull r s ≡ Some q → Joins r s q
hull-some (Whole a) (Whole b) q u v w e =
    let i = if-some (a == b) (Whole a) q e in
    let same : a ≡ b = grind (arith, i.0) in
    rw (i.1, ← same) (record {
      filled = tt;
      starts = λ x h. h;
      follows = λ x h. h;
      offsets = λ a' f o. refl;
      wholes = λ a'. twice (a' == a);
      arrays = λ a'. twice (a == a');
    })
  where
    twice : (t : Bool) → t ≡ (t || t)
    twice true = refl
    twice false = refl
hull-some (Whole a) (Affine b g m i) q u v w e = cc
hull-some (Affine a f l h) (Whole b) q u v w e = cc
hull-some (Affine a f l h) (Affine b g m i) q u v w e =
    let c = if-some ((a == b) && (int_eq f g && int_le m (h +ℤ pos 1))) (Affine a f l (int_max h i)) q e in
    let e0 : (a == b) ≡ true = and-left _ _ c.0 in
    let e1 = and-right (a == b) _ c.0 in
    let e2 : int_eq f g ≡ true = and-left _ _ e1 in
    let ab : a ≡ b = grind (arith, e0) in
    let fg : f ≡ g = grind (arith, ints, e2) in
    let touch = int-le-is m (h +ℤ pos 1) (and-right (int_eq f g) _ e1) in
    let below : l ≤ℤ m = grind (arith, ints) in
    rw (c.1, ← ab, ← fg) (record {
      filled = omega (arith, ints, clamps);
      starts = λ x y. begins x y;
      follows = λ x y. follow x y;
      offsets = λ a' f' o. ap (λ t. (a' == a) && (int_eq f' f && t)) (between-joined l h m i o below touch v) ∙ spread (a' == a) (int_eq f' f) (is_between l h o) (is_between m i o);
      wholes = λ a'. refl;
      arrays = λ a'. twice (a == a');
    })
  where
    twice : (t : Bool) → t ≡ (t || t)
    twice true = refl
    twice false = refl

    begins : (x : Range) → StartsBy (Affine a f l h) x → StartsBy (Affine a f l (int_max h i)) x
    begins (Whole c) y = y
    begins (Affine c k n j) y = y

    follow : (x : Range) → IsBefore x (Affine a f l h) → IsBefore x (Affine a f l (int_max h i))
    follow (Whole c) y = y
    follow (Affine c k n j) y = y

pub hull-none : (r s : Range) → StartsBy r s → hull r s ≡ None → IsBefore r s
hull-none (Whole a) (Whole b) w e = let t = if-none (a == b) (Whole a) e in grind (arith, t)
hull-none (Whole a) (Affine b g m i) w e = w
hull-none (Affine a f l h) (Whole b) w e = w
hull-none (Affine a f l h) (Affine b g m i) w e = go (a == b) (int_eq f g) (int_le m (h +ℤ pos 1)) refl refl refl (if-none _ (Affine a f l (int_max h i)) e)
  where
    go : (p q t : Bool) → (a == b) ≡ p → int_eq f g ≡ q → int_le m (h +ℤ pos 1) ≡ t → (p && (q && t)) ≡ false → IsBefore (Affine a f l h) (Affine b g m i)
    go false q t ep eq et n = let ne = ep in grind (arith, ints)
    go true false t ep eq et n = let ne = eq in grind (arith, ints)
    go true true false ep eq et n = let gap = int-le-not m (h +ℤ pos 1) et in grind (arith, ints)
    go true true true ep eq et n = cc

-- a range of what two have in common
pub record Shares (r s q : Range) : Type 0 where
  pub filled : IsFilled q
  pub left_follows : (x : Range) → IsBefore x r → IsBefore x q
  pub right_follows : (x : Range) → IsBefore x s → IsBefore x q
  pub left_leads : (x : Range) → IsBefore r x → IsBefore q x
  pub right_leads : (x : Range) → IsBefore s x → IsBefore q x
  pub offsets : (a : ℕ) (f o : ℤ) → has_offset q a f o ≡ (has_offset r a f o && has_offset s a f o)
  pub wholes : (a : ℕ) → is_whole q a ≡ (is_whole r a && is_whole s a)

pub overlap-some : (r s q : Range) → overlap r s ≡ Some q → Shares r s q
overlap-some (Whole a) (Whole b) q e =
    let i = if-some (a == b) (Whole a) q e in
    let same : a ≡ b = grind (arith, i.0) in
    rw (i.1, ← same) (record {
      filled = tt;
      left_follows = λ x h. h;
      right_follows = λ x h. h;
      left_leads = λ x h. h;
      right_leads = λ x h. h;
      offsets = λ a' f o. refl;
      wholes = λ a'. twice (a' == a);
    })
  where
    twice : (t : Bool) → t ≡ (t && t)
    twice true = refl
    twice false = refl
overlap-some (Whole a) (Affine b g m i) q e = cc
overlap-some (Affine a f l h) (Whole b) q e = cc
overlap-some (Affine a f l h) (Affine b g m i) q e =
    let d = if-filled ((a == b) && int_eq f g) (filled a f (int_max l m) (int_min h i)) q e in
    let c = if-some (int_le (int_max l m) (int_min h i)) (Affine a f (int_max l m) (int_min h i)) q d.1 in
    let e0 : (a == b) ≡ true = and-left _ _ d.0 in
    let e2 = and-right (a == b) _ d.0 in
    let ab : a ≡ b = grind (arith, e0) in
    let fg : f ≡ g = grind (arith, ints, e2) in
    let meet = int-le-is (int_max l m) (int_min h i) c.0 in
    rw (c.1, ← ab, ← fg) (record {
      filled = meet;
      left_follows = λ x y. left-follow x y;
      right_follows = λ x y. right-follow x y;
      left_leads = λ x y. left-lead x y;
      right_leads = λ x y. right-lead x y;
      offsets = λ a' f' o. ap (λ t. (a' == a) && (int_eq f' f && t)) (between-common l h m i o) ∙ spread-both (a' == a) (int_eq f' f) (is_between l h o) (is_between m i o);
      wholes = λ a'. refl;
    })
  where
    left-follow : (x : Range) → IsBefore x (Affine a f l h) → IsBefore x (Affine a f (int_max l m) (int_min h i))
    left-follow (Whole c) y = y
    left-follow (Affine c k n j) y = grind (arith, ints, clamps)

    right-follow : (x : Range) → IsBefore x (Affine a f m i) → IsBefore x (Affine a f (int_max l m) (int_min h i))
    right-follow (Whole c) y = y
    right-follow (Affine c k n j) y = grind (arith, ints, clamps)

    left-lead : (x : Range) → IsBefore (Affine a f l h) x → IsBefore (Affine a f (int_max l m) (int_min h i)) x
    left-lead (Whole c) y = y
    left-lead (Affine c k n j) y = grind (arith, ints, clamps)

    right-lead : (x : Range) → IsBefore (Affine a f m i) x → IsBefore (Affine a f (int_max l m) (int_min h i)) x
    right-lead (Whole c) y = y
    right-lead (Affine c k n j) y = grind (arith, ints, clamps)

-- two ranges with nothing in common
pub record SharesNothing (r s : Range) : Type 0 where
  pub offsets : (a : ℕ) (f o : ℤ) → (has_offset r a f o && has_offset s a f o) ≡ false
  pub wholes : (a : ℕ) → (is_whole r a && is_whole s a) ≡ false

pub overlap-none : (r s : Range) → overlap r s ≡ None → SharesNothing r s
overlap-none (Whole a) (Whole b) e = record {
  offsets = λ a' f o. refl;
  wholes = λ a'. apart a' (if-none (a == b) (Whole a) e);
}
  where
    apart : (c : ℕ) → (a == b) ≡ false → ((c == a) && (c == b)) ≡ false
    apart c t = grind arith
overlap-none (Whole a) (Affine b g m i) e = record { offsets = λ a' f o. refl; wholes = λ a'. and-false (a' == a) }
overlap-none (Affine a f l h) (Whole b) e = record { offsets = λ a' f' o. and-false ((a' == a) && (int_eq f' f && is_between l h o)); wholes = λ a'. refl }
overlap-none (Affine a f l h) (Affine b g m i) e = record {
  offsets = λ a' f' o. never _ (λ t. both a' f' o (and-left _ _ t) (and-right ((a' == a) && (int_eq f' f && is_between l h o)) _ t));
  wholes = λ a'. refl;
}
  where
    apart : (p q t : Bool) → (a == b) ≡ p → int_eq f g ≡ q → int_le (int_max l m) (int_min h i) ≡ t → ((p && q) && t) ≡ false → a ≡ b → f ≡ g → (int_max l m ≤ℤ int_min h i) → ⊥
    apart false q t ep eq et n ab fg le = let ne = ep in grind (arith, ints)
    apart true false t ep eq et n ab fg le = let ne = eq in grind (arith, ints)
    apart true true false ep eq et n ab fg le = let gap = int-le-not (int_max l m) (int_min h i) et in grind (arith, ints)
    apart true true true ep eq et n ab fg le = cc

    both : (a' : ℕ) (f' o : ℤ) → ((a' == a) && (int_eq f' f && is_between l h o)) ≡ true → ((a' == b) && (int_eq f' g && is_between m i o)) ≡ true → ⊥
    both a' f' o x y =
        let xa : (a' == a) ≡ true = and-left _ _ x in
        let x1 = and-right (a' == a) _ x in
        let xf : int_eq f' f ≡ true = and-left _ _ x1 in
        let x2 = and-right (int_eq f' f) _ x1 in
        let xl = int-le-is l o (and-left _ _ x2) in
        let xh = int-le-is o h (and-right (int_le l o) _ x2) in
        let ya : (a' == b) ≡ true = and-left _ _ y in
        let y1 = and-right (a' == b) _ y in
        let yf : int_eq f' g ≡ true = and-left _ _ y1 in
        let y2 = and-right (int_eq f' g) _ y1 in
        let yl = int-le-is m o (and-left _ _ y2) in
        let yh = int-le-is o i (and-right (int_le m o) _ y2) in
        let ab : a ≡ b = grind (arith, xa, ya) in
        let fg : f ≡ g = grind (arith, ints, xf, yf) in
        apart (a == b) (int_eq f g) (int_le (int_max l m) (int_min h i)) refl refl refl (if-both ((a == b) && int_eq f g) _ (Affine a f (int_max l m) (int_min h i)) e) ab fg (omega (arith, ints, clamps))

pub before-nothing : (r s : Range) → IsBefore r s → SharesNothing r s
before-nothing (Whole a) (Whole b) x = record { offsets = λ a' f o. refl; wholes = λ a'. never _ (λ t. apart a' (and-left _ _ t) (and-right (a' == a) _ t)) }
  where
    apart : (c : ℕ) → (c == a) ≡ true → (c == b) ≡ true → ⊥
    apart c u v = grind (arith, u, v)
before-nothing (Whole a) (Affine b g m i) x = record { offsets = λ a' f o. refl; wholes = λ a'. and-false (a' == a) }
before-nothing (Affine a f l h) (Whole b) x = record { offsets = λ a' f' o. and-false ((a' == a) && (int_eq f' f && is_between l h o)); wholes = λ a'. refl }
before-nothing (Affine a f l h) (Affine b g m i) before = record {
  offsets = λ a' f' o. never _ (λ t. both a' f' o (and-left _ _ t) (and-right ((a' == a) && (int_eq f' f && is_between l h o)) _ t));
  wholes = λ a'. refl;
}
  where
    both : (a' : ℕ) (f' o : ℤ) → ((a' == a) && (int_eq f' f && is_between l h o)) ≡ true → ((a' == b) && (int_eq f' g && is_between m i o)) ≡ true → ⊥
    both a' f' o x y =
        let xa : (a' == a) ≡ true = and-left _ _ x in
        let x1 = and-right (a' == a) _ x in
        let xf : int_eq f' f ≡ true = and-left _ _ x1 in
        let x2 = and-right (int_eq f' f) _ x1 in
        let xh = int-le-is o h (and-right (int_le l o) _ x2) in
        let ya : (a' == b) ≡ true = and-left _ _ y in
        let y1 = and-right (a' == b) _ y in
        let yf : int_eq f' g ≡ true = and-left _ _ y1 in
        let y2 = and-right (int_eq f' g) _ y1 in
        let yl = int-le-is m o (and-left _ _ y2) in
        let ab : a ≡ b = grind (arith, xa, ya) in
        let fg : f ≡ g = grind (arith, ints, xf, yf) in
        grind (arith, ints)

pub overlap-same : (r s : Range) (a b : ℕ) (f l h g m i : ℤ) → r ≡ Affine a f l h → s ≡ Affine b g m i → a ≡ b → f ≡ g → overlap r s ≡ filled a f (int_max l m) (int_min h i)
overlap-same r s a b f l h g m i er es ea ef =
    let ab : (a == b) ≡ true = grind (arith, ea) in
    let fg : int_eq f g ≡ true = grind (arith, ints, ef) in
    rw (er, es, ab, fg) refl

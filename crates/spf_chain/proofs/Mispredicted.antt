-- The list of the mispredicted blocks.
use Rattle.std.proofs.Common.{◌≡◌, ◌≢◌, ◌⊎◌, ℕ, ◌<◌, zero, suc, Bool, true, false, List, [], ◌∷◌, length, refl, sym, ap, ◌∙◌, subst, inl, inr, Option, Some, None, ℤ, arith}
use Rattle.std.specs.Prelude.{if◌then◌else◌, slice_index_or}
use Rattle.std.specs.List.{Contains}
use Rattle.std.specs.Prelude.{not}
use Rattle.spf_cells.specs.declared.view.Setting.{Setting}
use Rattle.spf_speculation_entry.specs.declared.site.Site.{Site}
use Rattle.spf_speculation_entry.specs.Sites.{entry_at, guess_at, RaisesMispredicted}
use Rattle.spf_speculation_entry.proofs.Rows.{Decides-same_carried}
use Rattle.spf_chain.specs.Mispredicted.{is_other, mispredicted_at, those_below, mispredicted_blocks}
use Rattle.spf_ast.specs.Carried.{same_carried}
use Rattle.spf_chain.proofs.Lists.{some-same, less-or-same, true-or-false, not-both}

none-in : (n : ℕ) → Contains [] n → ⊥
none-in n h = let low = h.1 in omega (arith, low)

contains-first : (x : ℕ) (xs : List ℕ) → Contains (x ∷ xs) x
contains-first x xs = (0, omega arith, refl)

contains-later : (x n : ℕ) (xs : List ℕ) → Contains xs n → Contains (x ∷ xs) n
contains-later x n xs h = let low = h.1 in (suc h.0, omega (arith, low), h.2)

cases-at : (x n : ℕ) (xs : List ℕ) (i : ℕ) → i < length (x ∷ xs) → slice_index_or (x ∷ xs) i n ≡ n → (n ≡ x) ⊎ Contains xs n
cases-at x n xs zero low is = inl (sym is)
cases-at x n xs (suc i) low is = inr (i, omega (arith, low), is)

contains-cases : (x n : ℕ) (xs : List ℕ) → Contains (x ∷ xs) n → (n ≡ x) ⊎ Contains xs n
contains-cases x n xs h = cases-at x n xs h.0 h.1 h.2

chosen-true : (b : Bool) (x : ℕ) (xs : List ℕ) → b ≡ true → x ∷ xs ≡ (if b then x ∷ xs else xs)
chosen-true true x xs h = refl
chosen-true false x xs h = absurd cc

only-by : (f : ℕ → Bool) (k n : ℕ) (b : Bool) → f k ≡ b → (Contains (those_below f k) n → (n < k) × (f n ≡ true)) → Contains (if b then k ∷ those_below f k else those_below f k) n → (n < suc k) × (f n ≡ true)
only-by f k n true is rec g = elim (contains-cases k n (those_below f k) g) [
  | inl e ↦ (omega (arith, e), ap f e ∙ is)
  | inr r ↦ let i = rec r in let low = i.0 in (omega (arith, low), i.1)
]
only-by f k n false is rec g = let i = rec g in let low = i.0 in (omega (arith, low), i.1)

those-only : (f : ℕ → Bool) (k n : ℕ) → Contains (those_below f k) n → (n < k) × (f n ≡ true)
those-only f zero n h = absurd (none-in n h)
those-only f (suc k) n h = only-by f k n (f k) refl (those-only f k n) h

those-all : (f : ℕ → Bool) (k n : ℕ) → n < k → f n ≡ true → Contains (those_below f k) n
those-all f zero n low h = absurd (omega (arith, low))
those-all f (suc k) n low h = elim (less-or-same n k (omega (arith, low))) [
  | inl less ↦ keep (f k) (those-all f k n less h)
  | inr e ↦ subst (λ l. Contains l n) (chosen-true (f k) k (those_below f k) (ap f (sym e) ∙ h)) (subst (λ m. Contains (k ∷ those_below f k) m) (sym e) (contains-first k (those_below f k)))
]
  where
    keep : (b : Bool) → Contains (those_below f k) n → Contains (if b then k ∷ those_below f k else those_below f k) n
    keep true r = contains-later k n (those_below f k) r
    keep false r = r

other-is : (o : Option (List ℤ)) (v : List ℤ) → is_other o v ≡ true → o ≢ Some v
other-is None v h e = absurd cc
other-is (Some w) v h e = not-both (not (same_carried w v)) h (ap not ((Decides-same_carried w v).1 (some-same w v e)))

is-other : (o : Option (List ℤ)) (v : List ℤ) → o ≢ Some v → is_other o v ≡ true
is-other None v h = refl
is-other (Some w) v h = elim (true-or-false (same_carried w v)) [ inl t ↦ absurd (h (ap (λ x. Some x) ((Decides-same_carried w v).0 t))) | inr f ↦ ap not f ]

pub may-raise : (s : Site) (k : Setting) → k.raisable ≡ mispredicted_blocks s → RaisesMispredicted (entry_at s) (guess_at s) k
may-raise s k is = record {
  only = λ n there. other-is _ _ (those-only (mispredicted_at s) s.blocks n (subst (λ l. Contains l n) is there)).1;
  all = λ n low mispredicted. subst (λ l. Contains l n) (sym is) (those-all (mispredicted_at s) s.blocks n low (is-other _ _ mispredicted));
}

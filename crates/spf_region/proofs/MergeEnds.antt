-- Where one of two lists is at its end.
use Rattle.std.proofs.Common.{◌≡◌, ◌⊎◌, inl, inr, ℕ, ◌≤◌, length, drop, take, ◌-◌, length-drop, List, [], ◌∷◌, ◌++◌, refl, sym, ap, ◌∙◌, arith}
use Rattle.std.proofs.lemmas.List.{at_drop_all, take_all}
use Rattle.spf_region.specs.declared.range.Range.{Range}
use Rattle.spf_region.specs.Merging.{interleaved, met}

pub append-none : (xs : List Range) → xs ++ [] ≡ xs
append-none [] = refl
append-none (x ∷ xs) = ap (λ zs. x ∷ zs) (append-none xs)

met-none : (xs : List Range) → met xs [] ≡ []
met-none [] = refl
met-none (x ∷ xs) = refl

pub met-end : (xs ys : List Range) (i j : ℕ) → (length xs ≤ i) ⊎ (length ys ≤ j) → met (drop i xs) (drop j ys) ≡ []
met-end xs ys i j (inl h) = at_drop_all (λ zs. met zs (drop j ys)) xs i h
met-end xs ys i j (inr h) = at_drop_all (λ zs. met (drop i xs) zs) ys j h ∙ met-none (drop i xs)

interleaved-none : (xs : List Range) → interleaved xs [] ≡ xs ++ []
interleaved-none [] = refl
interleaved-none (x ∷ xs) = sym (append-none (x ∷ xs))

pub interleaved-end : (xs ys : List Range) (i j : ℕ) → (length xs ≤ i) ⊎ (length ys ≤ j) → interleaved (drop i xs) (drop j ys) ≡ drop i xs ++ drop j ys
interleaved-end xs ys i j (inl h) = at_drop_all (λ zs. interleaved zs (drop j ys)) xs i h ∙ sym (at_drop_all (λ zs. zs ++ drop j ys) xs i h)
interleaved-end xs ys i j (inr h) = at_drop_all (λ zs. interleaved (drop i xs) zs) ys j h ∙ interleaved-none (drop i xs) ∙ sym (at_drop_all (λ zs. drop i xs ++ zs) ys j h)

pub whole-rest : (xs : List Range) (i : ℕ) → take (length xs - i) (drop i xs) ≡ drop i xs
whole-rest xs i = take_all (length xs - i) (drop i xs) (omega (arith, length-drop i xs))

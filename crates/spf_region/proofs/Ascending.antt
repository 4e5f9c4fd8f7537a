-- Cells have one list of ascending spans.
use Rattle.std.proofs.Common.{◌≡◌, ◌⊎◌, inl, inr, ℕ, ◌<◌, ◌≤◌, true, List, [], ◌∷◌, refl, sym, ap, ◌∙◌, arith}
use Rattle.std.specs.Prelude.{nat_le, nat_lt}
use Rattle.spf_region.specs.declared.span.Span.{Span}
use Rattle.spf_region.specs.Cells.{in_span, in_spans, EndsBeforeEach, AreAscending}
use Rattle.spf_region.proofs.Bools.{and-left, and-right, both-true, or-cases, or-left, or-right, same-bool}

in-parts : (s : Span) (c : ℕ) → in_span s c ≡ true → (s.from ≤ c) × (c < s.to)
in-parts s c e =
    let low : nat_le s.from c ≡ true = and-left _ _ e in
    let high : nat_lt c s.to ≡ true = and-right (nat_le s.from c) _ e in
    (grind (arith, low), grind (arith, high))

in-of : (s : Span) (c : ℕ) → s.from ≤ c → c < s.to → in_span s c ≡ true
in-of s c low high =
    let a : nat_le s.from c ≡ true = grind (arith, low) in
    let b : nat_lt c s.to ≡ true = grind (arith, high) in
    both-true _ _ a b

behind : (s : Span) (xs : List Span) (c : ℕ) → EndsBeforeEach s xs → in_spans xs c ≡ true → s.to < c
behind s [] c b e = cc
behind s (x ∷ xs) c b e = go (behind s xs c b.1) (or-cases (in_span x c) _ e)
  where
    go : (in_spans xs c ≡ true → s.to < c) → (in_span x c ≡ true) ⊎ (in_spans xs c ≡ true) → s.to < c
    go further (inl u) = let p = in-parts x c u in let first = b.0 in omega (arith, p.0)
    go further (inr u) = further u

first-least : (x : Span) (xs : List Span) (c : ℕ) → AreAscending (x ∷ xs) → in_spans (x ∷ xs) c ≡ true → x.from ≤ c
first-least x xs c a e = go (or-cases (in_span x c) _ e)
  where
    go : (in_span x c ≡ true) ⊎ (in_spans xs c ≡ true) → x.from ≤ c
    go (inl u) = let p = in-parts x c u in omega (arith, p.0)
    go (inr u) = let h = behind x xs c a.1 u in let f = a.0 in omega arith

abbrev AreAlike : List Span → List Span → Type 0
AreAlike xs ys = (c : ℕ) → in_spans xs c ≡ in_spans ys c

no-longer : (x y : Span) (xs ys : List Span) → AreAlike (x ∷ xs) (y ∷ ys) → AreAscending (x ∷ xs) → x.from ≡ y.from → x.to < y.to → ⊥
no-longer x y xs ys alike a same less = go (or-cases (in_span x x.to) _ (alike x.to ∙ or-left _ _ (in-of y x.to (let f = a.0 in omega arith) less)))
  where
    go : (in_span x x.to ≡ true) ⊎ (in_spans xs x.to ≡ true) → ⊥
    go (inl u) = let p = in-parts x x.to u in omega (arith, p.1)
    go (inr u) = let h = behind x xs x.to a.1 u in omega arith

same-head : (x y : Span) (xs ys : List Span) → AreAlike (x ∷ xs) (y ∷ ys) → AreAscending (x ∷ xs) → AreAscending (y ∷ ys) → x ≡ y
same-head x y xs ys alike a b = ends (order x.to y.to)
  where
    order : (m n : ℕ) → (m ≡ n) ⊎ ((m < n) ⊎ (n < m))
    order m n = grind arith

    from : x.from ≡ y.from
    from =
        let p = first-least y ys x.from b (sym (alike x.from) ∙ or-left _ _ (in-of x x.from (omega arith) a.0)) in
        let q = first-least x xs y.from a (alike y.from ∙ or-left _ _ (in-of y y.from (omega arith) b.0)) in
        omega arith

    ends : (x.to ≡ y.to) ⊎ ((x.to < y.to) ⊎ (y.to < x.to)) → x ≡ y
    ends (inl e) = λ j. record { from = from j; to = e j }
    ends (inr (inl less)) = absurd (no-longer x y xs ys alike a from less)
    ends (inr (inr less)) = absurd (no-longer y x ys xs (λ c. sym (alike c)) b (sym from) less)

same-tail : (x : Span) (xs ys : List Span) → AreAlike (x ∷ xs) (x ∷ ys) → AreAscending (x ∷ xs) → AreAscending (x ∷ ys) → AreAlike xs ys
same-tail x xs ys alike a b c = same-bool _ _ (only xs ys a (alike c)) (only ys xs b (sym (alike c)))
  where
    only : (xs ys : List Span) → AreAscending (x ∷ xs) → in_spans (x ∷ xs) c ≡ in_spans (x ∷ ys) c → in_spans xs c ≡ true → in_spans ys c ≡ true
    only xs ys a same t = go (or-cases (in_span x c) _ (sym same ∙ or-right (in_span x c) _ t))
      where
        go : (in_span x c ≡ true) ⊎ (in_spans ys c ≡ true) → in_spans ys c ≡ true
        go (inl u) = let h = behind x xs c a.1 t in let p = in-parts x c u in absurd (omega (arith, p.1))
        go (inr u) = u

pub one-ascending : (xs ys : List Span) → AreAscending xs → AreAscending ys → ((c : ℕ) → in_spans xs c ≡ in_spans ys c) → xs ≡ ys
one-ascending [] [] a b alike = refl
one-ascending [] (y ∷ ys) a b alike = let t = or-left _ (in_spans ys y.from) (in-of y y.from (omega arith) b.0) in let f = alike y.from in cc
one-ascending (x ∷ xs) [] a b alike = let t = or-left _ (in_spans xs x.from) (in-of x x.from (omega arith) a.0) in let f = alike x.from in cc
one-ascending (x ∷ xs) (y ∷ ys) a b alike =
    let e = same-head x y xs ys alike a b in
    let alike' : AreAlike (x ∷ xs) (x ∷ ys) = rw (sym e) at alike in
    let b' : AreAscending (x ∷ ys) = rw (sym e) at b in
    rw e (ap (λ zs. y ∷ zs) (one-ascending xs ys a.2 b.2 (same-tail x xs ys alike' a b')))

-- Each list has one verdict.
use Rattle.std.proofs.Common.{◌≡◌, ◌⊎◌, inl, inr, ℕ, ◌+◌, ◌<◌, ◌≤◌, List, [], ◌∷◌, ◌++◌, length, get_or, refl, ap, sym, ◌∙◌, subst, arith, append_assoc, length-append}
use Rattle.std.specs.List.{All}
use Rattle.std.proofs.lemmas.List.{get_or_at, get_or_append_left, append-nil}
use Rattle.std.proofs.lemmas.List.Elements.{All-push}
use Rattle.spf_batch_lists.specs.Lists.{lines, IsName, max_names, AreNames, IsBadAt}

longer : (before after : List (List ℕ)) (line : List ℕ) → length (before ++ line ∷ after) ≡ length before + 1 + length after
longer before after line = omega (arith, length-append before (line ∷ after))

pub apart : (list : List ℕ) (names : List (List ℕ)) (number : ℕ) → AreNames list names → IsBadAt list number → ⊥
apart list names number n b = by_bad b.bad
  where
    split : names ≡ b.before ++ b.line ∷ b.after
    split = sym n.lines_are ∙ b.lines_are

    inside : length b.before < length names
    inside = omega (arith, ap (λ (l : List (List ℕ)). length l) split, longer b.before b.after b.line)

    by_bad : (IsName b.line → ⊥) ⊎ (length b.before ≡ max_names) → ⊥
    by_bad (inl bad) = bad (subst IsName (ap (λ l. get_or l (length b.before) []) split ∙ get_or_at b.before b.line b.after [] (length b.before) refl) (n.each (length b.before) [] inside))
    by_bad (inr many) = let few = n.few in absurd (omega (arith, few, many, inside))

-- the line of one is no later than that of the other
no-later : (list : List ℕ) (number other : ℕ) (a : IsBadAt list number) (b : IsBadAt list other) → length a.before < length b.before → ⊥
no-later list number other a b l = by_bad a.bad
  where
    here : get_or b.before (length a.before) [] ≡ a.line
    here =
        sym (get_or_append_left b.before (b.line ∷ b.after) [] (length a.before) l)
        ∙ ap (λ x. get_or x (length a.before) []) (sym b.lines_are ∙ a.lines_are)
        ∙ get_or_at a.before a.line a.after [] (length a.before) refl

    by_bad : (IsName a.line → ⊥) ⊎ (length a.before ≡ max_names) → ⊥
    by_bad (inl bad) = bad (subst IsName here (b.each (length a.before) [] l))
    by_bad (inr many) = let few = b.few in absurd (omega (arith, few, many, l))

pub one : (list : List ℕ) (number other : ℕ) → IsBadAt list number → IsBadAt list other → number ≡ other
one list number other a b = by_order (order (length a.before) (length b.before))
  where
    order : (m n : ℕ) → (m < n) ⊎ ((n < m) ⊎ (m ≡ n))
    order m n = grind arith

    by_order : (length a.before < length b.before) ⊎ ((length b.before < length a.before) ⊎ (length a.before ≡ length b.before)) → number ≡ other
    by_order (inl l) = absurd (no-later list number other a b l)
    by_order (inr (inl l)) = absurd (no-later list other number b a l)
    by_order (inr (inr e)) = a.number_is ∙ ap (λ n. n + 1) e ∙ sym b.number_is

goes-on : (list : List ℕ) → ((names : List (List ℕ)) → AreNames list names → ⊥) → ((number : ℕ) → IsBadAt list number → ⊥)
    → (before rest : List (List ℕ)) → lines list ≡ before ++ rest → All IsName before → length before ≤ max_names → ⊥
goes-on list none good before [] split each few = none before (record { lines_are = split ∙ append-nil before; each = each; few = few })
goes-on list none good before (line ∷ rest) split each few =
    by_count (count (length before) few) (λ (is : IsName line) (less : length before < max_names).
    goes-on list none good (before ++ line ∷ []) rest (split ∙ sym (append_assoc before (line ∷ []) rest)) (All-push IsName before line each is) (omega (arith, less, length-append before (line ∷ []))))
  where
    count : (n : ℕ) → n ≤ max_names → (n < max_names) ⊎ (n ≡ max_names)
    count n h = grind arith

    bad : (IsName line → ⊥) ⊎ (length before ≡ max_names) → ⊥
    bad why = good (length before + 1) (record { before = before; line = line; after = rest; lines_are = split; number_is = refl; each = each; few = few; bad = why })

    by_count : (length before < max_names) ⊎ (length before ≡ max_names) → (IsName line → length before < max_names → ⊥) → ⊥
    by_count (inl less) more = bad (inl (λ is. more is less))
    by_count (inr many) more = bad (inr many)

pub some : (list : List ℕ) → ((names : List (List ℕ)) → AreNames list names → ⊥) → ((number : ℕ) → IsBadAt list number → ⊥) → ⊥
some list none good = goes-on list none good [] (lines list) refl (λ k d l. absurd (omega (arith, l))) (omega arith)

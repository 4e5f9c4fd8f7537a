-- Spans, their cells, and how they are joined.
use Rattle.std.proofs.Common.{◌≡◌, ℕ, suc, ◌+◌, ◌<◌, ◌≤◌, Bool, true, false, not, List, [], ◌∷◌, ◌++◌, length, take, get_or, ℤ, pos, refl, sym, ap, ◌∙◌, arith}
use Rattle.std.specs.Prelude.{◌+ℤ◌, ◌-ℤ◌, ◌==◌, ◌&&◌, ◌||◌, nat_le, nat_lt, int_le, if◌then◌else◌, slice_index_or}
use Rattle.std.specs.List.{list_any}
use Rattle.std.specs.List.Sorted.{IsNonDecreasingBy}
use Rattle.std.specs.Int.{int_min, int_max}
use Rattle.std.proofs.lemmas.Int.{ints, clamps}
use Rattle.std.proofs.lemmas.List.Folds.{list_any-append, list_any_at, list_any_more}
use Rattle.spf_region.specs.declared.range.Range.{Range}
use Rattle.spf_region.specs.declared.span.Span.{Span}
use Rattle.spf_region.specs.Ranges.{array_of, has_array, is_between}
use Rattle.spf_region.specs.Cells.{Extent, in_extent, is_cell, cells_at, in_span, in_spans, EndsBeforeEach, AreAscending}
use Rattle.spf_region.specs.Joining.{wider, joined_after, joined_spans}
use Rattle.spf_region.proofs.Bools.{and-left, and-right, both-true, or-assoc, same-bool, int-le-is, int-le-of}

le-is : (a b : ℕ) → nat_le a b ≡ true → a ≤ b
le-is a b e = grind (arith, e)

le-of : (a b : ℕ) → a ≤ b → nat_le a b ≡ true
le-of a b h = grind (arith, h)

lt-is : (a b : ℕ) → nat_lt a b ≡ true → a < b
lt-is a b e = grind (arith, e)

lt-of : (a b : ℕ) → a < b → nat_lt a b ≡ true
lt-of a b h = grind (arith, h)

-- the clipped span of a range has its cells
pub span-cells : (base size : ℕ) (lo hi : ℤ) (first end cell : ℕ) → pos first ≡ int_max (pos 0) (int_min lo (pos size)) → pos end ≡ int_max (pos 0) (int_min (hi +ℤ pos 1) (pos size)) →
    in_span (record { from = base + first; to = base + end }) cell ≡ (in_extent (base, size) cell && is_between lo hi (pos cell -ℤ pos base))
span-cells base size lo hi first end cell p q = same-bool _ _ forth back
  where
    forth : in_span (record { from = base + first; to = base + end }) cell ≡ true → (in_extent (base, size) cell && is_between lo hi (pos cell -ℤ pos base)) ≡ true
    forth e =
        let low = le-is (base + first) cell (and-left _ _ e) in
        let high = lt-is cell (base + end) (and-right (nat_le (base + first) cell) _ e) in
        both-true _ _ (both-true _ _ (le-of base cell (omega arith)) (lt-of cell (base + size) (omega (arith, ints, clamps))))
        (both-true _ _ (int-le-of lo (pos cell -ℤ pos base) (omega (arith, ints, clamps))) (int-le-of (pos cell -ℤ pos base) hi (omega (arith, ints, clamps))))

    back : (in_extent (base, size) cell && is_between lo hi (pos cell -ℤ pos base)) ≡ true → in_span (record { from = base + first; to = base + end }) cell ≡ true
    back e =
        let e1 = and-left (in_extent (base, size) cell) _ e in
        let e2 = and-right (in_extent (base, size) cell) _ e in
        let a = le-is base cell (and-left _ _ e1) in
        let b = lt-is cell (base + size) (and-right (nat_le base cell) _ e1) in
        let c = int-le-is lo (pos cell -ℤ pos base) (and-left _ _ e2) in
        let d = int-le-is (pos cell -ℤ pos base) hi (and-right (int_le lo (pos cell -ℤ pos base)) _ e2) in
        both-true _ _ (le-of (base + first) cell (omega (arith, ints, clamps))) (lt-of cell (base + end) (omega (arith, ints, clamps)))

-- ---- spans one by one

or-false : (b : Bool) → (b || false) ≡ b
or-false true = refl
or-false false = refl

abbrev pub is_no_span : Span → Bool
is_no_span s = not (nat_lt s.from s.to)

one-more : (t : Span → Bool) (items : List Span) (s : Span) → list_any t (items ++ s ∷ []) ≡ (list_any t items || t s)
one-more t items s = list_any-append t items (s ∷ []) ∙ ap (λ b. list_any t items || b) (or-false (t s))

pub more-cells : (g : List Extent) (k : ℤ) (ranges : List Range) (i : ℕ) (d : Range) (cell : ℕ) (items : List Span) (s : Span) → i < length ranges → in_spans items cell ≡ cells_at g k (take i ranges) cell →
    in_span s cell ≡ is_cell (slice_index_or g (array_of (get_or ranges i d)) (0, 0)) k (get_or ranges i d) cell → in_spans (items ++ s ∷ []) cell ≡ cells_at g k (take (i + 1) ranges) cell
more-cells g k ranges i d cell items s below before here =
    one-more (λ s. in_span s cell) items s ∙ ap (λ b. b || in_span s cell) before ∙ ap (λ b. cells_at g k (take i ranges) cell || b) here
    ∙ sym (list_any_more (λ r. is_cell (slice_index_or g (array_of r) (0, 0)) k r cell) ranges i d below)

no-cell : (s : Span) (cell : ℕ) → s.to ≤ s.from → in_span s cell ≡ false
no-cell s cell h = grind arith

pub skipped-cells : (g : List Extent) (k : ℤ) (ranges : List Range) (i : ℕ) (d : Range) (cell : ℕ) (items : List Span) (s : Span) → i < length ranges → s.to ≤ s.from → in_spans items cell ≡ cells_at g k (take i ranges) cell →
    in_span s cell ≡ is_cell (slice_index_or g (array_of (get_or ranges i d)) (0, 0)) k (get_or ranges i d) cell → in_spans items cell ≡ cells_at g k (take (i + 1) ranges) cell
skipped-cells g k ranges i d cell items s below empty before here =
    before ∙ sym (or-false (cells_at g k (take i ranges) cell)) ∙ ap (λ b. cells_at g k (take i ranges) cell || b) (sym (no-cell s cell empty) ∙ here)
    ∙ sym (list_any_more (λ r. is_cell (slice_index_or g (array_of r) (0, 0)) k r cell) ranges i d below)

pub more-filled : (items : List Span) (s : Span) → s.from < s.to → list_any is_no_span items ≡ false → list_any is_no_span (items ++ s ∷ []) ≡ false
more-filled items s h e = one-more is_no_span items s ∙ ap (λ b. b || is_no_span s) e ∙ ap not (lt-of s.from s.to h)

-- ---- joined

abbrev BeginsByEach : Span → List Span → Type 0
BeginsByEach s [] = Unit {0}
BeginsByEach s (t ∷ rest) = (s.from ≤ t.from) × BeginsByEach s rest

abbrev AreSorted : List Span → Type 0
AreSorted [] = Unit {0}
AreSorted (s ∷ rest) = (s.from < s.to) × BeginsByEach s rest × AreSorted rest

begins-each : (s : Span) (xs : List Span) → ((j : ℕ) (d : Span) → j < length xs → s.from ≤ (get_or xs j d).from) → BeginsByEach s xs
begins-each s [] h = tt
begins-each s (x ∷ xs) h = (h 0 x (omega arith), begins-each s xs (λ j d below. h (suc j) d (omega arith)))

sorted-each : (xs : List Span) → IsNonDecreasingBy (λ s. s.from) xs → list_any is_no_span xs ≡ false → AreSorted xs
sorted-each [] h e = tt
sorted-each (x ∷ xs) h e =
    (filled (nat_lt x.from x.to) refl e, begins-each x xs (λ j d below. h 0 (suc j) d (omega arith) (omega arith)), sorted-each xs (λ i j d le below. h (suc i) (suc j) d (omega arith) (omega arith)) (rest (is_no_span x) e))
  where
    filled : (b : Bool) → nat_lt x.from x.to ≡ b → (not b || list_any is_no_span xs) ≡ false → x.from < x.to
    filled true is e = lt-is x.from x.to is
    filled false is e = cc

    rest : (b : Bool) → (b || list_any is_no_span xs) ≡ false → list_any is_no_span xs ≡ false
    rest true e = cc
    rest false e = e

wider-begins : (p s : Span) (xs : List Span) → BeginsByEach p xs → BeginsByEach (wider p s) xs
wider-begins p s [] b = tt
wider-begins p s (x ∷ xs) b = (b.0, wider-begins p s xs b.1)

wider-cells : (p s : Span) (cell : ℕ) → p.from ≤ s.from → s.from ≤ p.to → p.from < p.to → s.from < s.to → in_span (wider p s) cell ≡ (in_span p cell || in_span s cell)
wider-cells p s cell a b c d = grind arith

joined-cells : (p : Span) (xs : List Span) (cell : ℕ) → p.from < p.to → BeginsByEach p xs → AreSorted xs → in_spans (joined_after p xs) cell ≡ (in_span p cell || in_spans xs cell)
joined-cells p [] cell f b o = refl
joined-cells p (x ∷ xs) cell f b o =
    go (nat_le x.from p.to) refl (joined-cells (wider p x) xs cell (omega arith) (wider-begins p x xs b.1) o.2) (joined-cells x xs cell o.0 o.1 o.2)
  where
    go : (t : Bool) → nat_le x.from p.to ≡ t → in_spans (joined_after (wider p x) xs) cell ≡ (in_span (wider p x) cell || in_spans xs cell) → in_spans (joined_after x xs) cell ≡ (in_span x cell || in_spans xs cell) →
        in_spans (if t then joined_after (wider p x) xs else p ∷ joined_after x xs) cell ≡ (in_span p cell || (in_span x cell || in_spans xs cell))
    go true e u v = u ∙ ap (λ c. c || in_spans xs cell) (wider-cells p x cell b.0 (le-is x.from p.to e) f o.0) ∙ sym (or-assoc (in_span p cell) (in_span x cell) (in_spans xs cell))
    go false e u v = ap (λ c. in_span p cell || c) v

joined-behind : (q p : Span) (xs : List Span) → q.to < p.from → p.from < p.to → BeginsByEach p xs → AreSorted xs → EndsBeforeEach q (joined_after p xs)
joined-behind q p [] h f b o = (h, tt)
joined-behind q p (x ∷ xs) h f b o =
    go (nat_le x.from p.to) (joined-behind q (wider p x) xs h (omega arith) (wider-begins p x xs b.1) o.2) (joined-behind q x xs (let first = b.0 in omega arith) o.0 o.1 o.2)
  where
    go : (t : Bool) → EndsBeforeEach q (joined_after (wider p x) xs) → EndsBeforeEach q (joined_after x xs) → EndsBeforeEach q (if t then joined_after (wider p x) xs else p ∷ joined_after x xs)
    go true u v = u
    go false u v = (h, v)

joined-ascending : (p : Span) (xs : List Span) → p.from < p.to → BeginsByEach p xs → AreSorted xs → AreAscending (joined_after p xs)
joined-ascending p [] f b o = (f, tt, tt)
joined-ascending p (x ∷ xs) f b o =
    go (nat_le x.from p.to) refl (joined-ascending (wider p x) xs (omega arith) (wider-begins p x xs b.1) o.2) (joined-ascending x xs o.0 o.1 o.2)
  where
    not-le : nat_le x.from p.to ≡ false → p.to < x.from
    not-le e = grind (arith, e)

    go : (t : Bool) → nat_le x.from p.to ≡ t → AreAscending (joined_after (wider p x) xs) → AreAscending (joined_after x xs) → AreAscending (if t then joined_after (wider p x) xs else p ∷ joined_after x xs)
    go true e u v = u
    go false e u v = (f, joined-behind p x xs (not-le e) o.0 o.1 o.2, v)

pub joined-all-cells : (xs : List Span) (cell : ℕ) → IsNonDecreasingBy (λ s. s.from) xs → list_any is_no_span xs ≡ false → in_spans (joined_spans xs) cell ≡ in_spans xs cell
joined-all-cells xs cell h e = go xs (sorted-each xs h e)
  where
    go : (xs : List Span) → AreSorted xs → in_spans (joined_spans xs) cell ≡ in_spans xs cell
    go [] o = refl
    go (x ∷ xs) o = joined-cells x xs cell o.0 o.1 o.2

pub joined-all-ascending : (xs : List Span) → IsNonDecreasingBy (λ s. s.from) xs → list_any is_no_span xs ≡ false → AreAscending (joined_spans xs)
joined-all-ascending xs h e = go xs (sorted-each xs h e)
  where
    go : (xs : List Span) → AreSorted xs → AreAscending (joined_spans xs)
    go [] o = tt
    go (x ∷ xs) o = joined-ascending x xs o.0 o.1 o.2

-- a list has the array of each of its ranges
pub has-own-array : (xs : List Range) (i : ℕ) (d : Range) → i < length xs → has_array xs (array_of (get_or xs i d)) ≡ true
has-own-array xs i d below = list_any_at (λ r. array_of r == array_of (get_or xs i d)) xs i d below (grind arith)

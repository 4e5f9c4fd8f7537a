-- The cells of ranges, single offset by single offset, and what follows from the rules for them.
use Rattle.std.proofs.Common.{◌≡◌, ◌≢◌, ◌⊎◌, inl, inr, ℕ, Bool, true, false, not, List, [], ◌∷◌, ℤ, pos, subst, arith}
use Rattle.std.specs.Prelude.{◌-ℤ◌, ◌*ℤ◌, ◌≤ℤ◌, ◌==◌, ◌&&◌, ◌||◌, int_le, int_lt, slice_index_or}
use Rattle.std.specs.Ordering.{int_eq}
use Rattle.std.specs.Int.{int_min, int_max}
use Rattle.std.proofs.lemmas.Int.{ints, clamps}
use Rattle.spf_region.specs.declared.range.Range.{Range}
use Rattle.spf_region.specs.declared.range.Range.TheVariants.{Whole, Affine}
use Rattle.spf_region.specs.Ranges.{array_of, has_offset, is_whole, offsets_of, wholes_of}
use Rattle.spf_region.specs.Cells.{Extent, at_block, in_extent, is_cell, cells_at}
use Rattle.spf_region.specs.Laws.{AreSeparate, LieApart, IsCellAt}
use Rattle.spf_region.proofs.Bools.{and-left, and-right, both-true, or-cases, or-left, or-right, int-le-is, int-le-of}
use Rattle.spf_region.proofs.Covers.{has-of}
use Rattle.spf_region.proofs.Blocks.{separate-cells, disjoint-cells}
use Rattle.spf_check_rules.specs.Rules.{ShareNothing, HasArray}
use Rattle.spf_ast_lemmas.proofs.Members.{cases}

abbrev pub extent : List Extent → ℕ → Extent
extent g a = slice_index_or g a (0, 0)

-- a cell of a list at block k is of an array that the list has as a whole, or at one of its offsets
abbrev pub AtWhole : List Extent → ℤ → List Range → ℕ → Type 0
AtWhole g k list cell = (a : ℕ) × (wholes_of list a ≡ true) × IsCellAt g k (Whole a) cell

abbrev pub AtOffset : List Extent → ℤ → List Range → ℕ → Type 0
AtOffset g k list cell = (a : ℕ) × (f : ℤ) × (o : ℤ) × (offsets_of list a f o ≡ true) × IsCellAt g k (Affine a f o o) cell

between-parts : (low high z : ℤ) → (int_le low z && int_le z high) ≡ true → (low ≤ℤ z) × (z ≤ℤ high)
between-parts low high z e = (int-le-is low z (and-left _ _ e), int-le-is z high (and-right (int_le low z) _ e))

between-of : (low high z : ℤ) → low ≤ℤ z → z ≤ℤ high → (int_le low z && int_le z high) ≡ true
between-of low high z p q = both-true _ _ (int-le-of low z p) (int-le-of z high q)

itself : (a : ℕ) → (a == a) ≡ true
itself a = grind arith

-- one range
single : (g : List Extent) (k : ℤ) (r : Range) (rest : List Range) (cell : ℕ) → IsCellAt g k r cell → AtWhole g k (r ∷ rest) cell ⊎ AtOffset g k (r ∷ rest) cell
single g k (Whole a) rest cell h = inl (a, or-left (a == a) _ (itself a), h)
single g k (Affine a f l i) rest cell h = inr (a, f, o, or-left _ _ (has-of a f l i o low high), at-one)
  where
    z : ℤ
    z = pos cell -ℤ pos (extent g a).0

    o : ℤ
    o = z -ℤ (f *ℤ k)

    index : (at_block k f l ≤ℤ z) × (z ≤ℤ at_block k f i)
    index = between-parts (at_block k f l) (at_block k f i) z (and-right (in_extent (extent g a) cell) _ h)

    low : l ≤ℤ o
    low = omega (arith, ints, index.0)

    high : o ≤ℤ i
    high = omega (arith, ints, index.1)

    at-one : IsCellAt g k (Affine a f o o) cell
    at-one = both-true _ _ (and-left (in_extent (extent g a) cell) _ h) (between-of (at_block k f o) (at_block k f o) z (omega (arith, ints)) (omega (arith, ints)))

pub entry-of : (g : List Extent) (k : ℤ) (list : List Range) (cell : ℕ) → cells_at g k list cell ≡ true → AtWhole g k list cell ⊎ AtOffset g k list cell
entry-of g k [] cell e = cc
entry-of g k (r ∷ rest) cell e =
    cases (or-cases (is_cell (extent g (array_of r)) k r cell) _ e) (single g k r rest cell) (λ h. behind (entry-of g k rest cell h))
  where
    behind : AtWhole g k rest cell ⊎ AtOffset g k rest cell → AtWhole g k (r ∷ rest) cell ⊎ AtOffset g k (r ∷ rest) cell
    behind (inl (a, w, at)) = inl (a, or-right (is_whole r a) _ w, at)
    behind (inr (a, f, o, w, at)) = inr (a, f, o, or-right (has_offset r a f o) _ w, at)

-- the cell of an entry is in its array
pub whole-inside : (g : List Extent) (k : ℤ) (a cell : ℕ) → IsCellAt g k (Whole a) cell → in_extent (extent g a) cell ≡ true
whole-inside g k a cell h = h

pub offset-inside : (g : List Extent) (k : ℤ) (a : ℕ) (f o : ℤ) (cell : ℕ) → IsCellAt g k (Affine a f o o) cell → in_extent (extent g a) cell ≡ true
offset-inside g k a f o cell h = and-left _ _ h

-- a cell of a list has its array there
pub has-array-of : (g : List Extent) (k : ℤ) (list : List Range) (cell : ℕ) → cells_at g k list cell ≡ true → (a : ℕ) × HasArray list a × (in_extent (extent g a) cell ≡ true)
has-array-of g k list cell e = go (entry-of g k list cell e)
  where
    go : AtWhole g k list cell ⊎ AtOffset g k list cell → (a : ℕ) × HasArray list a × (in_extent (extent g a) cell ≡ true)
    go (inl (a, w, at)) = (a, inl w, at)
    go (inr (a, f, o, w, at)) = (a, inr (f, o, w), offset-inside g k a f o cell at)

same-or-not : (a b : ℕ) → (a ≡ b) ⊎ (a ≢ b)
same-or-not a b = grind arith

-- of an array that has the cell
pub has-this-array : (g : List Extent) → LieApart g → (k : ℤ) (list : List Range) (a cell : ℕ) → cells_at g k list cell ≡ true → in_extent (extent g a) cell ≡ true → HasArray list a
has-this-array g apart k list a cell e i =
    let h = has-array-of g k list cell e in
    cases (same-or-not h.0 a) (λ same. subst (HasArray list) same h.1) (λ ne. absurd (apart h.0 a cell ne h.2 i))

equal : (f g : ℤ) → f ≡ g → int_eq f g ≡ true
equal f g e = grind (arith, ints, e)

alone : (a : ℕ) (t : Bool) → t ≡ true → (not (a == a) || t) ≡ true
alone a true e = grind arith
alone a false e = cc

-- no cell is in separate lists at two blocks
pub separate-blocks : (g : List Extent) → LieApart g → (list : List Range) → AreSeparate (offsets_of list) (wholes_of list) → (k j : ℤ) (cell : ℕ) → k ≢ j → cells_at g k list cell ≡ true → cells_at g j list cell ≡ true → ⊥
separate-blocks g apart list sep k j cell ne x y = go (entry-of g k list cell x) (entry-of g j list cell y)
  where
    one : (a b : ℕ) (f h o q : ℤ) → offsets_of list a f o ≡ true → offsets_of list b h q ≡ true → IsCellAt g k (Affine a f o o) cell → IsCellAt g j (Affine b h q q) cell → a ≡ b → ⊥
    one a b f h o q u v at at' same =
        let v' : offsets_of list a h q ≡ true = rw same v in
        let near = sep.near a f h o q u v' in
        let back = sep.near a h f q o v' u in
        let lt0 : int_lt (pos 0) f ≡ true = grind (arith, ints, near.1) in
        let lt1 : int_lt (o -ℤ q) f ≡ true = grind (arith, ints, near.2) in
        let lt2 : int_lt (q -ℤ o) f ≡ true = grind (arith, ints, back.2, near.0) in
        let tested = both-true _ _ (equal f h near.0) (both-true _ _ lt0 (both-true _ _ lt1 lt2)) in
        separate-cells g k j (Affine a f o o) (Affine a h q q) cell apart ne (alone a _ tested) at (rw same at')

    go : AtWhole g k list cell ⊎ AtOffset g k list cell → AtWhole g j list cell ⊎ AtOffset g j list cell → ⊥
    go (inl (a, w, at)) other = let n = sep.no_whole a in cc
    go (inr e) (inl (b, w, at)) = let n = sep.no_whole b in cc
    go (inr (a, f, o, w, at)) (inr (b, h, q, v, at')) =
        cases (same-or-not a b) (one a b f h o q w v at at') (λ other. apart a b cell other (offset-inside g k a f o cell at) (offset-inside g j b h q cell at'))

-- no cell is in lists that share nothing, at any blocks
pub nothing-shared : (g : List Extent) → LieApart g → (one other : List Range) → ShareNothing one other → (k j : ℤ) (cell : ℕ) → cells_at g k one cell ≡ true → cells_at g j other cell ≡ true → ⊥
nothing-shared g apart one other share k j cell x y = go (entry-of g k one cell x) (entry-of g j other cell y)
  where
    both : (a b : ℕ) (f h o q : ℤ) → offsets_of one a f o ≡ true → offsets_of other b h q ≡ true → IsCellAt g k (Affine a f o o) cell → IsCellAt g j (Affine b h q q) cell → a ≡ b → ⊥
    both a b f h o q u v at at' same =
        let v' : offsets_of other a h q ≡ true = rw same v in
        let d = share.differ a f h o q u v' in
        let lt : int_lt (int_min o q) (int_max o q) ≡ true = grind (arith, ints, clamps, d.2) in
        let tested = both-true _ _ (equal f (pos 0) d.0) (both-true _ _ (equal h (pos 0) d.1) lt) in
        disjoint-cells g k j (Affine a f o o) (Affine a h q q) cell apart (alone a _ tested) at (rw same at')

    go : AtWhole g k one cell ⊎ AtOffset g k one cell → AtWhole g j other cell ⊎ AtOffset g j other cell → ⊥
    go (inl (a, w, at)) e =
        share.no_whole a w (has-this-array g apart j other a cell y at)
    go (inr e) (inl (b, w, at)) =
        share.no_other_whole b (has-this-array g apart k one b cell x at) w
    go (inr (a, f, o, w, at)) (inr (b, h, q, v, at')) =
        cases (same-or-not a b) (both a b f h o q w v at at') (λ ne. apart a b cell ne (offset-inside g k a f o cell at) (offset-inside g j b h q cell at'))

-- where the cell of an offset stands in its array
pub offset-index : (g : List Extent) (k : ℤ) (a : ℕ) (f o : ℤ) (cell : ℕ) → IsCellAt g k (Affine a f o o) cell → (at_block k f o ≤ℤ (pos cell -ℤ pos (extent g a).0)) × ((pos cell -ℤ pos (extent g a).0) ≤ℤ at_block k f o)
offset-index g k a f o cell h =
    between-parts (at_block k f o) (at_block k f o) (pos cell -ℤ pos (extent g a).0) (and-right (in_extent (extent g a) cell) _ h)

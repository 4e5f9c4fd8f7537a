-- The spans of blocks, of one more block, and that they make a plan.
use Rattle.std.proofs.Common.{◌≡◌, ◌≢◌, ◌⊎◌, inl, inr, ℕ, zero, suc, ◌+◌, ◌^◌, ◌<◌, ◌≤◌, Bool, true, false, List, [], ◌∷◌, ◌++◌, length, map, Option, Some, None, ℤ, pos, ◌+ℤ◌, refl, sym, ap, ◌∙◌, subst, arith, All}
use Rattle.std.specs.Prelude.{◌==◌, ◌-ℤ◌, ◌≤ℤ◌, slice_get, slice_index_or, if◌then◌else◌}
use Rattle.std.proofs.lemmas.Int.{ints}
use Rattle.std.proofs.lemmas.Bool.Decides.{nat_tests}
use Rattle.std.specs.declared.vec.Vec.{Vec}
use Rattle.std.specs.declared.alloc.Global.{Global}
use Rattle.spf_ast.specs.Syntax.{Array, Program}
use Rattle.spf_ast.specs.Lawful.{IsLawful}
use Rattle.spf_ast.specs.Construct.{Construct, fold, pair, constructs_in, part_of}
use Rattle.spf_ast.specs.Program.{size_of, sizes, extents_from, extents_of, cell_count_of, max_cells_in, max_cells, most_cells}
use Rattle.spf_region.specs.declared.range.Range.{Range}
use Rattle.spf_region.specs.declared.range.Range.TheVariants.{Whole, Affine}
use Rattle.spf_region.specs.declared.span.Span.{Span}
use Rattle.spf_region.specs.Ranges.{array_of, has_array, has_offset, is_whole, offsets_of, wholes_of}
use Rattle.spf_region.specs.Cells.{Extent, AreAscending, at_block, in_extent, is_cell, in_spans, cells_at}
use Rattle.spf_region.specs.Laws.{IsCellAt}
use Rattle.spf_region.proofs.Bools.{or-cases, or-left, or-right, both-true, int-le-of, same-bool}
use Rattle.spf_region.proofs.Covers.{has-parts}
use Rattle.spf_check_rules.specs.Rules.{guessed_part, may_write, KeepsTheRules}
use Rattle.spf_ast_lemmas.proofs.Members.{cases}
use Rattle.spf_check_rules.proofs.Cells.{extent, AtWhole, AtOffset, has-array-of, entry-of, offset-inside, offset-index}
use Rattle.spf_check_rules.specs.Freedom.{HaveDisjointSpans, TheRulesSetFree}
use Rattle.spf_check_rules.proofs.Extents.{within}
use Rattle.spf_check.specs.declared.checked.Writes.{Writes}
use Rattle.spf_check.specs.Accepting.{IsNormalFormOf}
use Rattle.spf_check.specs.Verdicts.{AreWritesOf, IsProducerWrite, IsKept}
use Rattle.spf_check.specs.Writing.{list_with, list_of, AreListed}
use Rattle.spf_check.specs.Plans.{AreBlocksOf, IsPlanOf}
use Rattle.spf_check.proofs.Arrays.{written-within}
use Rattle.spf_check.proofs.Breaking.{is-array}
use Rattle.spf_ast_lemmas.proofs.Indices.{index-within, last-index, earlier-index, one-longer, last_or_before}

-- no block
pub none-listed : (w : Writes) (extents : List Extent) (low : ℤ) → AreListed w extents low 0 []
none-listed w extents low = record { count = refl; spans = λ block list e. cc }

-- what maps see of one more item
pub map-one : (plan : List (Vec Span Global)) (spans : Vec Span Global) → map (λ (v : Vec Span Global). v.items) (plan ++ spans ∷ []) ≡ map (λ (v : Vec Span Global). v.items) plan ++ spans.items ∷ []
map-one [] spans = refl
map-one (x ∷ plan) spans = ap (λ l. x.items ∷ l) (map-one plan spans)

the-same : (a b : List Span) → Some a ≡ Some b → a ≡ b
the-same a b e = cc

-- one more block
pub one-more-listed : (w : Writes) (extents : List Extent) (low : ℤ) (n : ℕ) (plan : List (List Span)) (spans : List Span) → AreListed w extents low n plan → AreAscending spans → ((cell : ℕ) → in_spans spans cell ≡ cells_at extents (low +ℤ pos n) (list_of w n) cell) → AreListed w extents low (n + 1) (plan ++ spans ∷ [])
one-more-listed w extents low n plan spans h up cells = record { count = one-longer plan spans n h.count; spans = each }
  where
    each : (block : ℕ) (list : List Span) → slice_get (plan ++ spans ∷ []) block ≡ Some list → AreAscending list × ((cell : ℕ) → in_spans list cell ≡ cells_at extents (low +ℤ pos block) (list_of w block) cell)
    each block list e = cases (last_or_before block n (let l = index-within (plan ++ spans ∷ []) block list e in omega (arith, l, one-longer plan spans n h.count))) here earlier
      where
        here : block ≡ n → AreAscending list × ((cell : ℕ) → in_spans list cell ≡ cells_at extents (low +ℤ pos block) (list_of w block) cell)
        here same =
            let is : spans ≡ list = the-same spans list (sym (ap (slice_get (plan ++ spans ∷ [])) (same ∙ sym h.count) ∙ last-index plan spans) ∙ e) in
            (subst AreAscending is up, λ cell. sym (ap (λ l. in_spans l cell) is) ∙ cells cell ∙ ap (λ b. cells_at extents (low +ℤ pos b) (list_of w b) cell) (sym same))

        earlier : block < n → AreAscending list × ((cell : ℕ) → in_spans list cell ≡ cells_at extents (low +ℤ pos block) (list_of w block) cell)
        earlier lt = h.spans block list (sym (earlier-index plan (spans ∷ []) block (omega (arith, lt, h.count))) ∙ e)

-- ---- a plan

-- the part of a block
list-is : (p : Program) (k : Construct) (w : Writes) (block : ℕ) → AreWritesOf p k w → IsNormalFormOf (may_write p k (part_of k block)) (list_of w block)
list-is p k w block are = go k w.producer are.guessed are.producer
  where
    go : (k : Construct) (o : Option (List Range)) → IsNormalFormOf (may_write p k (guessed_part k)) w.guessed → IsProducerWrite p k o → IsNormalFormOf (may_write p k (part_of k block)) (list_with w.guessed o block)
    go (fold line head body) None g is = g
    go (fold line head body) (Some list) g is = absurd is
    go (pair line head producer consumer) None g is = absurd is
    go (pair line head producer consumer) (Some list) g is = by block (block == 0) refl
      where
        by : (n : ℕ) (b : Bool) → (n == 0) ≡ b → IsNormalFormOf (may_write p (pair line head producer consumer) (part_of (pair line head producer consumer) n)) (if b then list else w.guessed)
        by zero true e = is
        by zero false e = cc
        by (suc n) true e = absurd (grind (arith, nat_tests, e))
        by (suc n) false e = g

-- one more block, as the code adds it
pub pushed : (w : Writes) (extents : List Extent) (low number : ℤ) (n : ℕ) (old new : List (Vec Span Global)) (spans : Vec Span Global) (list : List Range) → AreListed w extents low n (map (λ (v : Vec Span Global). v.items) old) → new ≡ old ++ spans ∷ [] → number ≡ low +ℤ pos n → list ≡ list_of w n → AreAscending spans.items → ((cell : ℕ) → in_spans spans.items cell ≡ cells_at extents number list cell) → AreListed w extents low (n + 1) (map (λ (v : Vec Span Global). v.items) new)
pushed w extents low number n old new spans list h e num is up cells =
    subst (AreListed w extents low (n + 1)) (sym (ap (map (λ (v : Vec Span Global). v.items)) e ∙ map-one old spans))
    (one-more-listed w extents low n (map (λ (v : Vec Span Global). v.items) old) spans.items h up (λ cell. cells cell ∙ (λ i. cells_at extents (num i) (is i) cell)))

-- each array that a block may write is one of the program
pub list-within : (p : Program) (n : ℕ) (k : Construct) (w : Writes) (block len : ℕ) → IsLawful p → slice_get (constructs_in p.main) n ≡ Some k → AreWritesOf p k w → (a : ℕ) → has_array (list_of w block) a ≡ true → a < length (extents_of p len)
list-within p n k w block len lawful is are a h =
    let form = list-is p k w block are in
    let within = written-within p n k (part_of k block) lawful.scoped is a (is-array _ (list_of w block) a form h) in
    omega (arith, within, extents-length len 0 p.arrays)
  where
    extents-length : (len base : ℕ) (arrays : List Array) → length (extents_from len base arrays) ≡ length arrays
    extents-length len base [] = refl
    extents-length len base (x ∷ rest) = ap suc (extents-length len (base + size_of len x) rest)

-- each array lies within the cells of all
lies-within : (len base : ℕ) (arrays : List Array) (i : ℕ) (d : Extent) → i < length (extents_from len base arrays) → (slice_index_or (extents_from len base arrays) i d).0 + (slice_index_or (extents_from len base arrays) i d).1 ≤ base + sizes len arrays
lies-within len base [] i d h = absurd (omega (arith, h))
lies-within len base (x ∷ rest) zero d h = omega arith
lies-within len base (x ∷ rest) (suc i) d h = let r = lies-within len (base + size_of len x) rest i d (omega (arith, h)) in omega (arith, r)

-- no version allows more
few-cells : (version : ℕ) → max_cells_in version ≤ most_cells
few-cells version = go (version == 2)
  where
    go : (b : Bool) → (if b then 16777216 else 4194304) ≤ most_cells
    go true = omega arith
    go false = omega arith

pub extents-fit : (p : Program) (len : ℕ) → cell_count_of p len ≤ max_cells p → All (λ (e : Extent). e.0 + e.1 < 2 ^ 64) (extents_of p len)
extents-fit p len few i d h =
    let r = lies-within len 0 p.arrays i d h in
    let most = few-cells p.version in
    omega (arith, r, few, most)

-- ---- cells by entries

whole-there : (g : List Extent) (k : ℤ) (list : List Range) (a cell : ℕ) → wholes_of list a ≡ true → IsCellAt g k (Whole a) cell → cells_at g k list cell ≡ true
whole-there g k [] a cell w at = cc
whole-there g k (r ∷ rest) a cell w at =
    cases (or-cases (is_whole r a) _ w) (λ e. or-left _ _ (here r e)) (λ e. or-right (is_cell (extent g (array_of r)) k r cell) _ (whole-there g k rest a cell e at))
  where
    here : (r : Range) → is_whole r a ≡ true → is_cell (extent g (array_of r)) k r cell ≡ true
    here (Whole b) e = let same : a ≡ b = grind (arith, e) in subst (λ x. in_extent (extent g x) cell ≡ true) same at
    here (Affine b f l h) e = cc

offset-there : (g : List Extent) (k : ℤ) (list : List Range) (a : ℕ) (f o : ℤ) (cell : ℕ) → offsets_of list a f o ≡ true → IsCellAt g k (Affine a f o o) cell → cells_at g k list cell ≡ true
offset-there g k [] a f o cell w at = cc
offset-there g k (r ∷ rest) a f o cell w at =
    cases (or-cases (has_offset r a f o) _ w) (λ e. or-left _ _ (here r e)) (λ e. or-right (is_cell (extent g (array_of r)) k r cell) _ (offset-there g k rest a f o cell e at))
  where
    z : ℤ
    z = pos cell -ℤ pos (extent g a).0

    inside : in_extent (extent g a) cell ≡ true
    inside = offset-inside g k a f o cell at

    index : (at_block k f o ≤ℤ z) × (z ≤ℤ at_block k f o)
    index = offset-index g k a f o cell at

    wider : (l h : ℤ) → l ≤ℤ o → o ≤ℤ h → is_cell (extent g a) k (Affine a f l h) cell ≡ true
    wider l h low high =
        both-true _ _ inside (both-true _ _ (int-le-of (at_block k f l) z (omega (arith, ints, index.0))) (int-le-of z (at_block k f h) (omega (arith, ints, index.1))))

    here : (r : Range) → has_offset r a f o ≡ true → is_cell (extent g (array_of r)) k r cell ≡ true
    here (Whole b) e = cc
    here (Affine b f' l h) e =
        let parts = has-parts b f' l h a f o e in
        subst (λ x. is_cell (extent g x) k (Affine x f' l h) cell ≡ true) parts.0 (subst (λ x. is_cell (extent g a) k (Affine a x l h) cell ≡ true) parts.1 (wider l h parts.2 parts.3))

some-cells : (g : List Extent) (k : ℤ) (xs ys : List Range) (cell : ℕ) → offsets_of xs ≡ offsets_of ys → wholes_of xs ≡ wholes_of ys → cells_at g k xs cell ≡ true → cells_at g k ys cell ≡ true
some-cells g k xs ys cell e f h = go (entry-of g k xs cell h)
  where
    go : AtWhole g k xs cell ⊎ AtOffset g k xs cell → cells_at g k ys cell ≡ true
    go (inl (a, w, at)) = whole-there g k ys a cell (sym (ap (λ s. s a) f) ∙ w) at
    go (inr (a, h, o, w, at)) = offset-there g k ys a h o cell (sym (ap (λ s. s a h o) e) ∙ w) at

-- lists of the same ranges have the same cells
same-cells : (g : List Extent) (k : ℤ) (list xs : List Range) (cell : ℕ) → IsNormalFormOf list xs → cells_at g k xs cell ≡ cells_at g k list cell
same-cells g k list xs cell n =
    same-bool _ _ (some-cells g k xs list cell n.offsets n.wholes) (some-cells g k list xs cell (sym n.offsets) (sym n.wholes))

-- ---- what is promised of a plan

each-within : (len base : ℕ) (arrays : List Array) (i : ℕ) → (extent (extents_from len base arrays) i).0 + (extent (extents_from len base arrays) i).1 ≤ base + sizes len arrays
each-within len base [] i = omega arith
each-within len base (x ∷ rest) zero = omega arith
each-within len base (x ∷ rest) (suc i) = let r = each-within len (base + size_of len x) rest i in omega (arith, r)

cell-within : (p : Program) (len : ℕ) (k : ℤ) (list : List Range) (cell : ℕ) → cells_at (extents_of p len) k list cell ≡ true → cell < cell_count_of p len
cell-within p len k list cell h =
    let a = has-array-of (extents_of p len) k list cell h in
    let i = (within (extent (extents_of p len) a.0) cell a.2).1 in
    let w = each-within len 0 p.arrays a.0 in omega (arith, i, w)

apart-blocks : (p : Program) (k : Construct) (len : ℕ) (low : ℤ) (count block other : ℕ) (cell : ℕ) → HaveDisjointSpans p k → AreBlocksOf k count → block < count → other < count → block ≢ other → cells_at (extents_of p len) (low +ℤ pos block) (may_write p k (part_of k block)) cell ≡ true → cells_at (extents_of p len) (low +ℤ pos other) (may_write p k (part_of k other)) cell ≡ true → ⊥
apart-blocks p (fold line head body) len low count block other cell apart few lt lt' ne x y =
    apart len (low +ℤ pos block) (low +ℤ pos other) cell (λ e. ne (same e)) x y
  where
    same : low +ℤ pos block ≡ low +ℤ pos other → block ≡ other
    same e = omega (arith, ints, e)
apart-blocks p (pair line head producer consumer) len low count zero zero cell apart few lt lt' ne x y = ne refl
apart-blocks p (pair line head producer consumer) len low count zero (suc zero) cell apart few lt lt' ne x y = apart len (low +ℤ pos 0) (low +ℤ pos 1) cell x y
apart-blocks p (pair line head producer consumer) len low count (suc zero) zero cell apart few lt lt' ne x y = apart len (low +ℤ pos 0) (low +ℤ pos 1) cell y x
apart-blocks p (pair line head producer consumer) len low count (suc zero) (suc zero) cell apart few lt lt' ne x y = ne refl
apart-blocks p (pair line head producer consumer) len low count (suc (suc n)) other cell apart few lt lt' ne x y = omega (arith, few, lt)
apart-blocks p (pair line head producer consumer) len low count block (suc (suc n)) cell apart few lt lt' ne x y = omega (arith, few, lt')

pub plan-is : TheRulesSetFree → (p : Program) (n : ℕ) (k : Construct) (w : Writes) (len : ℕ) (extents : List Extent) (cells : ℕ) (low : ℤ) (blocks : ℕ) (plan : List (List Span)) → IsLawful p → slice_get (constructs_in p.main) n ≡ Some k → KeepsTheRules p k → AreWritesOf p k w → extents ≡ extents_of p len → cells ≡ cell_count_of p len → AreBlocksOf k blocks → AreListed w extents low blocks plan → IsPlanOf p k extents cells low blocks plan
plan-is set-free p n k w len extents cells low blocks plan lawful is rules are e c few h = record {
  count = h.count;
  spans = λ block list at. record { ascending = (h.spans block list at).0; cells = λ cell. (h.spans block list at).1 cell ∙ same-cells extents (low +ℤ pos block) _ (list_of w block) cell (list-is p k w block are) };
  disjoint = λ block other one two cell ne at at' x y.
      apart-blocks p k len low blocks block other cell (set-free p n k lawful is rules).spans_are_disjoint few (below block one at) (below other two at') ne (own block one at cell x) (own other two at' cell y);
  within = λ block list cell at x. subst (λ m. cell < m) (sym c) (cell-within p len (low +ℤ pos block) (may_write p k (part_of k block)) cell (own block list at cell x));
}
  where
    below : (block : ℕ) (list : List Span) → slice_get plan block ≡ Some list → block < blocks
    below block list at = let l = index-within plan block list at in omega (arith, l, h.count)

    own : (block : ℕ) (list : List Span) → slice_get plan block ≡ Some list → (cell : ℕ) → in_spans list cell ≡ true → cells_at (extents_of p len) (low +ℤ pos block) (may_write p k (part_of k block)) cell ≡ true
    own block list at cell x =
        subst (λ g. cells_at g (low +ℤ pos block) (may_write p k (part_of k block)) cell ≡ true) e
        (sym ((h.spans block list at).1 cell ∙ same-cells extents (low +ℤ pos block) _ (list_of w block) cell (list-is p k w block are)) ∙ x)

-- what is kept of a construct, as the code finds it
got-is : (xs : List Writes) (n : ℕ) (w v : Writes) → slice_get xs n ≡ Some w → ((d : Writes) → v ≡ slice_index_or xs n d) → w ≡ v
got-is [] n w v e f = cc
got-is (x ∷ xs) zero w v e f = let g = f x in cc
got-is (x ∷ xs) (suc n) w v e f = got-is xs n w v e f

pub kept-writes : (p : Program) (writes : List Writes) (n : ℕ) (k : Construct) (v : Writes) → IsKept p writes → slice_get (constructs_in p.main) n ≡ Some k → ((d : Writes) → v ≡ slice_index_or writes n d) → AreWritesOf p k v
kept-writes p writes n k v kept is at =
    let w = kept.writes_are n k (index-within (constructs_in p.main) n k is) is in
    subst (AreWritesOf p k) (got-is writes n w.0 v w.1 at) w.2

pub same-construct : (j k : Construct) → Some j ≡ Some k → j ≡ k
same-construct j k e = cc

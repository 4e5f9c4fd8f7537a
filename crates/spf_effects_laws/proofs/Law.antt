-- Each part keeps to its effects.
use Rattle.std.proofs.Common.{◌≡◌, inl, inr, ℕ, ◌+◌, ◌<◌, ◌≤◌, true, List, [], ◌∷◌, length, ℤ, pos, refl, arith}
use Rattle.std.specs.Prelude.{◌-ℤ◌, nat_le, nat_lt}
use Rattle.std.proofs.lemmas.Int.{ints}
use Rattle.spf_ast.specs.Carried.{Carried}
use Rattle.spf_ast.specs.Interaction.{Ending, Value, Trapped}
use Rattle.spf_ast.specs.Meaning.{extent_in}
use Rattle.spf_ast.specs.Program.{extents_of}
use Rattle.spf_region.specs.declared.range.Range.{Range}
use Rattle.spf_region.specs.declared.range.Range.TheVariants.{Whole, Affine}
use Rattle.spf_region.specs.Ranges.{array_of}
use Rattle.spf_region.specs.Cells.{Extent, at_block, in_extent, is_cell, cells_at}
use Rattle.spf_region.proofs.Bools.{both-true, or-left, or-right, int-le-of}
use Rattle.spf_effects_findings.specs.Found.{Found, nowhere}
use Rattle.spf_effects_findings.specs.Parts.{part_finds}
use Rattle.spf_ast.specs.BlockRun.{part_asks}
use Rattle.spf_effects_laws.specs.Keeping as keeping
use Rattle.spf_effects_laws.proofs.Ways.{Grows, keeps-mono}
use Rattle.spf_effects_laws.proofs.Meeting.{IsElement, IsCellOf, IsAmong, EndsWith}
use Rattle.spf_effects_laws.proofs.Sweeps.{stored-nothing}
use Rattle.spf_effects_laws.proofs.Parts.{AnyEnd, stands, asks-meets}

-- ---- cells of ranges, by a test

in-its-extent : (e : Extent) (cell index : ℕ) → IsElement e cell index → in_extent e cell ≡ true
in-its-extent e cell index el =
    let above : e.0 ≤ cell = omega (arith, el.is) in
    let below : cell < e.0 + e.1 = omega (arith, el.is, el.inside) in
    let first : nat_le e.0 cell ≡ true = grind (arith, above) in
    let second : nat_lt cell (e.0 + e.1) ≡ true = grind (arith, below) in
    both-true _ _ first second

-- how far a cell is after the first one of its array
its-index : (e : Extent) (cell index : ℕ) → IsElement e cell index → pos cell -ℤ pos e.0 ≡ pos index
its-index e cell index el = omega (arith, ints, el.is)

cell-at : (g : List Extent) (k : ℤ) (r : Range) (cell : ℕ) → IsCellOf g k r cell → is_cell (extent_in g (array_of r)) k r cell ≡ true
cell-at g k (Whole a) cell h = in-its-extent (extent_in g a) cell h.0 h.1
cell-at g k (Affine a f from to) cell h =
    let same = its-index (extent_in g a) cell h.0 h.1 in
    both-true _ _ (in-its-extent (extent_in g a) cell h.0 h.1)
    (both-true _ _ (int-le-of (at_block k f from) (pos cell -ℤ pos (extent_in g a).0) (rw same h.2)) (int-le-of (pos cell -ℤ pos (extent_in g a).0) (at_block k f to) (rw same h.3)))

cells-at : (g : List Extent) (k : ℤ) (list : List Range) (cell : ℕ) → IsAmong g k list cell → cells_at g k list cell ≡ true
cells-at g k [] cell h = absurd h
cells-at g k (r ∷ rest) cell (inl h) = or-left _ _ (cell-at g k r cell h)
cells-at g k (r ∷ rest) cell (inr h) = or-right (is_cell (extent_in g (array_of r)) k r cell) _ (cells-at g k rest cell h)

-- ---- the law

pub keeps-to-its-effects : keeping.PartsKeepToTheirEffects
keeps-to-its-effects p n construct part s lawful e setup =
    let g : List Extent = extents_of p (length s.input) in
    let k : ℤ = s.number in
    let found : Found = part_finds p construct part nowhere in
    let met = asks-meets p construct part s (lawful.scoped) setup (stands p construct n (lawful.scoped) e) in
    keeps-mono (IsAmong g k found.may) (IsAmong g k found.uncovered) (keeping.IsAmong p s found.may) (keeping.IsAmong p s found.uncovered) (EndsWith g k found.written AnyEnd) (keeping.HasStored p construct part s) []
    (cells-at g k found.may) (cells-at g k found.uncovered) ending (part_asks p construct part s) [] (λ c h. h)
    (met.holds nowhere [] (stored-nothing g k []))
  where
    ending : (a : Ending Carried) (d : List ℕ) → Grows [] d → EndsWith (extents_of p (length s.input)) s.number (part_finds p construct part nowhere).written AnyEnd a d → keeping.HasStored p construct part s a d
    ending (Value z state) d grows h = λ array index factor offset written at below. h.0 array factor offset ((extent_in (extents_of p (length s.input)) array).0 + index) index written (record { inside = below; is = refl }) at
    ending (Trapped trap output) d grows h = tt

-- The arrays of a program lie within its cells.
use Rattle.std.proofs.Common.{◌≡◌, ℕ, zero, suc, ◌+◌, ◌≤◌, List, [], ◌∷◌, arith}
use Rattle.std.specs.Prelude.{Bool, true, false, ◌==◌, if◌then◌else◌}
use Rattle.spf_ast.specs.Meaning.{Extent, extent_in}
use Rattle.spf_ast.specs.Syntax.{Program}
use Rattle.spf_ast.specs.Program.{size_of, sizes, extents_from, cell_count_of, max_cells_in, most_cells}
use Rattle.spf_exec_instance.specs.Layout.{LayoutValue, IsLayoutOf}
use Rattle.spf_exec_memory.specs.Performs.{AreWithin}

-- each array lies within the cells of all
each_within : (len base : ℕ) (arrays : List _) (i : ℕ) → (extent_in (extents_from len base arrays) i).0 + (extent_in (extents_from len base arrays) i).1 ≤ base + sizes len arrays
each_within len base [] i = omega arith
each_within len base (a ∷ rest) zero = omega arith
each_within len base (a ∷ rest) (suc i) = let r = each_within len (base + size_of len a) rest i in omega (arith, r)

are_within : (len : ℕ) (arrays : List _) → sizes len arrays ≤ most_cells → AreWithin (extents_from len 0 arrays) (sizes len arrays)
are_within len arrays few = record { each = λ i. omega (arith, each_within len 0 arrays i); few = few }

-- no version allows more cells than the most
few_cells : (version : ℕ) → max_cells_in version ≤ most_cells
few_cells version = go (version == 2)
  where
    go : (b : Bool) → (if b then 16777216 else 4194304) ≤ most_cells
    go true = omega arith
    go false = omega arith

-- the extents of a layout lie within the cells of the program
pub layout_within : (p : Program) (len : ℕ) (l : LayoutValue) (extents : List Extent) → IsLayoutOf p len l → extents ≡ l.extents → AreWithin extents (cell_count_of p len)
layout_within p len l extents is e = rw (e, is.extents) (are_within len p.arrays (let few = is.few in let most = few_cells p.version in omega (arith, few, most)))

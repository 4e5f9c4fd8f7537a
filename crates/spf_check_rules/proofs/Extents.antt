-- The arrays of a program lie apart.
use Rattle.std.proofs.Common.{◌≡◌, ◌≢◌, ℕ, zero, suc, ◌+◌, ◌<◌, ◌≤◌, true, List, [], ◌∷◌, refl, arith}
use Rattle.std.specs.Prelude.{nat_le, nat_lt}
use Rattle.spf_ast.specs.Syntax.{Array, Program}
use Rattle.spf_ast.specs.Program.{size_of, extents_from, extents_of}
use Rattle.spf_region.specs.Cells.{Extent, in_extent}
use Rattle.spf_region.specs.Laws.{LieApart}
use Rattle.spf_region.proofs.Bools.{and-left, and-right}
use Rattle.spf_check_rules.proofs.Cells.{extent}

pub within : (e : Extent) (cell : ℕ) → in_extent e cell ≡ true → (e.0 ≤ cell) × (cell < e.0 + e.1)
within e cell h =
    let a : nat_le e.0 cell ≡ true = and-left _ _ h in
    let b : nat_lt cell (e.0 + e.1) ≡ true = and-right (nat_le e.0 cell) _ h in
    (grind (arith, a), grind (arith, b))

begins : (len base : ℕ) (arrays : List Array) (i cell : ℕ) → in_extent (extent (extents_from len base arrays) i) cell ≡ true → base ≤ cell
begins len base [] i cell h = let p = within (0, 0) cell h in omega (arith, p.0, p.1)
begins len base (x ∷ rest) zero cell h = (within (base, size_of len x) cell h).0
begins len base (x ∷ rest) (suc i) cell h = let p = begins len (base + size_of len x) rest i cell h in omega (arith, p)

apart : (len base : ℕ) (arrays : List Array) (a b cell : ℕ) → a ≢ b → in_extent (extent (extents_from len base arrays) a) cell ≡ true → in_extent (extent (extents_from len base arrays) b) cell ≡ true → ⊥
apart len base [] a b cell ne h k = let p = within (0, 0) cell h in omega (arith, p.0, p.1)
apart len base (x ∷ rest) zero zero cell ne h k = ne refl
apart len base (x ∷ rest) zero (suc b) cell ne h k =
    let p = (within (base, size_of len x) cell h).1 in let q = begins len (base + size_of len x) rest b cell k in omega (arith, p, q)
apart len base (x ∷ rest) (suc a) zero cell ne h k =
    let p = (within (base, size_of len x) cell k).1 in let q = begins len (base + size_of len x) rest a cell h in omega (arith, p, q)
apart len base (x ∷ rest) (suc a) (suc b) cell ne h k =
    apart len (base + size_of len x) rest a b cell (λ e. ne (omega (arith, e))) h k

pub lie-apart : (p : Program) (len : ℕ) → LieApart (extents_of p len)
lie-apart p len a b cell ne h k = apart len 0 p.arrays a b cell ne h k

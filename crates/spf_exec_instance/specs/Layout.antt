-- Where the arrays of a program lie.
use Rattle.std.specs.Prelude.{◌≡◌, ℕ, ◌≤◌, List}
use Rattle.spf_ast.specs.Syntax.{Program}
use Rattle.spf_ast.specs.Program.{extents_of, cell_count_of, max_cells}

-- the first cell and the number of elements of each array, and the number of cells of all
pub record LayoutValue : Type 0 where
  pub extents : List (ℕ × ℕ)
  pub cells : ℕ

-- the layout is that of the program for an input of this length, and its cells are not too many
pub record IsLayoutOf (p : Program) (len : ℕ) (l : LayoutValue) : Type 0 where
  pub extents : l.extents ≡ extents_of p len
  pub cells : l.cells ≡ cell_count_of p len
  pub few : cell_count_of p len ≤ max_cells p

-- Words that are copied from one memory to another.
use Rattle.std.specs.Prelude.{◌≡◌, ℕ, Bool, if◌then◌else◌, List, length, slice_get, Some, ℤ}
use Rattle.std.specs.List.{list_any}
use Rattle.spf_ast.specs.Event.{word_at}
use Rattle.spf_region.specs.declared.span.Span.{Span}
use Rattle.spf_region.specs.Cells.{in_spans}
use Rattle.spf_speculation_entry.specs.Entry.{Entry, own}

-- a cell of one of the blocks of a plan
abbrev pub in_plan : List (List Span) → ℕ → Bool
in_plan blocks cell = list_any (λ spans. in_spans spans cell) blocks

-- these cells got the words of another memory; all others keep theirs
abbrev pub IsCopied : (ℕ → Bool) → List ℤ → List ℤ → List ℤ → Type 0
IsCopied cells from before after = (cell : ℕ) → word_at after cell ≡ (if cells cell then word_at from cell else word_at before cell)

-- the spans of a plan are the cells of the entry's blocks, block by block
pub record HasOwnSpans (e : Entry) (blocks : List (List Span)) : Type 0 where
  pub count : length blocks ≡ e.header.blocks
  pub spans : (n : ℕ) (spans : List Span) (cell : ℕ) → slice_get blocks n ≡ Some spans → in_spans spans cell ≡ own e n cell

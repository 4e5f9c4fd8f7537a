-- Segments of words: which word a cell of a lane has.
use Rattle.std.specs.Prelude.{◌≡◌, ℕ, ◌+◌, ◌-◌, ◌<◌, ◌≤◌, List, length, take}
use Rattle.std.specs.List.{Contains}
use Rattle.std.specs.List.Sorted.{IsNonDecreasingBy}
use mathlib.Core.Option.{some}
use lib.ListN.{get_elem?}
use Rattle.spf_cells.specs.declared.view.Setting.{Setting}
use Rattle.spf_cells.specs.declared.segment.Segment.{Segment}
use Rattle.spf_cells.specs.Spans.{cells_of_plan}

-- the word of the first cell of block b
abbrev pub first_word : Setting → ℕ → ℕ
first_word k b = length k.plan + length (cells_of_plan (take b k.plan))

-- no cell is twice in the list
abbrev pub HasNoCellTwice : List ℕ → Type 0
HasNoCellTwice cells = (i j c : ℕ) → get_elem? cells i ≡ some c → get_elem? cells j ≡ some c → i ≡ j

-- the cell is in the segment's span, and has this word
abbrev pub Holds : Segment → ℕ → ℕ → Type 0
Holds s cell word = (s.span.from ≤ cell) × (cell < s.span.to) × (word ≡ s.word + (cell - s.span.from))

-- a segment is one of these, unless it holds no cell
abbrev pub IsOneOf : Segment → List Segment → Type 0
IsOneOf first ss = first.span.from < first.span.to → Contains ss first

-- the segments hold these cells and no others, each in the word that is as far after `first` as the cell's index in the list
pub record AreSegmentsOf (ss : List Segment) (cells : List ℕ) (first : ℕ) : Type 0 where
  pub laid : (s : Segment) (cell word : ℕ) → Contains ss s → Holds s cell word → (k : ℕ) × (word ≡ first + k) × (get_elem? cells k ≡ some cell)
  pub whole : (k cell : ℕ) → get_elem? cells k ≡ some cell → (s : Segment) × Contains ss s × (s.span.from ≤ cell) × (cell < s.span.to)

-- the segments can be searched: none is empty, two that hold the same cell are the same one, and they are in the order of their first cells
pub record IsSearchable (ss : List Segment) : Type 0 where
  pub filled : (s : Segment) → Contains ss s → s.span.from < s.span.to
  pub apart : (s t : Segment) (cell v w : ℕ) → Contains ss s → Contains ss t → Holds s cell v → Holds t cell w → s ≡ t
  pub sorted : IsNonDecreasingBy (λ s. s.span.from) ss

-- What `finish` leaves: the logs of all lanes, and the memory that their cells were written back to.
use Rattle.std.specs.Prelude.{◌≡◌, ℕ, ◌+◌, List, [], ◌∷◌, map, length, slice_get, slice_index_or, slice_set, Some, ℤ, pos}
use mathlib.Core.Option.{some}
use lib.ListN.{get_elem?}
use Rattle.spf_cells.specs.declared.view.Setting.{Setting}
use Rattle.spf_cells.specs.declared.view.TakenLane.{TakenLane}
use Rattle.spf_cells.specs.declared.view.LogEntry.{LogEntry}
use Rattle.spf_cells.specs.Log.{IsLogOf}
use Rattle.spf_cells.specs.Spans.{cells_of, cells_with_blocks, Covers}
use Rattle.spf_cells.specs.Values.{LaneValue, CellsValue, WardenValue, spans_of, content_at, IsLaneOf}

-- the memory with the content f of each of these cells written back
abbrev pub write_back : (ℕ → ℤ) → List ℕ → List ℤ → List ℤ
write_back f [] m = m
write_back f (c ∷ cs) m = write_back f cs (slice_set m c (f c))

-- the memory with the contents of each lane's cells written back
abbrev pub write_back_all : List LaneValue → List ℤ → List ℤ
write_back_all [] m = m
write_back_all (l ∷ ls) m = write_back_all ls (write_back (content_at l) (cells_of (spans_of l)) m)

-- what the warden has of a lane, once it took it over
abbrev pub taken_as : LaneValue → TakenLane
taken_as l = record { block = l.block; log = l.log }

-- the warden has taken over this lane
abbrev pub HasTaken : WardenValue → LaneValue → Type 0
HasTaken w l = (j : ℕ) × (get_elem? w.view.taken j ≡ some (taken_as l))

-- The table has one word for each block's flag, then one for each cell of each block, block by block. These cells of
-- block b have its words from n on.
abbrev pub HaveWordsFrom : Setting → ℕ → ℕ → List ℕ → Type 0
HaveWordsFrom k b n cs = (j c : ℕ) → get_elem? cs j ≡ some c → (i : ℕ) × (n + j ≡ length k.plan + i) × (get_elem? (cells_with_blocks k.plan) i ≡ some (b, c))

-- these are the cells' lanes, one for each block in order
abbrev pub AreAllLanes : CellsValue → List LaneValue → Type 0
AreAllLanes w ls = (length ls ≡ length w.setting.plan) × ((i : ℕ) (l : LaneValue) → get_elem? ls i ≡ some l → IsLaneOf w l × (l.block ≡ i))

-- what `finish` leaves of these cells and lanes: this trace, and the memory `before` with their cells written back, which is `after`
pub record IsFinish (cells : CellsValue) (lanes : List LaneValue) (trace : List (List LogEntry)) (before after : List ℤ) : Type 0 where
  -- the trace has the log of each lane, in the order of blocks
  pub logs : trace ≡ map (λ l. l.log) lanes
  -- each keeps what a lane's log keeps
  pub kept : (block : ℕ) (log : List LogEntry) → slice_get trace block ≡ Some log → IsLogOf cells.setting block log
  -- the memory is as long as before; a cell of a lane's spans has the lane's content, and every other cell stays
  pub size : length after ≡ length before
  pub own : (i c : ℕ) (l : LaneValue) → get_elem? lanes i ≡ some l → Covers (spans_of l) c → slice_index_or after c (pos 0) ≡ content_at l c
  pub others : (c : ℕ) → ((i : ℕ) (l : LaneValue) → get_elem? lanes i ≡ some l → ¬ Covers (spans_of l) c)
      → slice_index_or after c (pos 0) ≡ slice_index_or before c (pos 0)

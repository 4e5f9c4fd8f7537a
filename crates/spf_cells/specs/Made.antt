-- What `make` makes.
use Rattle.std.specs.Prelude.{ℕ, zero, suc, List, [], ◌∷◌, ◌++◌, map, length, replicate, ℤ}
use Rattle.spf_region.specs.declared.span.Span.{Span}
use Rattle.spf_region.specs.declared.span.Plan.{Plan}
use Rattle.spf_cells.specs.declared.view.Setting.{Setting}
use Rattle.spf_cells.specs.Spans.{cells_of_plan, entry_word}
use Rattle.spf_cells.specs.Values.{LaneValue, CellsValue, WardenValue}

-- the spans of each block of a plan
abbrev pub spans_in : Plan → List (List Span)
spans_in p = map (λ v. v.items) p.blocks.items

-- the setting of a plan, an entry, and the blocks that may be raised
abbrev pub setting : Plan → List ℤ → List ℕ → Setting
setting p entry raisable = record { plan = spans_in p; entry = entry; raisable = raisable }

-- the words of the table at the start: a flag of 0 for each block, and the word of each cell in the entry
abbrev pub first_words : List (List Span) → List ℤ → List ℕ
first_words plan entry = replicate (length plan) 0 ++ map (entry_word entry) (cells_of_plan plan)

-- a warden that has handed out `made` blocks: all flags are 0, and no lane was taken over
abbrev pub new_warden : CellsValue → ℕ → WardenValue
new_warden c made = record { table = c.table; setting = c.setting; view = record { made = made; flags = replicate (length c.setting.plan) 0; taken = [] } }

-- the lane of block b with an empty log
abbrev pub new_lane : CellsValue → ℕ → LaneValue
new_lane c b = record { table = c.table; setting = c.setting; block = b; log = [] }

-- n lanes with empty logs, of the blocks from b on
abbrev pub new_lanes : CellsValue → ℕ → ℕ → List LaneValue
new_lanes c b zero = []
new_lanes c b (suc n) = new_lane c b ∷ new_lanes c (suc b) n

-- The rule of the table, and what each step on it tells. Word b of the table is the flag of block b; after the flags come the words of the
-- plan's cells, in the order of `cells_with_blocks`.
use Rattle.std.specs.Prelude.{◌≡◌, ℕ, ◌+◌, ◌-◌, ◌<◌, ◌≤◌, List, [], ◌∷◌, ◌++◌, length, slice_index, slice_index_or, slice_set, max, replicate}
use Rattle.std.specs.Int.{cast_signed}
use mir.Syntax.{w64}
use mathlib.Core.Option.{some}
use lib.ListN.{get_elem?}
use Rattle.atomic_table.specs.Table.{State, Me, Step}
use Rattle.spf_cells.specs.declared.view.WardenView.{WardenView}
use Rattle.spf_cells.specs.declared.view.Setting.{Setting}
use Rattle.spf_cells.specs.declared.view.LogEntry.{LogEntry}
use Rattle.spf_cells.specs.declared.view.LogEntry.TheVariants.{Load, Store, Turn}
use Rattle.spf_cells.specs.declared.view.TakenLane.{TakenLane}
use Rattle.spf_cells.specs.declared.view.Role.{Role}
use Rattle.spf_cells.specs.declared.view.Role.TheVariants.{Spent, Lane, Warden}
use Rattle.spf_cells.specs.declared.view.View.{View}
use Rattle.spf_cells.specs.Log.{content, IsPossibleFlag}
use Rattle.spf_cells.specs.Spans.{cells_with_blocks, IsDisjointWithin}

-- how many blocks there are
abbrev pub blocks : Setting → ℕ
blocks k = length k.plan

-- the view of a seat with this role
abbrev pub view_of : Setting → Role → View
view_of k r = record { setting = k; role = r }

-- the view of the lane of block b, with its log
abbrev pub lane_view : Setting → ℕ → List LogEntry → View
lane_view k b log = view_of k (Lane b log)

-- each lane of the list was taken over by the seat j, with the whole log of its block
abbrev pub OwnsTaken : (ℕ → List LogEntry) → (ℕ → ℕ) → ℕ → List TakenLane → Type 0
OwnsTaken logs owner j taken = (i : ℕ) (t : TakenLane) → get_elem? taken i ≡ some t → (owner t.block ≡ j) × (logs t.block ≡ t.log)

-- no two lanes of the list are of one block
abbrev pub HasNoBlockTwice : List TakenLane → Type 0
HasNoBlockTwice taken = (i j : ℕ) (t u : TakenLane) → get_elem? taken i ≡ some t → get_elem? taken j ≡ some u → t.block ≡ u.block → i ≡ j

-- what the view of the warden, at the seat j, says holds
pub record IsWardenAt (n : ℕ) (words : List ℕ) (logs : ℕ → List LogEntry) (owner : ℕ → ℕ) (warden j : ℕ) (p : WardenView) : Type 0 where
  -- it is the one warden
  pub one : warden ≡ j
  -- it knows all flags
  pub count : length p.flags ≡ n
  pub flags : (b : ℕ) → b < n → slice_index words b ≡ slice_index p.flags b
  -- each lane that it took over is now its own, and none is there twice
  pub taken : OwnsTaken logs owner j p.taken
  pub once : HasNoBlockTwice p.taken
  -- each of them was handed out
  pub handed_out : (i : ℕ) (t : TakenLane) → get_elem? p.taken i ≡ some t → t.block < p.made
  -- each block that was not handed out is its own, with an empty log
  pub kept : (b : ℕ) → p.made ≤ b → (owner b ≡ j) × (logs b ≡ [])

-- what the view of the seat j says holds. A spent view says nothing. A lane has a block of the plan, which is its own,
-- and its log is that block's.
abbrev pub Knows : ℕ → List ℕ → (ℕ → List LogEntry) → (ℕ → ℕ) → ℕ → ℕ → Role → Type 0
Knows n words logs owner warden j Spent = Unit {0}
Knows n words logs owner warden j (Lane b log) = (b < n) × (owner b ≡ j) × (logs b ≡ log)
Knows n words logs owner warden j (Warden p) = IsWardenAt n words logs owner warden j p

-- a view that is not spent has the setting k
abbrev pub HasSetting : Setting → Setting → Role → Type 0
HasSetting k z Spent = Unit {0}
HasSetting k z (Lane b log) = z ≡ k
HasSetting k z (Warden p) = z ≡ k

-- the rule, which holds at every moment
pub record IsConsistentTable (k : Setting) (s : State ℕ View) : Type 0 where
  -- each block has one log
  pub logs : ℕ → List LogEntry
  -- each block is one seat's, so no two seats have the same block
  pub owner : ℕ → ℕ
  -- one seat is the warden
  pub warden : ℕ
  -- the spans are disjoint and inside the entry
  pub apart : IsDisjointWithin k.plan (length k.entry)
  -- there is one word for each block and one for each cell
  pub wide : length s.words ≡ blocks k + length (cells_with_blocks k.plan)
  -- the word of each cell is its content after the log of its block
  pub cells : (i : ℕ) (p : ℕ × ℕ) → get_elem? (cells_with_blocks k.plan) i ≡ some p
      → cast_signed w64 (slice_index s.words (blocks k + i)) ≡ content k (logs p.0) p.1
  -- each flag is 0 or 1, and above 0 only for a block that may be raised
  pub flags : (b : ℕ) → b < blocks k → IsPossibleFlag k b (slice_index s.words b)
  -- all views that are not spent have one setting
  pub settings : (j : ℕ) (v : View) → get_elem? s.views j ≡ some v → HasSetting k v.setting v.role
  -- what each view says holds
  pub seats : (j : ℕ) (v : View) → get_elem? s.views j ≡ some v → Knows (blocks k) s.words logs owner warden j v.role

-- the view at the start: the warden has all blocks, and all flags are 0
abbrev pub first : Setting → View
first k = view_of k (Warden record { made = 0; flags = replicate (blocks k) 0; taken = [] })

-- the cell whose content a word has
abbrev pub cell_of_word : Setting → ℕ → ℕ
cell_of_word k word = (slice_index_or (cells_with_blocks k.plan) (word - blocks k) (0, 0)).1

-- the log of a lane
abbrev pub log_of : Role → List LogEntry
log_of (Lane b log) = log
log_of Spent = []
log_of (Warden p) = []

-- the lane with one more entry in its log
abbrev pub role_logging : Role → LogEntry → Role
role_logging (Lane b log) e = Lane b (log ++ e ∷ [])
role_logging Spent e = Spent
role_logging (Warden p) e = Warden p

-- the step adds one entry to the seat's log
abbrev pub Logs : Me ℕ View → LogEntry → Me ℕ View → Type 0
Logs m e m' = m' ≡ (view_of m.0.setting (role_logging m.0.role e), m.1)

-- a lane's load of a cell: it finds the lane's own content, and logs it
abbrev pub IsLoad : Step ℕ → Me ℕ View → ℕ → Me ℕ View → Type 0
IsLoad st m n m' = Logs m (Load (cell_of_word m.0.setting st.word) (cast_signed w64 n)) m'
    × (cast_signed w64 n ≡ content m.0.setting (log_of m.0.role) (cell_of_word m.0.setting st.word))

-- a lane's store to a cell: it is logged
abbrev pub IsStore : Step ℕ → Me ℕ View → ℕ → Me ℕ View → Type 0
IsStore st m n m' = Logs m (Store (cell_of_word m.0.setting st.word) (cast_signed w64 n)) m'

-- a lane's load of a flag: it finds a possible flag, and logs it as a turn
abbrev pub IsPoll : Step ℕ → Me ℕ View → ℕ → Me ℕ View → Type 0
IsPoll st m n m' = Logs m (Turn n) m' × IsPossibleFlag m.0.setting st.word n

-- the lanes that the warden has taken over
abbrev pub taken_of : Role → List TakenLane
taken_of (Warden p) = p.taken
taken_of Spent = []
taken_of (Lane b log) = []

-- the warden with the flag of block b raised to x, if it was below
abbrev pub with_flag : Role → ℕ → ℕ → Role
with_flag (Warden p) b x = Warden (record p { flags = slice_set p.flags b (max (slice_index p.flags b) x) })
with_flag Spent b x = Spent
with_flag (Lane c log) b x = Lane c log

-- the warden's step on a flag: that flag may rise; the warden learns that it has no block twice
abbrev pub IsRaise : Step ℕ → Me ℕ View → ℕ → Me ℕ View → Type 0
IsRaise st m n m' = (m' ≡ (view_of m.0.setting (with_flag m.0.role st.word st.first), m.1)) × HasNoBlockTwice (taken_of m.0.role)

-- the warden's load of a cell of a lane that it has taken over: it finds that lane's content, and nothing changes
abbrev pub IsReadBack : Step ℕ → Me ℕ View → ℕ → Me ℕ View → Type 0
IsReadBack st m n m' = (m' ≡ m)
    × ((i c j : ℕ) (t : TakenLane) → st.word ≡ blocks m.0.setting + i → get_elem? (taken_of m.0.role) j ≡ some t
    → get_elem? (cells_with_blocks m.0.setting.plan) i ≡ some (t.block, c) → cast_signed w64 n ≡ content m.0.setting t.log c)

-- the warden, once it has handed out one more block
abbrev pub role_after_hand_out : Role → Role
role_after_hand_out (Warden p) = Warden (record p { made = p.made + 1 })
role_after_hand_out Spent = Spent
role_after_hand_out (Lane c log) = Lane c log

-- the lane of the block that the warden hands out next
abbrev pub role_handed_out : Role → Role
role_handed_out (Warden p) = Lane p.made []
role_handed_out Spent = Spent
role_handed_out (Lane c log) = Spent

-- the warden's view, once it has handed out one more block
abbrev pub after_hand_out : View → View
after_hand_out v = view_of v.setting (role_after_hand_out v.role)

-- the view of the lane that the warden hands out next
abbrev pub handed_out : View → View
handed_out v = view_of v.setting (role_handed_out v.role)

-- the warden, once it has taken over a lane
abbrev pub role_after_take_over : Role → Role → Role
role_after_take_over (Warden p) (Lane b log) = Warden (record p { taken = p.taken ++ record { block = b; log = log } ∷ [] })
role_after_take_over (Warden p) Spent = Warden p
role_after_take_over (Warden p) (Warden q) = Warden p
role_after_take_over Spent w = Spent
role_after_take_over (Lane b log) w = Lane b log

-- the warden's view, once it has taken over a lane
abbrev pub after_take_over : View → View → View
after_take_over v w = view_of v.setting (role_after_take_over v.role w.role)

-- the view that is left of a lane that was taken over
abbrev pub spent_view : View
spent_view = view_of record { plan = []; entry = []; raisable = [] } Spent

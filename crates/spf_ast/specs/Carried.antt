-- The row that a construct carries from block to block: one to four words, one for each of its carried names.
use Rattle.std.specs.Prelude.{◌≡◌, ◌≤◌, ℕ, Bool, true, false, ◌&&◌, List, [], ◌∷◌, length, drop, replicate, ℤ, pos, slice_index_or, slice_set}
use Rattle.std.specs.Ordering.{int_eq}

-- a carried row
abbrev pub Carried : Type 0
Carried = List ℤ

-- the row of `width` zeros, with which a producer starts
abbrev pub no_row : ℕ → Carried
no_row width = replicate width (pos 0)

-- whether two rows are equal: as long as each other, and equal in each part
abbrev pub same_carried : Carried → Carried → Bool
same_carried [] [] = true
same_carried (a ∷ one) (b ∷ other) = int_eq a b && same_carried one other
same_carried _ _ = false

-- the slots after the words of a row were put into slots, in order; where the row has no word for a slot, the slot gets 0
abbrev pub with_carried : List ℕ → Carried → List ℤ → List ℤ
with_carried [] row slots = slots
with_carried (slot ∷ others) row slots = with_carried others (drop 1 row) (slice_set slots slot (slice_index_or row 0 (pos 0)))

-- the width of a construct: how many words its rows have
abbrev pub IsWidth : ℕ → Type 0
IsWidth width = (1 ≤ width) × (width ≤ 4)

-- a row has this width
abbrev pub HasWidth : ℕ → Carried → Type 0
HasWidth width row = length row ≡ width

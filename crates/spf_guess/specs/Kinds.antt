-- What each kind of predictor answers: a function of all pairs that it was told, the oldest first.
use Rattle.std.specs.Prelude.{ℕ, Bool, not, ◌-◌, ◌^◌, ◌&&◌, ◌||◌, min, nat_lt, nat_eq, if◌then◌else◌, List, [], ◌∷◌, map, take, None, unwrap_or, ℤ, pos, int_lt}
use Rattle.std.specs.List.{filter, list_any, count_by, reduce, last_or}
use Rattle.std.specs.Ordering.{int_eq}
use Rattle.spf_guess_statistics.specs.Guess.{Told}

-- the block numbers that were told
abbrev pub blocks_told : List Told → List ℤ
blocks_told pairs = map (λ told. told.block) pairs

-- the real values that were told
abbrev pub reals_told : List Told → List ℤ
reals_told pairs = map (λ told. told.real) pairs

-- the last of these values, or 0 where there is none
abbrev pub last_of : List ℤ → ℤ
last_of values = unwrap_or (last_or None values) (pos 0)

-- ---- the last value

-- the real value that was told last, whatever its block
abbrev pub last_answer : List Told → ℤ
last_answer pairs = last_of (reals_told pairs)

-- ---- what is kept

-- the different numbers of a list, each where it first stands
abbrev pub distinct : List ℤ → List ℤ
distinct [] = []
distinct (x ∷ xs) = x ∷ filter (λ y. not (int_eq x y)) (distinct xs)

-- those that are kept: the first `room` different ones
abbrev pub kept : ℕ → List ℤ → List ℤ
kept room xs = take room (distinct xs)

-- whether a number is kept
abbrev pub is_kept : ℕ → List ℤ → ℤ → Bool
is_kept room xs x = list_any (int_eq x) (kept room xs)

-- ---- the value told most often

-- how often a value is counted: as often as it was told, and no more than 2^64 - 1 times
abbrev pub counted : List ℤ → ℤ → ℕ
counted values value = min (count_by (int_eq value) values) (2 ^ 64 - 1)

-- whether a value with this count is preferred to another one: it is counted more often, or as often and is smaller
abbrev pub is_preferred : ℤ → ℕ → ℤ → ℕ → Bool
is_preferred value count other count_of_other = nat_lt count_of_other count || (nat_eq count_of_other count && int_lt value other)

-- of two values the preferred one
abbrev pub preferred : (ℤ → ℕ) → ℤ → ℤ → ℤ
preferred count one other = if is_preferred other (count other) one (count one) then other else one

-- the kept value that was told most often, the smallest of several, or 0 where none is kept
abbrev pub most_answer : ℕ → List Told → ℤ
most_answer room pairs = unwrap_or (reduce (preferred (counted (reals_told pairs))) (kept room (reals_told pairs))) (pos 0)

-- ---- a table by block numbers

-- the pairs of a block
abbrev pub of_block : ℤ → List Told → List Told
of_block block pairs = filter (λ told. int_eq block told.block) pairs

-- the real value that was told last for this block, where it is kept, or 0
abbrev pub table_answer : ℕ → List Told → ℤ → ℤ
table_answer room pairs block = if is_kept room (blocks_told pairs) block then last_of (reals_told (of_block block pairs)) else pos 0

-- ---- votes by block numbers

-- of the real values that were told for this block the kept one that was told most often, where the block is kept, or 0
abbrev pub vote_answer : (room each : ℕ) → List Told → ℤ → ℤ
vote_answer room each pairs block = if is_kept room (blocks_told pairs) block then most_answer each (of_block block pairs) else pos 0

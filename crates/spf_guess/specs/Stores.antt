-- How what a predictor keeps changes when it is told a pair.
use Rattle.std.specs.Prelude.{◌≡◌, ℕ, Bool, ◌+◌, ◌-◌, ◌^◌, ◌||◌, min, nat_lt, if◌then◌else◌, Option, Some, None, is_some, unwrap_or, ◌∷◌, ℤ}
use Rattle.std.specs.Ordering.{int_eq}
use Rattle.std.specs.Map.{update}
use Rattle.std.specs.HashMap.{get, hash_map_len}
use Rattle.spf_guess_statistics.specs.Guess.{Told}
use Rattle.spf_guess.specs.Answers.{Answers}
use Rattle.spf_guess.specs.Kinds.{is_preferred, most_answer}
use Rattle.spf_guess.specs.declared.store.Store.{Store}

-- a store: its room, how many keys it has, and the value under each
pub record Stored (V : Type 0) : Type 0 where
  pub room : ℕ
  pub count : ℕ
  pub value : ℤ → Option V

module _ {V : Type 0} where
  -- what a store keeps
  abbrev pub stored_of : Store V → Stored V
  stored_of store = record { room = store.room; count = hash_map_len store.values; value = get int_eq store.values }

  -- two stores keep the same
  pub record KeepsAlike (one other : Stored V) : Type 0 where
    pub room : other.room ≡ one.room
    pub count : other.count ≡ one.count
    pub values : (key : ℤ) → other.value key ≡ one.value key

  -- a store with this room that keeps nothing
  abbrev pub IsEmptyStore : ℕ → Stored V → Type 0
  IsEmptyStore room store = (store.room ≡ room) × (store.count ≡ 0) × ((key : ℤ) → store.value key ≡ None)

  -- whether a value under this key is kept
  abbrev pub takes : Stored V → ℤ → Bool
  takes store key = is_some (store.value key) || nat_lt store.count store.room

  -- the store after this value came under this key
  abbrev pub put_into : Stored V → ℤ → V → Stored V
  put_into store key value =
      if takes store key then record {
        room = store.room;
        count = if is_some (store.value key) then store.count else store.count + 1;
        value = update int_eq store.value key (Some value);
      } else store

-- ---- a table

-- a table after it was told this pair
abbrev pub table_step : Stored ℤ → Told → Stored ℤ
table_step store told = put_into store told.block told.real

-- ---- the value told most often

-- the counts of values, and the value that is guessed, with its count
pub record Counts : Type 0 where
  pub stored : Stored ℕ
  pub best : ℤ
  pub best_count : ℕ

-- the count of a value after one more
abbrev pub one_more : Stored ℕ → ℤ → ℕ
one_more store value = min (unwrap_or (store.value value) 0 + 1) (2 ^ 64 - 1)

-- the counts after a value came, which has this count now
abbrev pub count_as : Counts → ℤ → ℕ → Counts
count_as counts value count =
    if takes counts.stored value then record {
      stored = put_into counts.stored value count;
      best = if is_preferred value count counts.best counts.best_count then value else counts.best;
      best_count = if is_preferred value count counts.best counts.best_count then count else counts.best_count;
    } else counts

-- the counts after this pair was told
abbrev pub most_step : Counts → Told → Counts
most_step counts told = count_as counts told.real (one_more counts.stored told.real)

-- ---- votes by block numbers: for each block a predictor of its own

-- what the predictor of a block answers before it was told anything
abbrev pub untold : ℕ → Answers
untold each pairs block = most_answer each pairs

-- what a predictor answers after it was told this pair
abbrev pub once_told : Answers → Told → Answers
once_told answers told pairs block = answers (told ∷ pairs) block

-- what the predictors of the blocks answer after this pair was told
abbrev pub vote_step : ℕ → Stored Answers → Told → Stored Answers
vote_step each store told = put_into store told.block (once_told (unwrap_or (store.value told.block) (untold each)) told)

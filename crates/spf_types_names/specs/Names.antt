-- Lists of names.
use Rattle.std.specs.Prelude.{ℕ, ◌+◌, Bool, false, ◌||◌, if◌then◌else◌, List, [], ◌∷◌, Option, Some, None}
use Rattle.std.specs.Option.{option_map}
use Rattle.std.specs.Str.{bytes_eq}

-- whether these names have this one
abbrev pub has : List (List ℕ) → List ℕ → Bool
has [] x = false
has (y ∷ ys) x = bytes_eq y x || has ys x

-- the index of the first of these names that is this one
abbrev pub index_in : List (List ℕ) → List ℕ → Option ℕ
index_in [] x = None
index_in (y ∷ ys) x = if bytes_eq y x then Some 0 else option_map (λ n. n + 1) (index_in ys x)

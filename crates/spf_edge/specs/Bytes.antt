-- What a put adds to the bytes that a sink has taken, where it tells them.
use Rattle.std.specs.Prelude.{◌≡◌, ℕ, List, ◌++◌, Option, option_map}

-- the taken bytes with these at their end, and nothing told where nothing was
abbrev pub joined : Option (List ℕ) → List ℕ → Option (List ℕ)
joined taken bytes = option_map (λ before. before ++ bytes) taken

-- exactly these bytes were added, and whether the sink tells stays
abbrev pub Adds : Option (List ℕ) → Option (List ℕ) → List ℕ → Type 0
Adds old new bytes = new ≡ joined old bytes

-- bytes that these begin with were added, and whether the sink tells stays
pub record AddsPrefix (old new : Option (List ℕ)) (bytes : List ℕ) : Type 0 where
  pub front : List ℕ
  pub rest : List ℕ
  pub split : bytes ≡ front ++ rest
  pub added : Adds old new front

-- What a sink tells of its puts, and what a put adds to it.
use Rattle.std.specs.Prelude.{◌≡◌, ℕ, ◌≤◌, Bool, true, false, List, [], ◌∷◌, ◌++◌, length, map, Option, option_map, Result, Ok, Err}
use Rattle.spf_edge.specs.declared.sink.PutError.{PutError}
use Rattle.spf_edge.specs.declared.sink.PutError.TheVariants.{Failed, OutOfMemory}

-- a put: the piece that was supplied, and whether it was taken whole
pub record Put : Type 0 where
  pub piece : List ℕ
  pub whole : Bool

-- what a sink tells: the bytes that it has taken and the puts that it was given, and how often a put has failed
pub record SinkState : Type 0 where
  pub taken : Option (List ℕ)
  pub puts : Option (List Put)
  pub faults : ℕ

-- a put whose piece was taken whole, and one that failed
abbrev pub taken_whole : List ℕ → Put
taken_whole piece = record { piece = piece; whole = true }

abbrev pub not_taken : List ℕ → Put
not_taken piece = record { piece = piece; whole = false }

-- the put that is told after this answer; where there was no memory for the piece, there is none
abbrev pub put_of : List ℕ → Result (Unit {0}) PutError → List Put
put_of piece (Ok done) = taken_whole piece ∷ []
put_of piece (Err Failed) = not_taken piece ∷ []
put_of piece (Err OutOfMemory) = []

-- exactly these puts were added, and whether the sink tells stays
abbrev pub HasPut : Option (List Put) → Option (List Put) → List Put → Type 0
HasPut old new puts = new ≡ option_map (λ before. before ++ puts) old

-- these pieces were put in order, up to one that failed: nothing was put after it
pub record HasPutFirst (old new : Option (List Put)) (pieces : List (List ℕ)) : Type 0 where
  pub whole : List (List ℕ)
  pub failed : List (List ℕ)
  pub rest : List (List ℕ)
  pub split : pieces ≡ whole ++ (failed ++ rest)
  pub one : length failed ≤ 1
  pub put : HasPut old new (map taken_whole whole ++ map not_taken failed)

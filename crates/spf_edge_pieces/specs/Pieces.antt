-- How bytes are put on a sink: in pieces.
use Rattle.std.specs.Prelude.{◌≡◌, ⊤, ℕ, ◌<◌, ◌≤◌, List, [], ◌∷◌, ◌++◌, length, map, Result, OnOk}
use Rattle.std.specs.List.{concat}
use Rattle.spf_edge.specs.Bytes.{Adds, AddsPrefix}
use Rattle.spf_edge.specs.Puts.{SinkState, taken_whole, HasPut, HasPutFirst}
use Rattle.spf_edge.specs.declared.sink.PutError.{PutError}
use Rattle.spf_edge.specs.declared.sink.PutError.TheVariants.{Failed, OutOfMemory}

-- how many bytes of output are put at once
abbrev pub piece_size : ℕ
piece_size = 4096

-- pieces of this size, of which only the last may be shorter, and none is empty
abbrev pub ArePieces : ℕ → List (List ℕ) → Type 0
ArePieces size [] = ⊤
ArePieces size (piece ∷ []) = (0 < length piece) × (length piece ≤ size)
ArePieces size (piece ∷ next ∷ pieces) = (length piece ≡ size) × ArePieces size (next ∷ pieces)

-- bytes are put in these pieces
pub record AreCut (bytes : List ℕ) (pieces : List (List ℕ)) : Type 0 where
  pub all : concat pieces ≡ bytes
  pub sizes : ArePieces piece_size pieces

-- texts are put in these pieces, one after another, each in pieces of its own
abbrev pub AreCutEach : List (List ℕ) → List (List ℕ) → Type 0
AreCutEach [] pieces = pieces ≡ []
AreCutEach (text ∷ texts) pieces =
    (own : List (List ℕ)) × (others : List (List ℕ)) × (pieces ≡ own ++ others) × AreCut text own × AreCutEach texts others

-- these pieces were put on a sink, in order, and it took them whole
pub record AreTaken (pieces : List (List ℕ)) (before now : SinkState) : Type 0 where
  pub took : Adds before.taken now.taken (concat pieces)
  pub put : HasPut before.puts now.puts (map taken_whole pieces)

-- the first of these pieces were put on a sink, in order, up to one that failed; it took a prefix of them all
pub record AreTakenInPart (pieces : List (List ℕ)) (before now : SinkState) : Type 0 where
  pub took : AddsPrefix before.taken now.taken (concat pieces)
  pub put : HasPutFirst before.puts now.puts pieces

-- bytes were put in pieces, all of them where this is the result
pub record IsPutInPieces (bytes : List ℕ) (result : Result (Unit {0}) PutError) (before now : SinkState) : Type 0 where
  pub pieces : List (List ℕ)
  pub cut : AreCut bytes pieces
  pub part : AreTakenInPart pieces before now
  pub whole : OnOk result (AreTaken pieces before now)

-- a put failed only where a fault was met
abbrev pub IsPutFault : Type 0 → PutError → Type 0
IsPutFault Fault Failed = Fault
IsPutFault Fault OutOfMemory = Unit {0}

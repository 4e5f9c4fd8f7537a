-- Signatures of files, and the first offset at which a table goes wrong.
use Rattle.std.specs.Prelude.{◌≡◌, ◌≢◌, ℕ, ◌<◌, ◌≤◌, List, length, slice_get, slice_index}

-- the file has the text's bytes below this offset
abbrev pub AgreesBelow : ℕ → List ℕ → List ℕ → Type 0
AgreesBelow offset text file = (k : ℕ) → k < offset → slice_get file k ≡ slice_get text k

-- the file begins with the text
abbrev pub BeginsWith : List ℕ → List ℕ → Type 0
BeginsWith text file = AgreesBelow (length text) text file

-- the first offset at which the file doesn't go on with the text: another byte stands there, or the file ends
pub record DepartsAt (text file : List ℕ) (offset : ℕ) : Type 0 where
  pub inside : offset < length text
  pub before : AgreesBelow offset text file
  pub differs : slice_get file offset ≢ slice_get text offset

-- each of `count` bytes, the k-th of which stands at `at k`, is below the limit
abbrev pub AreBelow : (ℕ → ℕ) → ℕ → ℕ → List ℕ → Type 0
AreBelow at count limit file = (k : ℕ) → k < count → slice_index file (at k) < limit

-- the first of these bytes that isn't below the limit stands at this offset
pub record IsFirstPast (at : ℕ → ℕ) (count limit : ℕ) (file : List ℕ) (offset : ℕ) : Type 0 where
  pub index : ℕ
  pub inside : index < count
  pub before : AreBelow at index limit file
  pub past : limit ≤ slice_index file (at index)
  pub offset_is : offset ≡ at index

-- Lists of file names: one on each line, at most 1,000. The last line may lack its end.
use Rattle.std.specs.Prelude.{◌≡◌, ◌⊎◌, ℕ, ◌≤◌, ◌+◌, ◌++◌, if◌then◌else◌, ◌==◌, List, [], ◌∷◌, length, IsUtf8, ⊤}
use Rattle.std.specs.List.{onto_first, All}

-- the lines of a text, without their ends; a byte 0D belongs to its line
abbrev pub lines : List ℕ → List (List ℕ)
lines [] = []
lines (byte ∷ text) = if byte == 10 then [] ∷ lines text else onto_first byte (lines text)

-- the text ends here, or a line does
abbrev pub EndsLine : List ℕ → Type 0
EndsLine [] = ⊤
EndsLine (byte ∷ text) = byte ≡ 10

-- a file's name isn't empty and doesn't begin with `-`
abbrev pub IsFileName : List ℕ → Type 0
IsFileName [] = ⊥
IsFileName (byte ∷ bytes) = byte ≡ 45 → ⊥

-- a line is a file's name, in UTF-8
abbrev pub IsName : List ℕ → Type 0
IsName line = IsFileName line × IsUtf8 line

-- how many names a list may have
abbrev pub max_names : ℕ
max_names = 1000

-- the lines of the list are these names
pub record AreNames (list : List ℕ) (names : List (List ℕ)) : Type 0 where
  pub lines_are : lines list ≡ names
  pub each : All IsName names
  pub few : length names ≤ max_names

-- the line of this number, counted from 1, is the first that isn't a name, or comes after as many names as a list may have
pub record IsBadAt (list : List ℕ) (number : ℕ) : Type 0 where
  pub before : List (List ℕ)
  pub line : List ℕ
  pub after : List (List ℕ)
  pub lines_are : lines list ≡ before ++ line ∷ after
  pub number_is : number ≡ length before + 1
  pub each : All IsName before
  pub few : length before ≤ max_names
  pub bad : (IsName line → ⊥) ⊎ (length before ≡ max_names)

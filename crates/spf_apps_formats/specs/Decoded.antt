-- What the code words of a HUF1 file stand for.
use Rattle.std.specs.Prelude.{◌≡◌, ℕ, ◌<◌, ◌≤◌, Bool, List, ◌++◌, length, take, drop}
use Rattle.std.specs.Int.{from_be_bytes, w32}
use Rattle.spf_apps_formats.specs.Huffman.{HaveWords, code_words, bits_of}
use Rattle.spf_apps_formats.specs.Huf1.{lengths_of}

-- the longest list of symbols whose code words, one after another, the bits begin with
pub record Decodes (lengths : List ℕ) (bits : List Bool) (symbols : List ℕ) : Type 0 where
  pub have_words : HaveWords lengths (length symbols) symbols
  pub rest : List Bool
  pub bits_are : bits ≡ code_words lengths symbols ++ rest
  pub longest : (others : List ℕ) (more : List Bool) → HaveWords lengths (length others) others
      → bits ≡ code_words lengths others ++ more → length others ≤ length symbols

-- the count of symbols that a file says
abbrev pub count_of : List ℕ → ℕ
count_of file = from_be_bytes w32 (take 4 (drop 260 file))

-- the symbols of a file, as many as it says; it is short where the bits hold fewer
pub record IsDecoded (file output : List ℕ) : Type 0 where
  pub symbols : List ℕ
  pub decodes : Decodes (lengths_of file) (bits_of (drop 264 file)) symbols
  pub output_is : output ≡ take (count_of file) symbols

abbrev pub IsShort : List ℕ → List ℕ → Type 0
IsShort file output = length output < count_of file

-- these are the symbols of the file, and as many as it says
abbrev pub IsWhollyDecoded : List ℕ → List ℕ → Type 0
IsWhollyDecoded file output = IsDecoded file output × (IsShort file output → ⊥)

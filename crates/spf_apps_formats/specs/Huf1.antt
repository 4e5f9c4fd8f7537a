-- The format HUF1: a signature, the code length of each of 256 symbols, the count of symbols, and their code words one after another.
use Rattle.std.specs.Prelude.{◌≡◌, ◌⊎◌, ℕ, ◌+◌, ◌<◌, ◌≤◌, Bool, false, List, ◌++◌, length, take, drop, replicate, codes}
use Rattle.std.specs.Int.{to_be_bytes, w32}
use Rattle.spf_apps_formats.specs.Signatures.{BeginsWith, DepartsAt}
use Rattle.spf_apps_formats.specs.Huffman.{AreCodeLengths, AreRefusedAt, HaveWords, LacksWordAt, code_words, bits_of}

abbrev pub signature : List ℕ
signature = codes "HUF1"

-- the lengths of the symbols, from byte 4 on
abbrev pub lengths_of : List ℕ → List ℕ
lengths_of file = take 256 (drop 4 file)

-- the file has a whole header, and a code has its lengths
pub record IsHuf1 (file : List ℕ) : Type 0 where
  pub begins : BeginsWith signature file
  pub header : 264 ≤ length file
  pub lengths : AreCodeLengths (lengths_of file)

-- the signature stands there, and the file ends within the header
pub record EndsInHeader (file : List ℕ) (offset : ℕ) : Type 0 where
  pub begins : BeginsWith signature file
  pub short : length file < 264
  pub offset_is : offset ≡ length file

-- the header is whole, and no code has its lengths
pub record HasBadLengths (file : List ℕ) (offset : ℕ) : Type 0 where
  pub begins : BeginsWith signature file
  pub header : 264 ≤ length file
  pub symbol : ℕ
  pub refused : AreRefusedAt (lengths_of file) symbol
  pub offset_is : offset ≡ 4 + symbol

-- the file isn't HUF1, because of what stands, or is missing, at this offset
abbrev pub IsNoHuf1At : List ℕ → ℕ → Type 0
IsNoHuf1At file offset = DepartsAt signature file offset ⊎ (EndsInHeader file offset ⊎ HasBadLengths file offset)

-- ---- encoded symbols

-- a header with these lengths, for `count` symbols
abbrev pub header : List ℕ → ℕ → List ℕ
header lengths count = signature ++ lengths ++ to_be_bytes w32 count

-- the bytes hold the bits, and then fewer than eight zeros
pub record Holds (bits : List Bool) (bytes : List ℕ) : Type 0 where
  pub padding : ℕ
  pub few : padding < 8
  pub bits_are : bits_of bytes ≡ bits ++ replicate padding false

-- the file is the header for the symbols, and then their code words
pub record Encodes (lengths symbols file : List ℕ) : Type 0 where
  pub lengths_are : AreCodeLengths lengths
  pub have_words : HaveWords lengths (length symbols) symbols
  pub words : List ℕ
  pub file_is : file ≡ header lengths (length symbols) ++ words
  pub words_are : Holds (code_words lengths symbols) words

-- the lengths are refused, at this offset of a file
pub record RefusesLengths (lengths : List ℕ) (offset : ℕ) : Type 0 where
  pub symbol : ℕ
  pub refused : AreRefusedAt lengths symbol
  pub offset_is : offset ≡ 4 + symbol

-- a code has the lengths, and the symbol at this index has no code word
pub record LacksWord (lengths symbols : List ℕ) (at : ℕ) : Type 0 where
  pub lengths_are : AreCodeLengths lengths
  pub lacks : LacksWordAt lengths symbols at

-- Laws on formats.
use Rattle.std.specs.Prelude.{◌≡◌, ◌⊎◌, ℕ, ◌<◌, ◌^◌, Bool, List, ◌++◌, length, slice_index}
use Rattle.std.specs.List.{All}
use Rattle.spf_apps_formats.specs.declared.generate.Kind.{Kind}
use Rattle.spf_apps_formats.specs.Huffman.{AreCodeLengths, code_word}
use Rattle.spf_apps_formats.specs.Huf1.{IsHuf1, IsNoHuf1At, Encodes}
use Rattle.spf_apps_formats.specs.Decoded.{IsDecoded, IsShort}
use Rattle.spf_apps_formats.specs.Lex1.{IsLex1, IsNoLex1At}
use Rattle.spf_apps_formats.specs.PackBits.{Packet, IsCut, Unpacks}
use Rattle.spf_apps_formats.specs.Draws.{IsGenerated}

-- each file is HUF1 or refused at an offset, never both, and none is refused at two offsets
pub record Huf1HasOneVerdict : Type 0 where
  pub some : (file : List ℕ) → IsHuf1 file ⊎ ((offset : ℕ) × IsNoHuf1At file offset)
  pub apart : (file : List ℕ) (offset : ℕ) → IsHuf1 file → IsNoHuf1At file offset → ⊥
  pub one : (file : List ℕ) (offset other : ℕ) → IsNoHuf1At file offset → IsNoHuf1At file other → offset ≡ other

-- each file is LEX1 or refused at an offset, never both, none is refused at two offsets, and none is LEX1 with two counts
pub record Lex1HasOneVerdict : Type 0 where
  pub some : (file : List ℕ) → ((states : ℕ) × (classes : ℕ) × IsLex1 file states classes) ⊎ ((offset : ℕ) × IsNoLex1At file offset)
  pub apart : (file : List ℕ) (offset states classes : ℕ) → IsLex1 file states classes → IsNoLex1At file offset → ⊥
  pub one : (file : List ℕ) (offset other : ℕ) → IsNoLex1At file offset → IsNoLex1At file other → offset ≡ other
  pub counts : (file : List ℕ) (states classes more_states more_classes : ℕ) → IsLex1 file states classes
      → IsLex1 file more_states more_classes → (states ≡ more_states) × (classes ≡ more_classes)

-- each file is packets and a rest in exactly one way, so it stands for exactly one output
pub record PackBitsIsCutOnce : Type 0 where
  pub some : (file : List ℕ) → (packets : List Packet) × (rest : List ℕ) × IsCut file packets rest
  pub one : (file : List ℕ) (packets others : List Packet) (rest other : List ℕ) → IsCut file packets rest
      → IsCut file others other → (packets ≡ others) × (rest ≡ other)
  pub output : (file output other : List ℕ) → Unpacks file output → Unpacks file other → output ≡ other

-- no code word begins another: bits that begin with the code words of two symbols have one symbol there
abbrev pub CodeWordsArePrefixFree : Type 0
CodeWordsArePrefixFree =
    (lengths : List ℕ) (symbol other : ℕ) (rest more : List Bool) → AreCodeLengths lengths → 0 < slice_index lengths symbol → 0 < slice_index lengths other
    → code_word lengths symbol ++ rest ≡ code_word lengths other ++ more → symbol ≡ other

-- each HUF1 file is decoded, and in one way
pub record Huf1IsDecodedOnce : Type 0 where
  pub some : (file : List ℕ) → IsHuf1 file → (output : List ℕ) × IsDecoded file output
  pub one : (file output other : List ℕ) → IsHuf1 file → IsDecoded file output → IsDecoded file other → output ≡ other

-- what is decoded of a file that encodes symbols are these symbols, all of them
abbrev pub EncodedFilesDecode : Type 0
EncodedFilesDecode =
    (lengths symbols file output : List ℕ) → length lengths ≡ 256 → length symbols < 2 ^ 32 → Encodes lengths symbols file → IsDecoded file output
    → (output ≡ symbols) × (IsShort file output → ⊥)

-- each number is that of a byte
abbrev pub AreBytes : List ℕ → Type 0
AreBytes numbers = All (λ b. b < 256) numbers

-- for each kind, seed and size there is a file of bytes that is generated, and only one
pub record EachInputIsGeneratedOnce : Type 0 where
  pub some : (kind : Kind) (seed size : ℕ) → (file : List ℕ) × AreBytes file × IsGenerated kind seed size file
  pub one : (kind : Kind) (seed size : ℕ) (file other : List ℕ) → AreBytes file → AreBytes other
      → IsGenerated kind seed size file → IsGenerated kind seed size other → file ≡ other

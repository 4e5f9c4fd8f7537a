-- The programs are what their texts say.
use Rattle.std.specs.Prelude.{◌≡◌, ℕ, ◌≤◌, List}
use Rattle.spf_ast.specs.Syntax.{Program}
use Rattle.spf_ast.specs.RawSyntax.{RawProgram}
use Rattle.spf_ast.specs.Spelling.{spelled}
use Rattle.spf_print_forms.specs.Canonical.{canonical_text}
use Rattle.spf_parse_grammar.specs.Texts.{IsProgramOf}
use Rattle.spf_types.specs.Contract.{IsResolved}
use Rattle.spf_print_laws.specs.Lines.{AreSameButForLines}
use Rattle.spf_print_laws.specs.Laws.{SaysButForLines}
use Rattle.spf_apps_programs.specs.Laws.{IsBlockSize, IsMachineCount}
use Rattle.spf_apps_programs.specs.PackBits.{packbits_program}
use Rattle.spf_apps_programs.specs.Huffman.{huffman_program}
use Rattle.spf_apps_programs.specs.Lexer.{lexer_program}
use Rattle.spf_apps_texts.specs.Texts.{packbits_text, huffman_text, lexer_text}

-- for each block size, the text of the program that unpacks PackBits
abbrev pub PackBitsIsItsText : Type 0
PackBitsIsItsText =
    (size : ℕ) → 1 ≤ size → canonical_text (spelled 0 (packbits_program size)) ≡ packbits_text size

-- and of the one that decodes HUF1
abbrev pub HuffmanIsItsText : Type 0
HuffmanIsItsText =
    (size : ℕ) → 1 ≤ size → canonical_text (spelled 0 (huffman_program size)) ≡ huffman_text size

-- and of the one that runs LEX1 machines, for all counts of states and classes
abbrev pub LexerIsItsText : Type 0
LexerIsItsText =
    (size states classes : ℕ) → 1 ≤ size
    → canonical_text (spelled 0 (lexer_program size states classes)) ≡ lexer_text size states classes

-- ---- what the texts say

-- the text says the program, apart from line numbers, and if it is the text of a raw program that stands for one, then
-- for this one
pub record IsTextOf (text : List ℕ) (p : Program) : Type 0 where
  pub says : SaysButForLines text (spelled 0 p)
  pub alone : (raw : RawProgram) (q : Program) → IsProgramOf text raw → IsResolved raw q → AreSameButForLines p q

-- for each block size, the text of the program that unpacks PackBits says it
abbrev pub PackBitsTextSaysIt : Type 0
PackBitsTextSaysIt = (size : ℕ) → IsBlockSize size → IsTextOf (packbits_text size) (packbits_program size)

-- and that of the one that decodes HUF1
abbrev pub HuffmanTextSaysIt : Type 0
HuffmanTextSaysIt = (size : ℕ) → IsBlockSize size → IsTextOf (huffman_text size) (huffman_program size)

-- and that of the one that runs LEX1 machines
abbrev pub LexerTextSaysIt : Type 0
LexerTextSaysIt =
    (size states classes : ℕ) → IsBlockSize size → IsMachineCount states → IsMachineCount classes
    → IsTextOf (lexer_text size states classes) (lexer_program size states classes)

-- The decoders are accepted by the rules.
use Rattle.std.specs.Prelude.{ℕ}
use Rattle.spf_check.specs.Accepting.{IsAccepted}
use Rattle.spf_apps_programs.specs.Laws.{IsBlockSize, IsMachineCount}
use Rattle.spf_apps_programs.specs.PackBits.{packbits_program}
use Rattle.spf_apps_programs.specs.Huffman.{huffman_program}
use Rattle.spf_apps_programs.specs.Lexer.{lexer_program}

-- for each block size, the program that unpacks PackBits is accepted
abbrev pub PackBitsIsAccepted : Type 0
PackBitsIsAccepted = (size : ℕ) → IsBlockSize size → IsAccepted (packbits_program size)

-- and the one that decodes HUF1
abbrev pub HuffmanIsAccepted : Type 0
HuffmanIsAccepted = (size : ℕ) → IsBlockSize size → IsAccepted (huffman_program size)

-- and the one that runs LEX1 machines
abbrev pub LexerIsAccepted : Type 0
LexerIsAccepted = (size states classes : ℕ) → IsBlockSize size → IsMachineCount states → IsMachineCount classes → IsAccepted (lexer_program size states classes)

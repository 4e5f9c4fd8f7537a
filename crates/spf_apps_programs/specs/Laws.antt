-- The programs are lawful.
use Rattle.std.specs.Prelude.{ℕ, ◌≤◌}
use Rattle.spf_ast.specs.Lawful.{IsLawful}
use Rattle.spf_apps_programs.specs.PackBits.{packbits_program}
use Rattle.spf_apps_programs.specs.Huffman.{huffman_program}
use Rattle.spf_apps_programs.specs.Lexer.{lexer_program}

-- block sizes that the programs are made for
abbrev pub IsBlockSize : ℕ → Type 0
IsBlockSize size = (1 ≤ size) × (size ≤ 65536)

-- how many states, and how many classes, a machine may have
abbrev pub max_count : ℕ
max_count = 64

-- counts of states and of classes that a machine may have
abbrev pub IsMachineCount : ℕ → Type 0
IsMachineCount n = (1 ≤ n) × (n ≤ max_count)

-- for each size, the program that unpacks PackBits is lawful
abbrev pub PackBitsIsLawful : Type 0
PackBitsIsLawful = (size : ℕ) → IsBlockSize size → IsLawful (packbits_program size)

-- and the one that decodes HUF1
abbrev pub HuffmanIsLawful : Type 0
HuffmanIsLawful = (size : ℕ) → IsBlockSize size → IsLawful (huffman_program size)

-- and the one that runs LEX1 machines
abbrev pub LexerIsLawful : Type 0
LexerIsLawful = (size states classes : ℕ) → IsBlockSize size → IsMachineCount states → IsMachineCount classes → IsLawful (lexer_program size states classes)

-- What the decoders write.
use Rattle.std.specs.Prelude.{◌≡◌, ℕ, ◌<◌, ◌≤◌, List, ◌++◌, length, take, ℤ}
use Rattle.spf_ast.specs.declared.outcome.TrapKind.TheVariants.{Emit, Fail}
use Rattle.spf_ast.specs.declared.outcome.Trap.{Trap}
use Rattle.spf_ast.specs.Program.{Outcome, outcome, Done, Stopped}
use Rattle.spf_ast.specs.Meaning.{max_output}
use Rattle.spf_apps_formats.specs.PackBits.{Unpacks}
use Rattle.spf_apps_formats.specs.Huf1.{IsHuf1}
use Rattle.spf_apps_formats.specs.Decoded.{IsDecoded, IsShort, IsWhollyDecoded}
use Rattle.spf_apps_formats.specs.Lex1.{IsLex1}
use Rattle.spf_apps_formats.specs.Tokens.{tokens}
use Rattle.spf_apps_programs.specs.PackBits.{packbits_program}
use Rattle.spf_apps_programs.specs.Huffman.{huffman_program}
use Rattle.spf_apps_programs.specs.Lexer.{lexer_program}
use Rattle.spf_apps_laws.specs.Fitting.{FitsPackBits, FitsHuffman, FitsLexer}

-- a run ends with this output
abbrev pub EndsWith : List ℕ → Outcome → Type 0
EndsWith output o = (cells : List ℤ) × (o ≡ Done cells output)

-- the trap of the program that unpacks PackBits, where it writes and its output is full
abbrev pub full_trap : Trap
full_trap = record { kind = Emit; line = 31 }

-- the trap of the program that decodes HUF1, after the last symbol of a file that has fewer than it says
abbrev pub short_trap : Trap
short_trap = record { kind = Fail 1; line = 53 }

-- the program that unpacks PackBits ends with what its input stands for, where this is within the limit of output
abbrev pub PackBitsUnpacks : Type 0
PackBitsUnpacks =
    (size : ℕ) (file output : List ℕ) → FitsPackBits size file → Unpacks file output → length output ≤ max_output
    → EndsWith output (outcome (packbits_program size) file)

-- where its output would have more bytes than the limit, the program writes as many as the limit is, and traps where it writes
abbrev pub PackBitsStops : Type 0
PackBitsStops =
    (size : ℕ) (file output : List ℕ) → FitsPackBits size file → Unpacks file output → max_output < length output
    → outcome (packbits_program size) file ≡ Stopped full_trap (take max_output output)

-- the program that runs a machine ends with the tokens of the content after it
abbrev pub LexerFindsTokens : Type 0
LexerFindsTokens =
    (size states classes : ℕ) (machine content : List ℕ) → IsLex1 machine states classes → FitsLexer size machine content
    → EndsWith (tokens machine content) (outcome (lexer_program size states classes) (machine ++ content))

-- the program that decodes HUF1 ends with the symbols of its input; where the input has fewer than it says, it fails after the last of them
pub record HuffmanDecodes : Type 0 where
  pub whole : (size : ℕ) (file output : List ℕ) → FitsHuffman size file → IsHuf1 file → IsWhollyDecoded file output
      → EndsWith output (outcome (huffman_program size) file)
  pub short : (size : ℕ) (file output : List ℕ) → FitsHuffman size file → IsHuf1 file → IsDecoded file output → IsShort file output
      → outcome (huffman_program size) file ≡ Stopped short_trap output

-- Canonical texts say the programs that they are texts of.
use Rattle.std.specs.Prelude.{◌≡◌, ℕ, List, length, map}
use Rattle.spf_text.specs.declared.token.Token.{Token}
use Rattle.spf_text.specs.Tokens.{AreTokensOf}
use Rattle.spf_ast.specs.Syntax.{Array, Program}
use Rattle.spf_ast.specs.RawSyntax.{RawStatement, If, For, While, Fold, Pair, RawBlock, end, on_line, RawFunction, RawProgram}
use Rattle.spf_ast.specs.Lawful.{IsScoped}
use Rattle.spf_ast.specs.Spelling.{spelled, IsWritable}
use Rattle.spf_print_forms.specs.Canonical.{canonical_text}
use Rattle.spf_parse_grammar.specs.Lexemes.{Lexeme, lexemes_of}
use Rattle.spf_parse_grammar.specs.Reading.{Reads}
use Rattle.spf_parse_grammar.specs.Texts.{IsProgramOf, IsUnexpected, IsTooDeep}
use Rattle.spf_types.specs.Contract.{IsResolved}
use Rattle.spf_print_laws.specs.Lines.{AreSameButForLines}

abbrev mutual
  -- a statement, all of whose lines are 0
  pub without_lines : RawStatement → RawStatement
  without_lines (If test a b) = If test (block_without_lines a) (block_without_lines b)
  without_lines (For x low high body) = For x low high (block_without_lines body)
  without_lines (While test most body) = While test most (block_without_lines body)
  without_lines (Fold head body) = Fold (record head { next_line = 0 }) (block_without_lines body)
  without_lines (Pair head producer consumer) =
      Pair (record head { give_line = 0 }) (block_without_lines producer) (block_without_lines consumer)
  without_lines s = s

  -- a block
  pub block_without_lines : RawBlock → RawBlock
  block_without_lines end = end
  block_without_lines (on_line line first rest) = on_line 0 (without_lines first) (block_without_lines rest)

-- an array
abbrev pub array_without_lines : Array → Array
array_without_lines a = record a { line = 0 }

-- a function
abbrev pub function_without_lines : RawFunction → RawFunction
function_without_lines f = record {
  name = f.name;
  params = f.params;
  body = block_without_lines f.body;
  answer = f.answer;
  answer_line = 0;
  line = 0;
}

-- a whole program
abbrev pub program_without_lines : RawProgram → RawProgram
program_without_lines p = record {
  version = p.version;
  arrays = map array_without_lines p.arrays;
  functions = map function_without_lines p.functions;
  main = block_without_lines p.main;
  main_line = 0;
}

-- the text has tokens, and the grammar reads them as this program, apart from line numbers, where no limit binds them
pub record SaysButForLines (text : List ℕ) (p : RawProgram) : Type 0 where
  pub tokens : List Token
  pub are : AreTokensOf text tokens
  pub said : RawProgram
  pub reads : Reads (length tokens) (lexemes_of text tokens) said
  pub same : program_without_lines said ≡ program_without_lines p

-- the canonical text of each raw program, whose names are names and whose numbers a text can hold, says it
abbrev pub CanonicalTextsReadBack : Type 0
CanonicalTextsReadBack = (p : RawProgram) → IsWritable p → SaysButForLines (canonical_text p) p

-- ---- programs

-- what `print` writes of a program
abbrev pub text_of : Program → List ℕ
text_of p = canonical_text (spelled 0 p)

-- the names of a scoped program are names, and its numbers are numbers that a text can hold
abbrev pub ScopedProgramsAreWritable : Type 0
ScopedProgramsAreWritable = (main_line : ℕ) (p : Program) → IsScoped p → IsWritable (spelled main_line p)

-- the text of each scoped program, so of each lawful one, says the program that it was printed from
abbrev pub TextsSayTheirPrograms : Type 0
TextsSayTheirPrograms = (p : Program) → IsScoped p → SaysButForLines (text_of p) (spelled 0 p)

-- tokens are those of one program at most: the grammar is unambiguous, lines included
abbrev pub TokensAreOfOneProgram : Type 0
TokensAreOfOneProgram = (free : ℕ) (tokens : List Lexeme) (p q : RawProgram) → Reads free tokens p → Reads free tokens q → p ≡ q

-- no tokens are left that neither are those of a program nor go wrong at an offset
abbrev pub NoTokensAreLeft : Type 0
NoTokensAreLeft =
    (tokens : List Lexeme) (end : ℕ) → ((p : RawProgram) → Reads 0 tokens p → ⊥)
    → ((at : ℕ) → IsUnexpected tokens end at → ⊥) → ((at : ℕ) → IsTooDeep tokens at → ⊥) → ⊥

-- what a text says as the spelling of a scoped program, it says of that one alone
abbrev pub ReadingsDetermineTheirPrograms : Type 0
ReadingsDetermineTheirPrograms =
    (text : List ℕ) (p q : Program) → IsScoped p → IsScoped q → SaysButForLines text (spelled 0 p) → SaysButForLines text (spelled 0 q) → AreSameButForLines p q

-- no two scoped programs have the same text, unless they differ in their lines alone
abbrev pub TextsDetermineTheirPrograms : Type 0
TextsDetermineTheirPrograms = (p q : Program) → IsScoped p → IsScoped q → text_of p ≡ text_of q → AreSameButForLines p q

-- what the reader makes of the text of a scoped program is that program: the raw program of the text can stand for no other
abbrev pub TextsAreReadAsTheirPrograms : Type 0
TextsAreReadAsTheirPrograms =
    (p q : Program) (raw : RawProgram) → IsScoped p → IsProgramOf (text_of p) raw → IsResolved raw q → AreSameButForLines p q

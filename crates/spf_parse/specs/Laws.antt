-- That tokens go wrong once, and that what a text says is writable.
use Rattle.std.specs.Prelude.{◌≡◌, ◌⊎◌, ℕ, List}
use Rattle.spf_ast.specs.RawSyntax.{RawProgram}
use Rattle.spf_ast.specs.Spelling.{IsWritable}
use Rattle.spf_parse_grammar.specs.Lexemes.{Lexeme}
use Rattle.spf_parse_grammar.specs.Reading.{Reads}
use Rattle.spf_parse_grammar.specs.Texts.{IsProgramOf, IsUnexpected, IsTooDeep}

-- tokens go wrong at one offset and in one way, and not at all where they are those of a program
pub record GoWrongOnce (tokens : List Lexeme) (end : ℕ) : Type 0 where
  pub unexpected : (at other : ℕ) → IsUnexpected tokens end at → IsUnexpected tokens end other → at ≡ other
  pub too_deep : (at other : ℕ) → IsTooDeep tokens at → IsTooDeep tokens other → at ≡ other
  pub not_both : (at other : ℕ) → IsUnexpected tokens end at → IsTooDeep tokens other → ⊥
  pub not_read : (p : RawProgram) → Reads 0 tokens p → (at : ℕ) → IsUnexpected tokens end at ⊎ IsTooDeep tokens at → ⊥

abbrev pub TokensGoWrongOnce : Type 0
TokensGoWrongOnce = (tokens : List Lexeme) (end : ℕ) → GoWrongOnce tokens end

-- the names of what a text says are names, and its numbers are numbers that a text can hold
abbrev pub TextsSayWritablePrograms : Type 0
TextsSayWritablePrograms = (text : List ℕ) (p : RawProgram) → IsProgramOf text p → IsWritable p

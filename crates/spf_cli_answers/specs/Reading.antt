-- What a text says: a program, or why it has none.
use Rattle.std.specs.Prelude.{◌≡◌, ℕ, ◌<◌, ◌≤◌, List, length, codes}
use Rattle.spf_text.specs.Tokens.{IsFaultyAt, BeginsNothing, BeginsTooLarge, max_text}
use Rattle.spf_ast.specs.Syntax.{Program}
use Rattle.spf_ast.specs.RawSyntax.{RawProgram}
use Rattle.spf_parse_grammar.specs.Texts.{IsProgramOf, IsUnexpectedAt, IsTooDeepAt}
use Rattle.spf_types_names.specs.declared.fault.TypeFault.{TypeFault}
use Rattle.spf_types.specs.Contract.{IsResolved, IsRefused}
use Rattle.spf_cli_answers.specs.Message.{byte_line, fault_line}

-- why a text has no lawful program: a fault at a byte, or one of names, kinds or sizes on a line
pub data TextRefusal : Type 0 where
  text_too_long : ℕ → TextRefusal
  bad_byte : ℕ → TextRefusal
  number_too_large : ℕ → TextRefusal
  unexpected : ℕ → TextRefusal
  too_deep : ℕ → TextRefusal
  on_line : TypeFault → ℕ → TextRefusal

-- what a text says
pub data TextVerdict : Type 0 where
  Says : Program → TextVerdict
  Refuses : TextRefusal → TextVerdict

-- the text is refused so
abbrev pub IsTextRefused : List ℕ → TextRefusal → Type 0
IsTextRefused text (text_too_long at) = (max_text < length text) × (at ≡ max_text)
IsTextRefused text (bad_byte at) = (length text ≤ max_text) × IsFaultyAt BeginsNothing text at
IsTextRefused text (number_too_large at) = (length text ≤ max_text) × IsFaultyAt BeginsTooLarge text at
IsTextRefused text (unexpected at) = IsUnexpectedAt text at
IsTextRefused text (too_deep at) = IsTooDeepAt text at
IsTextRefused text (on_line fault line) = (raw : RawProgram) × IsProgramOf text raw × IsRefused raw fault line

-- the text says this
abbrev pub IsTextVerdict : List ℕ → TextVerdict → Type 0
IsTextVerdict text (Says p) = (raw : RawProgram) × IsProgramOf text raw × IsResolved raw p
IsTextVerdict text (Refuses refusal) = IsTextRefused text refusal

-- the line of a refusal
abbrev pub refusal_line : TextRefusal → List ℕ
refusal_line (text_too_long at) = byte_line at (codes "text too long")
refusal_line (bad_byte at) = byte_line at (codes "bad byte")
refusal_line (number_too_large at) = byte_line at (codes "number too large")
refusal_line (unexpected at) = byte_line at (codes "unexpected")
refusal_line (too_deep at) = byte_line at (codes "too deep")
refusal_line (on_line fault line) = fault_line fault line

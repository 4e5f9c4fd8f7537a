-- Why a text has no tokens.
use Rattle.std.specs.Prelude.{◌≡◌, ℕ, ◌<◌, ◌≤◌, List, length}
use Rattle.spf_text.specs.declared.scanner.ScanError.{ScanError}
use Rattle.spf_text.specs.declared.scanner.ScanError.TheVariants as error
use Rattle.spf_parse.specs.declared.program.ParseError.{ParseError}
use Rattle.spf_parse.specs.declared.program.ParseError.TheVariants as parse
use Rattle.spf_text.specs.Tokens.{IsFaultyAt, BeginsNothing, BeginsTooLarge, max_text}

-- the text is too long, or otherwise the first fault of its bytes stands at this offset
abbrev pub IsNoTokenText : List ℕ → ScanError → Type 0
IsNoTokenText text (error.TooLong at) = (max_text < length text) × (at ≡ max_text)
IsNoTokenText text (error.BadByte at) = (length text ≤ max_text) × IsFaultyAt BeginsNothing text at
IsNoTokenText text (error.NumberTooLarge at) = (length text ≤ max_text) × IsFaultyAt BeginsTooLarge text at
IsNoTokenText text error.OutOfMemory = ⊥

-- what a refusal of the scanner is for the parser: running out of memory is its own, too
abbrev pub as_refusal : ScanError → ParseError
as_refusal error.OutOfMemory = parse.OutOfMemory
as_refusal e = parse.Scan e

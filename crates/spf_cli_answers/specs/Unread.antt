-- What the reading of a text leaves.
use Rattle.std.specs.Prelude.{◌≡◌, ℕ, List, Option, Some, None}
use Rattle.spf_parse.specs.declared.program.ParseError.{ParseError}
use Rattle.spf_parse.specs.declared.program.ParseError.TheVariants as error
use Rattle.spf_text.specs.declared.scanner.ScanError.TheVariants as scan
use Rattle.spf_cli_answers.specs.Reading as said
use Rattle.spf_cli_answers.specs.Reading.{Refuses, IsTextVerdict, IsTextRefused}
use Rattle.spf_cli_words.specs.Only.{IsOnly}
use Rattle.spf_cli_answers.specs.declared.reading.TextRefusal.{TextRefusal}
use Rattle.spf_cli_answers.specs.declared.reading.TextRefusal.TheVariants as r
use Rattle.spf_cli_answers.specs.declared.reading.Unread.{Unread}
use Rattle.spf_cli_answers.specs.declared.reading.Unread.TheVariants.{Refused, NoMemory}

-- what contracts see of a refusal
abbrev pub seen_refusal : TextRefusal → said.TextRefusal
seen_refusal (r.TextTooLong at) = said.text_too_long at
seen_refusal (r.BadByte at) = said.bad_byte at
seen_refusal (r.NumberTooLarge at) = said.number_too_large at
seen_refusal (r.Unexpected at) = said.unexpected at
seen_refusal (r.TooDeep at) = said.too_deep at
seen_refusal (r.OnLine fault line) = said.on_line fault line

-- the refusal of an error of the parser, where it is one
abbrev pub refusal_of : ParseError → Option said.TextRefusal
refusal_of (error.Scan (scan.TooLong at)) = Some (said.text_too_long at)
refusal_of (error.Scan (scan.BadByte at)) = Some (said.bad_byte at)
refusal_of (error.Scan (scan.NumberTooLarge at)) = Some (said.number_too_large at)
refusal_of (error.Scan scan.OutOfMemory) = None
refusal_of (error.Unexpected at) = Some (said.unexpected at)
refusal_of (error.TooDeep at) = Some (said.too_deep at)
refusal_of error.OutOfMemory = None

-- an error of the parser means this
abbrev pub IsRefusalOf : ParseError → Unread → Type 0
IsRefusalOf error (Refused refusal) = refusal_of error ≡ Some (seen_refusal refusal)
IsRefusalOf error NoMemory = Unit {0}

-- the text is refused in this way, and in no other, or memory ran out
abbrev pub IsUnread : List ℕ → Unread → Type 0
IsUnread text (Refused refusal) = IsOnly (IsTextVerdict text) (Refuses (seen_refusal refusal))
IsUnread text NoMemory = Unit {0}

-- a refusal at a byte
abbrev pub IsAtByte : said.TextRefusal → Type 0
IsAtByte (said.on_line fault line) = ⊥
IsAtByte _ = Unit {0}

-- the text isn't refused at a byte
abbrev pub HasNoByteFault : List ℕ → Type 0
HasNoByteFault text = (refusal : said.TextRefusal) → IsTextRefused text refusal → IsAtByte refusal → ⊥

-- Why a text is refused.
use Rattle.std.specs.Prelude.{ℕ, List}
use Rattle.spf_text.specs.declared.scanner.ScanError.{ScanError}
use Rattle.spf_text.specs.declared.scanner.ScanError.TheVariants as error
use Rattle.spf_text.specs.Tokens.{IsFaultyAt, BeginsNothing, BeginsTooLarge}

-- a text of any length is refused for a fault at the offset that is told, or because memory ran out
abbrev pub IsRefusedWith : List ℕ → ScanError → Type 0
IsRefusedWith text (error.BadByte at) = IsFaultyAt BeginsNothing text at
IsRefusedWith text (error.NumberTooLarge at) = IsFaultyAt BeginsTooLarge text at
IsRefusedWith text (error.TooLong at) = ⊥
IsRefusedWith text error.OutOfMemory = Unit {0}

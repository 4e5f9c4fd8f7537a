-- Why symbols can't be encoded.
use Rattle.std.specs.Prelude.{ℕ, List}
use Rattle.spf_apps_formats.specs.declared.encoder.EncodeError.{EncodeError}
use Rattle.spf_apps_formats.specs.declared.encoder.EncodeError.TheVariants.{BadLengths, NoCode, OutOfMemory}
use Rattle.spf_apps_formats.specs.Huf1.{RefusesLengths, LacksWord}

-- the cause of each error; running out of memory has none
abbrev pub IsRefusedWith : List ℕ → List ℕ → EncodeError → Type 0
IsRefusedWith lengths symbols (BadLengths place) = RefusesLengths lengths place
IsRefusedWith lengths symbols (NoCode at) = LacksWord lengths symbols at
IsRefusedWith lengths symbols OutOfMemory = Unit {0}

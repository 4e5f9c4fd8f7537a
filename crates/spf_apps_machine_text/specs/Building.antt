-- Texts that are no machine's.
use Rattle.std.specs.Prelude.{ℕ, List}
use Rattle.spf_apps_machine_text.specs.declared.build.BuildError.{BuildError}
use Rattle.spf_apps_machine_text.specs.declared.build.BuildError.TheVariants.{NotMachine, OutOfMemory}
use Rattle.spf_apps_machine_text.specs.MachineText.{IsTextOf}

-- no machine has this text
abbrev pub BelongsToNoMachine : List ℕ → Type 0
BelongsToNoMachine text = (file : List ℕ) → IsTextOf text file → ⊥

-- the cause of each error; running out of memory has none
abbrev pub IsRefusedWith : List ℕ → BuildError → Type 0
IsRefusedWith text NotMachine = BelongsToNoMachine text
IsRefusedWith text OutOfMemory = Unit {0}

-- Laws of machines' texts.
use Rattle.std.specs.Prelude.{◌≡◌, ◌⊎◌, ℕ, List}
use Rattle.spf_apps_formats.specs.Laws.{AreBytes}
use Rattle.spf_apps_machine_text.specs.MachineText.{IsMachine, IsTextOf, machine_text}
use Rattle.spf_apps_machine_text.specs.Building.{BelongsToNoMachine}

-- each machine has exactly one text, and each text belongs to exactly one machine or to none
pub record MachinesHaveOneText : Type 0 where
  pub some : (file : List ℕ) → AreBytes file → IsMachine file → IsTextOf (machine_text file) file
  pub text : (file text other : List ℕ) → IsTextOf text file → IsTextOf other file → text ≡ other
  pub file : (text file other : List ℕ) → IsTextOf text file → IsTextOf text other → file ≡ other
  pub verdict : (text : List ℕ) → ((file : List ℕ) × IsTextOf text file) ⊎ BelongsToNoMachine text

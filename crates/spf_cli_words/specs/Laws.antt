-- Laws about lists of words.
use Rattle.std.specs.Prelude.{◌⊎◌, ℕ, List}
use Rattle.spf_cli_words.specs.Command.{Command, Asks}
use Rattle.spf_cli_words.specs.Only.{IsOnly}

-- each list of words asks for one command, or for none
abbrev pub EachAsksForOneOrNone : Type 0
EachAsksForOneOrNone = (words : List (List ℕ)) → ((command : Command) × IsOnly (Asks words) command) ⊎ ((command : Command) → Asks words command → ⊥)

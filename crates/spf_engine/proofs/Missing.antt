-- Where no host is missing, each that a construct names is supplied.
use Rattle.std.proofs.Common.{◌≡◌, ℕ, List, Some, None}
use Rattle.std.specs.Prelude.{slice_get}
use Rattle.spf_ast.specs.Construct.{Construct}
use Rattle.spf_guess.specs.Missing.{missing_host}
use Rattle.spf_guess.proofs.Named.{all_handed_in}
use Rattle.spf_engine_construct.specs.Guesses.{IsHandedIn}

pub handed-in : (count : ℕ) (constructs : List Construct) (n : ℕ) (c : Construct) → missing_host count constructs ≡ None → slice_get constructs n ≡ Some c → IsHandedIn count c
handed-in count constructs n c none at = all_handed_in count constructs none n c at

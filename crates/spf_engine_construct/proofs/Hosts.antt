-- What hosts were told.
use Rattle.std.proofs.Common.{◌≡◌, List, subst}
use Rattle.spf_guess_statistics.specs.Guess.{Hosts, Telling}
use Rattle.spf_guess.specs.Answers.{WereTold}

-- what was told, by another name
pub retold : (before now : Hosts) (one other : List Telling) → one ≡ other → WereTold before one now → WereTold before other now
retold before now one other same were = subst (λ telling. WereTold before telling now) same were

use Rattle.std.proofs.Common.{◌≡◌, List, [], ◌∷◌, Some, pos, refl}
use Rattle.std.specs.Prelude.{unwrap_or}
use Rattle.std.specs.List.{last_or}
use Rattle.spf_guess_statistics.specs.Guess.{Told}
use Rattle.spf_guess.specs.Kinds.{reals_told, last_answer}
use Rattle.spf_guess.proofs.last.Last.make.Goals as goal

from_0 : (pairs : List Told) → unwrap_or (last_or (Some (pos 0)) (reals_told pairs)) (pos 0) ≡ last_answer pairs
from_0 [] = refl
from_0 (t ∷ ts) = refl

pub returns : goal.returns
returns c = λ pairs block. from_0 pairs

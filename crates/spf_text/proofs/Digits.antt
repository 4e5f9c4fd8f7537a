-- The number that digits spell.
use Rattle.std.proofs.Common.{◌≡◌, ℕ, ◌+◌, ◌-◌, ◌*◌, ◌<◌, ◌≤◌, List, [], ◌∷◌, length, get_or, drop, arith}
use Rattle.std.proofs.lemmas.List.{at_drop_more, at_drop_all}
use Rattle.spf_text.specs.Tokens.{number_from}

-- further digits make no number smaller
pub number_from-le : (so_far : ℕ) (ds : List ℕ) → so_far ≤ number_from so_far ds
number_from-le so_far [] = omega arith
number_from-le so_far (d ∷ ds) = omega (arith, number_from-le (10 * so_far + (d - 48)) ds)

-- one more digit
pub number_from_more : (so_far i : ℕ) (ds : List ℕ) → i < length ds → number_from so_far (drop i ds) ≡ number_from (10 * so_far + (get_or ds i 0 - 48)) (drop (i + 1) ds)
number_from_more so_far i ds h = at_drop_more (number_from so_far) ds i 0 h

-- no more digits
pub number_from_all : (so_far i : ℕ) (ds : List ℕ) → length ds ≤ i → number_from so_far (drop i ds) ≡ so_far
number_from_all so_far i ds h = at_drop_all (number_from so_far) ds i h

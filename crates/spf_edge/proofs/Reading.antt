-- Reads that stop at a limit.
use Rattle.std.proofs.Common.{◌≡◌, ℕ, ◌<◌, List, length, take, Option, Some, None, option_map, IfSome, arith, ◌∙◌, ap}
use Rattle.std.proofs.lemmas.List.{take_all, length-take}

-- a read that ended before its limit gave everything
pub whole_below_limit : (known : Option (List ℕ)) (read : List ℕ) (limit : ℕ) → length read < limit → IfSome (option_map (take limit) known) (λ front. read ≡ front) → IfSome known (λ all. read ≡ all)
whole_below_limit None read limit below front = tt
whole_below_limit (Some all) read limit below front =
    front ∙ take_all limit all (omega (arith, length-take limit all, ap length front))

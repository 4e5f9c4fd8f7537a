-- Logs that are joined from the last block down, and what steps are to an ended chain.
use Rattle.std.specs.Prelude.{ℕ, zero, suc, List, [], ◌++◌, map}
use Rattle.spf_ast.specs.Event.{Event}
use Rattle.spf_chain.specs.Chains.{ChainValue}
use Rattle.spf_chain.specs.Finishing.{result_as}
use Rattle.spf_speculation_entry.specs.Sites.{entry_at, guess_at}
use Rattle.spf_speculation.specs.Runs.{IsSpeculativeRun}
use Rattle.spf_speculation.specs.Steps.{Step, steps_of}

-- the logs of the first blocks, joined block by block from the last one down to block 0
abbrev pub joined_down : ℕ → (ℕ → List Event) → List Step
joined_down zero logs = []
joined_down (suc n) logs = steps_of n (logs n) ++ joined_down n logs

-- the steps are a speculative run of the chain's blocks, with the chain's guesses, real values and result
abbrev pub IsSpeculativeRunOf : ChainValue → List Step → Type 0
IsSpeculativeRunOf c steps = IsSpeculativeRun (entry_at c.site) (guess_at c.site) steps (map (λ b. b.row) c.history) (result_as c.settled)

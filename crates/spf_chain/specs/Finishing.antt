-- What a chain comes to.
use Rattle.std.specs.Prelude.{◌≡◌, ℕ, List, [], ◌∷◌, length, map, Option, Some, None, Result, Ok, Err, ℤ}
use Rattle.spf_ast.specs.declared.outcome.Trap.{Trap}
use Rattle.spf_ast.specs.Carried as carried
use Rattle.spf_ast.specs.Event.{Event}
use Rattle.spf_cells.specs.declared.view.LogEntry.{LogEntry}
use Rattle.spf_cells.specs.Values.{LaneValue}
use Rattle.spf_speculation_entry.specs.Entry.{plain_blocks}
use Rattle.spf_speculation_entry.specs.Sites.{entry_at, guess_at}
use Rattle.spf_speculation.specs.Steps.{Step, Merges}
use Rattle.spf_speculation.specs.Runs.{IsSpeculativeRun}
use Rattle.spf_speculation_lanes.specs.Lanes.{logs_in}
use Rattle.spf_ticket.specs.declared.ticket.Report.{Report}
use Rattle.spf_chain.specs.declared.block.Settled.{Settled}
use Rattle.spf_chain.specs.declared.block.Settled.TheVariants.{Carried, Trapped}
use Rattle.spf_chain.specs.Chains.{ChainValue}

-- the lanes of the reports that are home
abbrev pub lanes_in : List (Option Report) → List LaneValue
lanes_in [] = []
lanes_in (None ∷ homes) = lanes_in homes
lanes_in (Some r ∷ homes) = r.ticket.lane ∷ lanes_in homes

-- what blocks came to, as a result
abbrev pub result_as : Settled → Result carried.Carried Trap
result_as (Carried v) = Ok v
result_as (Trapped t) = Err t

-- every merging of these logs of the blocks that keeps the order of each log is a speculative run, with the chain's
-- guesses, its history's real rows and what it came to
abbrev pub EveryMergingRuns : ChainValue → (ℕ → List Event) → Type 0
EveryMergingRuns c logs = (steps : List Step) → Merges c.site.blocks logs steps
    → IsSpeculativeRun (entry_at c.site) (guess_at c.site) steps (map (λ b. b.row) c.history) (result_as c.settled)

-- The chain came to this, with these logs, and its lanes were written back to a memory. The plain run of the site's
-- blocks has the same real rows and the same result, and where none traps and the memory was that of the entry, the
-- same memory. The trace has one log for each block, and every merging of them that keeps the order of each log is a
-- speculative run.
pub record IsFinished (c : ChainValue) (s : Settled) (trace : List (List LogEntry)) (before after : List ℤ) : Type 0 where
  pub settled : s ≡ c.settled
  pub values : map (λ b. b.row) c.history ≡ (plain_blocks (entry_at c.site)).values
  pub result : (plain_blocks (entry_at c.site)).result ≡ result_as s
  pub memory : (v : carried.Carried) → s ≡ Carried v → before ≡ c.site.memory → after ≡ (plain_blocks (entry_at c.site)).memory
  pub logs : length trace ≡ c.site.blocks
  pub merging : (steps : List Step) → Merges c.site.blocks (logs_in trace) steps
      → IsSpeculativeRun (entry_at c.site) (guess_at c.site) steps (map (λ b. b.row) c.history) (result_as s)

-- What becomes of a report that a mate files.
use Rattle.std.specs.Prelude.{◌≡◌, ℕ, Bool, true}
use Rattle.spf_ticket.specs.declared.ticket.Report.{Report}
use Rattle.spf_chain.specs.declared.chain.Filed.{Filed}
use Rattle.spf_chain.specs.declared.chain.Filed.TheVariants.{Rerun, Waiting, Ended}
use Rattle.spf_chain.specs.Chains.{ChainValue, IsFiled}
use Rattle.spf_crew.specs.declared.view.CrewSetting.{CrewSetting}
use Rattle.spf_crew.specs.declared.held.Held.{Held}
use Rattle.spf_crew.specs.declared.held.Held.TheVariants as held
use Rattle.spf_crew.specs.Rule.{IsChainOf}
use Rattle.spf_crew.specs.Tickets.{IsFreshOf}

-- a ticket to rerun is fresh
abbrev pub RerunsFresh : CrewSetting → Filed → Type 0
RerunsFresh k (Rerun t) = IsFreshOf k t
RerunsFresh k (Waiting block) = Unit {0}
RerunsFresh k Ended = Unit {0}

-- the report was filed with a chain of this crew that had been given `reports` reports before, and this was the answer
pub record IsFiledAt (k : CrewSetting) (reports : ℕ) (r : Report) (answer : Filed) : Type 0 where
  pub before : ChainValue
  pub after : ChainValue
  pub of : IsChainOf k before
  pub count : before.reports ≡ reports
  pub filed : IsFiled before r answer after
  pub rerun : RerunsFresh k answer

-- what a mate holds after it filed a report: the ticket to rerun, if there is one
abbrev pub held_after : Filed → Held
held_after (Rerun t) = held.Ticket t
held_after (Waiting block) = held.Nothing
held_after Ended = held.Nothing

-- a mate that announced the end counts as having read it
abbrev pub read_after : Filed → Bool → Bool
read_after (Rerun t) read = read
read_after (Waiting block) read = read
read_after Ended read = true

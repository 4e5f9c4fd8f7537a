-- The job, the tickets and the reports of a crew.
use Rattle.std.specs.Prelude.{◌≡◌}
use Rattle.spf_chain.specs.Jobs.{CanRun}
use Rattle.spf_speculation_entry.specs.Sites.{entry_at, guess_at}
use Rattle.spf_ticket.specs.declared.run.Job.{Job}
use Rattle.spf_ticket.specs.declared.ticket.Ticket.{Ticket}
use Rattle.spf_ticket.specs.declared.ticket.Report.{Report}
use Rattle.spf_ticket.specs.Tickets.{IsFresh, IsJobOf, IsLawfulReport, Ran}
use Rattle.spf_crew.specs.declared.view.CrewSetting.{CrewSetting}

-- the job is that of the crew's construct, with the memory at its entry, and its blocks can be run
pub record ServesCrew (k : CrewSetting) (job : Job) : Type 0 where
  pub runs : CanRun job
  pub entry : IsJobOf (entry_at k.site) job

-- a ticket of this crew whose attempt can be made
abbrev pub IsFreshOf : CrewSetting → Ticket → Type 0
IsFreshOf k t = IsFresh (entry_at k.site) (guess_at k.site) k.cells t

-- a report of this crew that a chain may be given
abbrev pub IsLawfulOf : CrewSetting → Report → Type 0
IsLawfulOf k r = IsLawfulReport (entry_at k.site) (guess_at k.site) k.cells r

-- one attempt by this fresh ticket: the lane's log went on with the attempt's log, the stop is what it came to, and
-- block, attempt and carried row are the ticket's
pub record IsAttemptBy (k : CrewSetting) (t : Ticket) (r : Report) : Type 0 where
  pub fresh : IsFreshOf k t
  pub ran : Ran (entry_at k.site) t r
  pub block : r.ticket.block ≡ t.block
  pub attempt : r.ticket.attempt ≡ t.attempt
  pub carried : r.ticket.carried ≡ t.carried

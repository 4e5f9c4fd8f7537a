-- What may cross threads: jobs, frames and tickets.
use denote.Hole.{as_row}
use denote.Param.Send.{IsSync, sendable}
use denote.Param.SendFields.{declared_sync}
use denote.Ref.{NamedLft}
use Rattle.spf_exec_instance.proofs.Crossing.{instance_sync, top_construct_field_sync}
use Rattle.spf_ticket.specs.contracts.run.Job

pub job_sync : (κ : NamedLft) → IsSync (as_row (Job.the_field κ))
job_sync κ = declared_sync (Job.the_type κ) (search (instance_sync, top_construct_field_sync, sendable))

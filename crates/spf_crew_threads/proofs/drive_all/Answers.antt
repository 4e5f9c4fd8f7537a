use denote.Param.Send.{sendable}
use Rattle.spf_exec_instance.proofs.Crossing.{instance_sync}
use Rattle.spf_crew_threads.proofs.drive_all.Goals as goal

pub drive_blocks-requires-sync-I : goal.drive_blocks-requires-sync-I
drive_blocks-requires-sync-I g c κs within = search (instance_sync, sendable) depth 60

use denote.Param.Send.{sendable}
use Rattle.spf_exec_instance.proofs.Crossing.{instance_sync}
use Rattle.spf_tests_runtime.proofs.own_threads.attempt_all.Goals as goal

pub attempt_blocks-requires-sync-I : goal.attempt_blocks-requires-sync-I
attempt_blocks-requires-sync-I g c κs within = search (instance_sync, sendable) depth 60

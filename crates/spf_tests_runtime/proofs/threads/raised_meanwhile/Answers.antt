use denote.Param.Send.{sendable}
use Rattle.std.proofs.Crossing.{crosses}
use Rattle.spf_cells.proofs.cells.Cells.TheSendSync as cells
use Rattle.spf_cells.proofs.lane.Lane.TheSendSync as lane
use Rattle.spf_exec.proofs.frame.Frame.TheSendSync as frame
use Rattle.spf_tests_runtime.proofs.Crossing.{job_sync}
use Rattle.spf_tests_runtime.proofs.threads.raised_meanwhile.Goals as goal

pub join-stops-requires-send-F : goal.join-stops-requires-send-F
join-stops-requires-send-F g c κs within = search (job_sync, cells.the_sync, lane.the_send, frame.the_send, crosses, sendable) depth 60

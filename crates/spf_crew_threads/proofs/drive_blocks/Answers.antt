use Rattle.spf_crew_threads.specs.Driving.{MakesAttempts}
use Rattle.spf_crew_threads.proofs.drive_blocks.Goals as goal

pub in_threads-requires-clause-serves : goal.in_threads-requires-clause-serves
unfolding MakesAttempts
in_threads-requires-clause-serves g c κs within = c.requires.serves

use Rattle.spf_replay.specs.Schedule.{beginning}
use Rattle.spf_replay.proofs.Going.{goes, goes-once}
use Rattle.spf_replay.proofs.laws.each_construct_has_one_schedule.Goals as goal

pub returns-clause-some : goal.returns-clause-some
returns-clause-some c e guess state = goes e (beginning e guess state)

pub returns-clause-one : goal.returns-clause-one
returns-clause-one c e guess state last other steps others p q = goes-once e p q

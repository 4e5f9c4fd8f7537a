use Rattle.std.specs.List.{All}
use Rattle.spf_crew.specs.Mates.{IsMateOf}
use Rattle.spf_tests_runtime.proofs.turns.answers.Given as goal

-- the mates are still of this crew
abbrev pub invariant-loop-mate : goal.invariant-loop-mate
invariant-loop-mate g l = All (IsMateOf l.crew) l.mates
